-- Cutting gives the packets of a message, and joining them gives the message.
use Rattle.std.proofs.Common.{◌≡◌, refl, sym, ap, subst, ◌∙◌, true, false, cond, List, [], ◌∷◌, ◌++◌, append_assoc, append-nil, ℕ, zero, suc, ◌+◌, ◌-◌, ◌*◌, ◌/◌, ◌%◌, ◌<◌, ◌≤◌, suc-mul, zero-mul, arith, le-leb, le-ltb, lt-ltb, eq-eqb, ne_eqb, length, take, drop, length-drop, length-take, take-add, take_all}
use Rattle.base.specs.Answer.{done}
use Rattle.base.specs.Buffer.{put}
use Rattle.base.proofs.Put.{put-length, put-take}
use Rattle.base.proofs.Tests.{within_low, leb_same}
use Rattle.chain.specs.declared.Joining.{Joining}
use Rattle.chain.specs.Pctr.{only_channel, pctr_of, whole, first, middle, last}
use Rattle.chain.specs.Cut.{limit_ok, longest, part_size, packet_count, chain_at, part_at, packet_at, packets_to, message_gate, cut_gate, given, cut_out}
use Rattle.chain.specs.Join.{fresh_joining, packet_gate, join_gate, finishes, faulty, place_of, total_of, chain_gate, part_added, part_joined, joined}
use Rattle.chain.specs.Promises.{cuts_to, CutsAll, LimitsAgree, Sized, none, more, PacketsSized, Reader, message_in, read_one, read_all, Idle, dones, Rejoined, RejoinsAll, NoneBefore}
use Rattle.chain.proofs.Parts.{part_begins, parts_all}

-- ---- cutting

-- "the first k" of a list at its end
pub read_all_end : (m : ℕ) (r : Reader) (packets : List (List ℕ)) (packet : List ℕ) → read_all m r (packets ++ (packet ∷ [])) ≡ read_one m (read_all m r packets) packet
read_all_end m r [] packet = refl
read_all_end m r (p ∷ packets) packet = read_all_end m (read_one m r p) packets packet

cut_gate_open : (m buffer message i : ℕ) → limit_ok m ≡ true → m ≤ buffer → 1 ≤ message → message ≤ longest → i < packet_count m message → cut_gate m buffer message i ≡ done
unfolding cut_gate message_gate
cut_gate_open m buffer message i e b lo hi c =
    rw (e, le-ltb buffer m b, le-leb 1 message lo, le-leb message longest hi, lt-ltb i (packet_count m message) c)

cut_given : (m i : ℕ) (message buffer : List ℕ) → limit_ok m ≡ true → m ≤ length buffer → 1 ≤ length message → length message ≤ longest → i < packet_count m (length message)
    → cut_out m message i buffer ≡ given m only_channel message i buffer
unfolding cut_out
cut_given m i message buffer e b lo hi c = rw (cut_gate_open m (length buffer) (length message) i e b lo hi c)

-- a packet is at most m bytes
packet_fits : (m channel i : ℕ) (message : List ℕ) → 11 ≤ m → length (packet_at m channel message i) ≤ m
packet_fits m channel i message h = simp length-take (omega arith)

cuts_first : (m k : ℕ) (message buffer : List ℕ) → limit_ok m ≡ true → m ≤ length buffer → 1 ≤ length message → length message ≤ longest → k ≤ packet_count m (length message)
    → cuts_to m message buffer k ≡ packets_to m only_channel message k
cuts_first m zero message buffer e b lo hi c = refl
cuts_first m (suc k) message buffer e b lo hi c =
    let packet : List ℕ = packet_at m only_channel message k in
    let fits : length packet ≤ length buffer = omega (arith, packet_fits m only_channel k message (within_low 11 m 1019 e)) in
    let taken : take (length packet) (put buffer 0 packet) ≡ packet = put-take buffer packet 0 (length packet) (omega arith) fits in
    rw (cut_given m k message buffer e b lo hi c, cuts_first m k message buffer e b lo hi (omega arith), taken)

pub cuts_all : CutsAll
cuts_all m message buffer e b lo hi = cuts_first m (packet_count m (length message)) message buffer e b lo hi (omega arith)

-- ---- sizes

pub limits_agree : LimitsAgree
limits_agree d = rw (leb_same 16 d 11 (d - 5) (λ h. omega arith) (λ h. omega arith), leb_same d 1024 (d - 5) 1019 (λ h. omega arith) (λ h. omega arith))

-- a packet that is counted has a byte of the message
packet_some : (m channel i : ℕ) (message : List ℕ) → 11 ≤ m → i < packet_count m (length message) → 2 ≤ length (packet_at m channel message i)
packet_some m channel i message h c =
    let inside : i * part_size m < length message = part_begins m (length message) i h c in
    simp (length-take, length-drop) (omega (arith, inside))

sized_end : (m : ℕ) (packets : List (List ℕ)) (packet : List ℕ) → Sized m packets → 2 ≤ length packet → length packet ≤ m → Sized m (packets ++ (packet ∷ []))
sized_end m packets packet none lo hi = more packet [] lo hi none
sized_end m packets packet (more p ps l h rest) lo hi = more p (ps ++ (packet ∷ [])) l h (sized_end m ps packet rest lo hi)

sized_first : (m channel k : ℕ) (message : List ℕ) → 11 ≤ m → k ≤ packet_count m (length message) → Sized m (packets_to m channel message k)
sized_first m channel zero message h c = none
sized_first m channel (suc k) message h c =
    sized_end m (packets_to m channel message k) (packet_at m channel message k) (sized_first m channel k message h (omega arith)) (packet_some m channel k message h c)
    (packet_fits m channel k message h)

pub packets_sized : PacketsSized
packets_sized m channel message e = sized_first m channel (packet_count m (length message)) message (within_low 11 m 1019 e) (omega arith)

-- ---- joining one packet

-- a packet that nothing stands against is joined: on channel 0, not secured, CHAIN one of the four
joined_open : (m : ℕ) (j : Joining) (chain : ℕ) (part room : List ℕ) → limit_ok m ≡ true → j.length ≤ longest → longest ≤ length room
    → 1 ≤ length part → length part + 1 ≤ m → chain ≤ 4 → faulty m j.opened chain (suc (length part)) ≡ false
    → total_of j chain (suc (length part)) ≤ longest
    → joined m j (pctr_of only_channel chain ∷ part) room ≡ part_added j (pctr_of only_channel chain ∷ part) chain room
unfolding joined join_gate packet_gate part_joined chain_gate
joined_open m j chain part room e small enough lo hi c ok total =
    let channel : (0 * 16 + chain) / 16 ≡ 0 = omega arith in
    let read : (0 * 16 + chain) % 8 ≡ chain = omega arith in
    let plain : (0 * 16 + chain) / 8 % 2 ≡ 0 = omega arith in
    rw (
      e,
      le-leb j.length longest small,
      le-ltb (length room) longest enough,
      le-leb 1 (suc (length part)) (omega arith),
      le-leb (suc (length part)) m (omega arith),
      channel,
      read,
      plain,
      ne_eqb chain 7 (λ q. omega arith),
      ok,
      le-ltb longest (total_of j chain (suc (length part))) total,
    )

-- the state after the first k packets
abbrev state_at : ℕ → Reader → ℕ → Joining
state_at m r zero = r.state
state_at m r (suc k) = record { length = suc k * part_size m; opened = true }

-- after the first k packets of the message, and before the last
record Reading (m : ℕ) (message : List ℕ) (k : ℕ) (r s : Reader) : Type 0 where
  answers : s.answers ≡ r.answers ++ dones k
  messages : s.messages ≡ r.messages
  enough : length s.room ≡ length r.room
  state : s.state ≡ state_at m r k
  bytes : take (k * part_size m) s.room ≡ take (k * part_size m) message

-- what one more packet, with the part from k × (m − 1) on, does
read_one_lem : (m k chain : ℕ) (message : List ℕ) (s : Reader) (part : List ℕ) → limit_ok m ≡ true → s.state.length ≤ longest → longest ≤ length s.room
    → 1 ≤ length part → length part + 1 ≤ m → chain ≤ 4 → faulty m s.state.opened chain (suc (length part)) ≡ false
    → place_of s.state chain ≡ k * part_size m → k * part_size m + length part ≤ longest
    → read_one m s (pctr_of only_channel chain ∷ part) ≡ record {
      state = cond (finishes chain) fresh_joining (record { length = k * part_size m + length part; opened = true });
      room = put s.room (k * part_size m) part;
      answers = s.answers ++ (done ∷ []);
      messages = s.messages ++ message_in (cond (finishes chain) (k * part_size m + length part) 0) (put s.room (k * part_size m) part);
    }
read_one_lem m k chain message s part e small enough lo hi c ok place total =
    let at : ℕ = k * part_size m in
    let size : suc (length part) - 1 ≡ length part = omega arith in
    let to : total_of s.state chain (suc (length part)) ≡ at + length part = rw (place, size) in
    let j : joined m s.state (pctr_of only_channel chain ∷ part) s.room ≡ part_added s.state (pctr_of only_channel chain ∷ part) chain s.room =
    joined_open m s.state chain part s.room e small enough lo hi c ok (rw to total) in
    rw (j, to, place)

-- ---- which CHAIN

chain_first : (m : ℕ) → faulty m false first m ≡ false
unfolding faulty
chain_first m = rw (eq-eqb m m refl)

chain_middle : (m : ℕ) → faulty m true middle m ≡ false
unfolding faulty
chain_middle m = rw (eq-eqb m m refl)

chain_whole : (m size : ℕ) → 2 ≤ size → faulty m false whole size ≡ false
unfolding faulty
chain_whole m size h = rw (ne_eqb size 1 (λ q. omega arith))

chain_last : (m size : ℕ) → 2 ≤ size → faulty m true last size ≡ false
unfolding faulty
chain_last m size h = rw (ne_eqb size 1 (λ q. omega arith))

-- ---- the parts

-- a part that is not the last is full
full_part : (m k : ℕ) (message : List ℕ) → 11 ≤ m → suc k < packet_count m (length message) → length (part_at m message k) ≡ part_size m
full_part m k message h c =
    let next : suc k * part_size m < length message = part_begins m (length message) (suc k) h c in
    simp (length-take, length-drop) (omega (arith, suc-mul k (part_size m)))

-- the last is what is left, and there is some
last_part : (m k : ℕ) (message : List ℕ) → 11 ≤ m → suc k ≡ packet_count m (length message) → length (part_at m message k) + k * part_size m ≡ length message
last_part m k message h c =
    let here : k * part_size m < length message = part_begins m (length message) k h (omega arith) in
    let all : length message ≤ suc k * part_size m = rw c (parts_all m (length message) h) in
    simp (length-take, length-drop) (omega (arith, suc-mul k (part_size m)))

-- what was joined before a part and the part are the message up to its end
put_part_bytes : (p k : ℕ) (room message part : List ℕ) → part ≡ take p (drop (k * p) message) → k * p + length part ≤ length room → take (k * p) room ≡ take (k * p) message
    → take (k * p + length part) (put room (k * p) part) ≡ take (k * p + p) message
put_part_bytes p k room message part e h b =
    put-take room part (k * p) (k * p + length part) refl h ∙ rw (b, e) (sym (take-add (k * p) p message))

-- ---- packet after packet

-- what is read of a message with a part that is not the last
read_on : (m k chain : ℕ) (message : List ℕ) (r s : Reader) → limit_ok m ≡ true → length message ≤ longest → Idle r → Reading m message k r s
    → suc k < packet_count m (length message) → s.state.length ≤ longest → chain ≤ 4 → finishes chain ≡ false
    → faulty m s.state.opened chain m ≡ false → place_of s.state chain ≡ k * part_size m
    → Reading m message (suc k) r (read_one m s (pctr_of only_channel chain ∷ part_at m message k))
read_on m k chain message r s e hi idle ih c small c4 f ok place =
    let p : ℕ = part_size m in
    let part : List ℕ = part_at m message k in
    let m_lo : 11 ≤ m = within_low 11 m 1019 e in
    let len : length part ≡ p = full_part m k message m_lo c in
    let next : suc k * p < length message = part_begins m (length message) (suc k) m_lo c in
    let to : k * p + length part ≡ suc k * p = omega (arith, suc-mul k p) in
    let to2 : k * p + p ≡ suc k * p = omega (arith, suc-mul k p) in
    let size : suc (length part) ≡ m = omega arith in
    let enough : longest ≤ length s.room = omega (arith, ih.enough, idle.enough) in
    let one = read_one_lem m k chain message s part e small enough (omega arith) (omega arith) c4 (rw size ok) place (omega arith) in
    subst (λ x. Reading m message (suc k) r x) (sym one) (record {
      answers = rw ih.answers (append_assoc r.answers (dones k) (done ∷ []));
      messages = rw f (append-nil s.messages ∙ ih.messages);
      enough = put-length s.room part (k * p) (omega arith) ∙ ih.enough;
      state = rw (f, to);
      bytes = subst (λ n. take n (put s.room (k * p) part) ≡ take (suc k * p) message) to
          (put_part_bytes p k s.room message part refl (omega arith) ih.bytes ∙ ap (λ (n : ℕ). take n message) to2);
    })

reading : (m k : ℕ) (message : List ℕ) (r : Reader) → limit_ok m ≡ true → 1 ≤ length message → length message ≤ longest → Idle r → k < packet_count m (length message)
    → Reading m message k r (read_all m r (packets_to m only_channel message k))
reading m zero message r e lo hi idle c =
    record { answers = sym (append-nil r.answers); messages = refl; enough = refl; state = refl; bytes = rw zero-mul }
reading m (suc zero) message r e lo hi idle c =
    let ih : Reading m message 0 r r = reading m zero message r e lo hi idle (omega arith) in
    let chain : chain_at 0 (packet_count m (length message)) ≡ first = rw (ne_eqb (packet_count m (length message)) 1 (λ q. omega arith)) in
    subst (λ x. Reading m message 1 r (read_one m r (pctr_of only_channel x ∷ part_at m message 0))) (sym chain)
    (read_on m 0 first message r r e hi idle ih c idle.small (omega arith) refl (rw idle.closed (chain_first m)) (sym (zero-mul (part_size m))))
reading m (suc (suc k)) message r e lo hi idle c =
    let count : ℕ = packet_count m (length message) in
    let s : Reader = read_all m r (packets_to m only_channel message (suc k)) in
    let ih : Reading m message (suc k) r s = reading m (suc k) message r e lo hi idle (omega arith) in
    let inside : suc k * part_size m < length message = part_begins m (length message) (suc k) (within_low 11 m 1019 e) (omega arith) in
    let chain : chain_at (suc k) count ≡ middle = rw (ne_eqb count 1 (λ q. omega arith), ne_eqb (suc k) 0 (λ q. omega arith), ne_eqb (suc k + 1) count (λ q. omega arith)) in
    rw (read_all_end m r (packets_to m only_channel message (suc k)) (packet_at m only_channel message (suc k)))
    (subst (λ x. Reading m message (suc (suc k)) r (read_one m s (pctr_of only_channel x ∷ part_at m message (suc k)))) (sym chain)
    (read_on m (suc k) middle message r s e hi idle ih c (rw ih.state (omega arith)) (omega arith) refl (rw ih.state (chain_middle m)) (rw ih.state)))

pub none_before : NoneBefore
none_before m message r k e lo hi idle c =
    let s = reading m k message r e lo hi idle c in
    record { answers = s.answers; messages = s.messages }

-- the last packet gives the message
read-last : (m k chain : ℕ) (message : List ℕ) (r s : Reader) → limit_ok m ≡ true → length message ≤ longest → Idle r → Reading m message k r s
    → suc k ≡ packet_count m (length message) → s.state.length ≤ longest → chain ≤ 4 → finishes chain ≡ true
    → ((size : ℕ) → 2 ≤ size → faulty m s.state.opened chain size ≡ false) → place_of s.state chain ≡ k * part_size m
    → Rejoined m message r (read_one m s (pctr_of only_channel chain ∷ part_at m message k))
read-last m k chain message r s e hi idle ih c small c4 f ok place =
    let p : ℕ = part_size m in
    let part : List ℕ = part_at m message k in
    let m_lo : 11 ≤ m = within_low 11 m 1019 e in
    let here : k * p < length message = part_begins m (length message) k m_lo (omega arith) in
    let len : length part + k * p ≡ length message = last_part m k message m_lo c in
    let to : k * p + length part ≡ length message = omega arith in
    let short : length part ≤ p = simp length-take (omega arith) in
    let upto : length message ≤ suc k * p = rw c (parts_all m (length message) m_lo) in
    let all : length message ≤ k * p + p = omega (arith, suc-mul k p) in
    let enough : longest ≤ length s.room = omega (arith, ih.enough, idle.enough) in
    let one = read_one_lem m k chain message s part e small enough (omega arith) (omega arith) c4 (ok (suc (length part)) (omega arith)) place (omega arith) in
    let bytes : take (length message) (put s.room (k * p) part) ≡ message =
    subst (λ n. take n (put s.room (k * p) part) ≡ message) to
    (put_part_bytes p k s.room message part refl (omega arith) ih.bytes ∙ take_all (k * p + p) message all) in
    subst (λ x. Rejoined m message r x) (sym one) (record {
      answers = rw (ih.answers, ← c) (append_assoc r.answers (dones k) (done ∷ []));
      messages = rw (f, to, ne_eqb (length message) 0 (λ q. omega arith), bytes, ih.messages);
      state = rw f;
      enough = put-length s.room part (k * p) (omega arith) ∙ ih.enough;
    })

last-read : (m k : ℕ) (message : List ℕ) (r : Reader) → limit_ok m ≡ true → 1 ≤ length message → length message ≤ longest → Idle r
    → suc k ≡ packet_count m (length message) → Rejoined m message r (read_all m r (packets_to m only_channel message (suc k)))
last-read m zero message r e lo hi idle c =
    let ih : Reading m message 0 r r = reading m zero message r e lo hi idle (omega arith) in
    let chain : chain_at 0 (packet_count m (length message)) ≡ whole = rw (eq-eqb (packet_count m (length message)) 1 (sym c)) in
    subst (λ x. Rejoined m message r (read_one m r (pctr_of only_channel x ∷ part_at m message 0))) (sym chain)
    (read-last m 0 whole message r r e hi idle ih c idle.small (omega arith) refl (λ size h. rw idle.closed (chain_whole m size h)) (sym (zero-mul (part_size m))))
last-read m (suc k) message r e lo hi idle c =
    let count : ℕ = packet_count m (length message) in
    let s : Reader = read_all m r (packets_to m only_channel message (suc k)) in
    let ih : Reading m message (suc k) r s = reading m (suc k) message r e lo hi idle (omega arith) in
    let inside : suc k * part_size m < length message = part_begins m (length message) (suc k) (within_low 11 m 1019 e) (omega arith) in
    let chain : chain_at (suc k) count ≡ last = rw (ne_eqb count 1 (λ q. omega arith), ne_eqb (suc k) 0 (λ q. omega arith), eq-eqb (suc k + 1) count (omega arith)) in
    rw (read_all_end m r (packets_to m only_channel message (suc k)) (packet_at m only_channel message (suc k)))
    (subst (λ x. Rejoined m message r (read_one m s (pctr_of only_channel x ∷ part_at m message (suc k)))) (sym chain)
    (read-last m (suc k) last message r s e hi idle ih c (rw ih.state (omega arith)) (omega arith) refl (λ size h. rw ih.state (chain_last m size h)) (rw ih.state)))

-- a message of at least one byte has at least one packet
some_packet : (m message : ℕ) → 11 ≤ m → 1 ≤ message → 1 ≤ packet_count m message
some_packet m message h lo = go (packet_count m message) refl
  where
    go : (count : ℕ) → packet_count m message ≡ count → 1 ≤ count
    go zero q = absurd (omega (arith, subst (λ n. message ≤ n * part_size m) q (parts_all m message h), zero-mul (part_size m)))
    go (suc count) q = omega arith

pub rejoins_all : RejoinsAll
rejoins_all m message r e lo hi idle = go (packet_count m (length message)) refl
  where
    go : (count : ℕ) → packet_count m (length message) ≡ count → Rejoined m message r (read_all m r (packets_to m only_channel message count))
    go zero q = absurd (omega (arith, some_packet m (length message) (within_low 11 m 1019 e) lo))
    go (suc k) q = last-read m k message r e lo hi idle (sym q)

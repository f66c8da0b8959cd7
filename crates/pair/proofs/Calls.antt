-- Each call of an end keeps what holds at every moment.
use Rattle.std.proofs.Common.{◌≡◌, refl, sym, ap, subst, ◌∙◌, Bool, true, false, cond, List, [], ◌∷◌, append-nil, ℕ, ◌%◌, ◌+◌, ◌-◌, ◌*◌, ◌≤◌, ◌<◌, arith, ne_eqb, length, get_or, set, length-take, length-drop}
use Rattle.base.proofs.Put.{put-take}
use Rattle.frame.specs.declared.Format.{Format}
use Rattle.frame.specs.declared.Heard.{Heard}
use Rattle.frame.specs.declared.Heard.TheVariants.{Ack, Nak, Data}
use Rattle.frame.specs.Bytes.{data_frame, ack_frame, nak_frame}
use Rattle.frame.specs.Steps.{heard, packet_in}
use Rattle.frame.proofs.Writing.{frame_of-length}
use Rattle.frame.proofs.Hearing.{data_heard, packet_heard, ack_heard, nak_heard}
use Rattle.state.specs.declared.Settings.{Settings}
use Rattle.state.specs.declared.Link.{Link}
use Rattle.state.specs.declared.Outcome.{Outcome}
use Rattle.state.specs.Bounds.{limit_of, slots_need}
use Rattle.state.specs.State.{last_correct, sent_before, slot_of, length_of, repeated_of}
use Rattle.state.specs.Gate.{After}
use Rattle.state.specs.Formed.{InRange, Formed}
use Rattle.state.proofs.Facts.{well_formed_facts, slot_of_lt, part_inside}
use Rattle.state.proofs.Keeps.{marked_sound}
use Rattle.send.specs.Repeat.{part_of, packet_of, again, may_repeat}
use Rattle.send.specs.Makers.{sends, silent, concluded, ack_stopped, marked, sends_repeat, sends_ack, sends_nak}
use Rattle.send.proofs.Keeps.{again_sound, ack_stopped_sound}
use Rattle.pair.specs.System.{IsClock}
use Rattle.pair.specs.TrueCalls.{Side, System, sent_by, called}
use Rattle.pair.proofs.Line.{Idle, a-nak, line_data, line_ack, line_idle}
use Rattle.pair.proofs.Invariant.{Way, Inv, set_timed, turned, restated, inv_turned, window_small}

-- ---- frames of the end here, heard there: both have one format

pub heard_there : (s : Settings) (l : Link) (write : Format → List ℕ) (h : Heard) → l.settings ≡ s → heard s.format (write s.format) ≡ h
    → heard s.format (write l.settings.format) ≡ h
heard_there s l write h e k = subst (λ (x : Settings). heard s.format (write x.format) ≡ h) (sym e) k

-- ---- what a call leaves

-- the frame that was put at the start of the buffer is the frame that was sent
pub sent_frame : (l : Link) (bytes frame slots : List ℕ) (answer delivered : ℕ) → 1 ≤ length bytes → length bytes ≤ length frame
    → sent_by (concluded (sends l bytes frame) answer delivered slots) ≡ bytes ∷ []
sent_frame l bytes frame slots answer delivered lo hi =
    rw (ne_eqb (length bytes) 0 (λ q. omega arith), put-take frame bytes 0 (length bytes) (omega arith) hi)

-- a call that took and delivered nothing
pub called-turned : (S : System) (a : After Outcome) (q sent : List (List ℕ)) → sent_by a ≡ sent → a.slots ≡ S.here.slots
    → called S a q [] [] ≡ turned S a.told.state q sent
called-turned S a q sent e k = rw (e, k, append-nil S.here.taken, append-nil S.here.delivered)

-- ---- nothing but a frame sent

pub inv_same : (s : Settings) (S : System) → Inv s S → Inv s (turned S S.here.state S.here.queue [])
inv_same s S I =
    inv_turned s S S.here.state.starts S.here.state.repeated S.here.state.ackstart S.here.state.acking S.here.state.nakmark S.here.state.lost [] I I.here.sound I.here.timed
    (rw append-nil I.to_there)

pub last_said : (s : Settings) (x : Side) (t : List (List ℕ)) (b g : ℕ) → Way s x t b g → last_correct x.state ≡ (g + 3) % 4
last_said s x t b g w = omega (arith, w.expected)

-- a control ACK, whatever becomes of marks and timers
pub inv_acked : (s : Settings) (S : System) → InRange s → Inv s S → Inv s (turned S (ack_stopped S.here.state) S.here.queue (ack_frame S.here.state.settings.format (last_correct S.here.state) ∷ []))
inv_acked s S r I =
    let l : Link = S.here.state in
    let a : last_correct l ≡ (I.got_here + 3) % 4 = last_said s S.here S.there.taken I.freed_here I.got_here I.here in
    inv_turned s S l.starts l.repeated l.ackstart false l.nakmark l.lost (ack_frame l.settings.format (last_correct l) ∷ []) I (ack_stopped_sound l I.here.sound) I.here.timed
    (line_ack s.format S.here.taken (ack_frame l.settings.format (last_correct l)) S.there.queue
    (heard_there s l (λ f. ack_frame f (last_correct l)) _ I.here.settings (ack_heard s.format (last_correct l) (omega arith) (omega (arith, r.d_lo))) ∙ ap Ack a) I.to_there)

-- the frame by which the packet that j were sent after is repeated
abbrev pub repeat_of : Side → ℕ → List ℕ
repeat_of x j = data_frame x.state.settings.format (sent_before x.state j) (last_correct x.state) (packet_of x.state x.slots (sent_before x.state j))

-- that packet lies in the slots, and is as long as the state says
pub waiting_length : (s : Settings) (x : Side) (t : List (List ℕ)) (b g j : ℕ) → Way s x t b g → j < x.state.waiting
    → length (packet_of x.state x.slots (sent_before x.state j)) ≡ length_of x.state (sent_before x.state j)
waiting_length s x t b g j w h =
    let l : Link = x.state in
    let k : ℕ = sent_before l j in
    let formed : Formed l = well_formed_facts l w.sound.formed in
    let room : slots_need l.settings ≤ length x.slots = rw w.settings w.room in
    let inside : part_of l k + length_of l k ≤ length x.slots =
    part_inside (slot_of l k) l.settings.window (limit_of l.settings) (length_of l k) (length x.slots) (slot_of_lt l k formed.settings.window_lo) (formed.lengths j h).most room in
    simp (length-take, length-drop) (omega arith)

-- so the frame has 1 to D bytes
pub repeat_size : (s : Settings) (x : Side) (t : List (List ℕ)) (b g j : ℕ) → InRange s → Way s x t b g → j < x.state.waiting
    → (1 ≤ length (repeat_of x j)) × (length (repeat_of x j) ≤ s.format.d)
repeat_size s x t b g j r w h =
    let l : Link = x.state in
    let k : ℕ = sent_before l j in
    let packet : List ℕ = packet_of l x.slots k in
    let size : length (repeat_of x j) ≡ length packet + 5 = frame_of-length l.settings.format (k * 4 + last_correct l) packet in
    let formed : Formed l = well_formed_facts l w.sound.formed in
    let len : length packet ≡ length_of l k = waiting_length s x t b g j w h in
    let d : l.settings.format.d ≡ s.format.d = ap (λ (y : Settings). y.format.d) w.settings in
    (omega arith, omega (arith, (formed.lengths j h).most, r.d_lo))

-- and is heard as it is meant
pub repeat-heard : (s : Settings) (x : Side) (t : List (List ℕ)) (b g j : ℕ) → InRange s → Way s x t b g → j < x.state.waiting
    → heard s.format (repeat_of x j)
    ≡ Data (sent_before x.state j) false (last_correct x.state) (length (packet_of x.state x.slots (sent_before x.state j)))
repeat-heard s x t b g j r w h =
    let l : Link = x.state in
    let k : ℕ = sent_before l j in
    let packet : List ℕ = packet_of l x.slots k in
    let formed : Formed l = well_formed_facts l w.sound.formed in
    let len : length packet ≡ length_of l k = waiting_length s x t b g j w h in
    let d : l.settings.format.d ≡ s.format.d = ap (λ (y : Settings). y.format.d) w.settings in
    heard_there s l (λ f. data_frame f k (last_correct l) packet) _ w.settings
    (data_heard s.format k (last_correct l) packet (omega arith) (omega arith) (omega (arith, len, (formed.lengths j h).least)) (omega (arith, len, (formed.lengths j h).most, r.d_lo)))

-- a packet that waits, repeated: the one that j were sent after
pub inv_repeated : (s : Settings) (S : System) (j ms : ℕ) → IsClock ms → InRange s → Inv s S → j < S.here.state.waiting → may_repeat S.here.state (sent_before S.here.state j) ≡ true
    → Inv s (turned S (again S.here.state (sent_before S.here.state j) ms) S.here.queue (repeat_of S.here j ∷ []))
inv_repeated s S j ms c r I h may =
    let l : Link = S.here.state in
    let f : ℕ = length S.here.taken - 1 - j in
    let k : ℕ = sent_before l j in
    let w : Way s S.here S.there.taken I.freed_here I.got_here = I.here in
    let small : l.waiting ≤ 2 = window_small s S.here S.there.taken I.freed_here I.got_here w in
    let number : f % 4 ≡ k = omega (arith, w.next, w.window) in
    let packet : List ℕ = packet_of l S.here.slots k in
    let len : length packet ≡ length_of l k = waiting_length s S.here S.there.taken I.freed_here I.got_here j w h in
    let a : last_correct l ≡ (I.got_here + 3) % 4 = last_said s S.here S.there.taken I.freed_here I.got_here w in
    let lo : 1 ≤ length packet = omega (arith, len, ((well_formed_facts l w.sound.formed).lengths j h).least) in
    let heard-as : heard s.format (data_frame l.settings.format k (last_correct l) packet) ≡ Data (f % 4) false ((I.got_here + 3) % 4) (length packet) =
    repeat-heard s S.here S.there.taken I.freed_here I.got_here j r w h ∙ rw (number, a) in
    let bytes : packet_in (data_frame l.settings.format k (last_correct l) packet) (length packet) ≡ get_or S.here.taken f [] =
    packet_heard l.settings.format k (last_correct l) packet ∙ subst (λ x. packet_of l S.here.slots x ≡ get_or S.here.taken f []) number (w.holds f (omega (arith, w.window)) (omega (arith, w.window))) in
    inv_turned s S (set l.starts (slot_of l k) ms) (set l.repeated (slot_of l k) (repeated_of l k + 1)) l.ackstart false l.nakmark l.lost (data_frame l.settings.format k (last_correct l) packet ∷ []) I (again_sound l k ms w.sound may)
    (set_timed l.starts (slot_of l k) ms w.timed.0 c, w.timed.1)
    (line_data s.format S.here.taken f (length packet) (data_frame l.settings.format k (last_correct l) packet) S.there.queue heard-as bytes lo (omega (arith, w.window)) (omega (arith, w.window)) I.to_there)

-- a control NAK
pub inv_nakked : (s : Settings) (S : System) → InRange s → Inv s S
    → Inv s (turned S (marked S.here.state) S.here.queue (nak_frame S.here.state.settings.format ((last_correct S.here.state + 1) % 4) ∷ []))
inv_nakked s S r I =
    let l : Link = S.here.state in
    let k : ℕ = (last_correct l + 1) % 4 in
    let heard-as : heard s.format (nak_frame l.settings.format k) ≡ Nak k =
    heard_there s l (λ f. nak_frame f k) _ I.here.settings (nak_heard s.format k (omega arith) (omega (arith, r.d_lo))) in
    inv_turned s S l.starts l.repeated l.ackstart l.acking true l.lost (nak_frame l.settings.format k ∷ []) I (marked_sound l l.ackstart l.acking true l.lost I.here.sound) I.here.timed
    (line_idle s.format S.here.taken (nak_frame l.settings.format k) S.there.queue (subst Idle (sym heard-as) (a-nak k)) I.to_there)

-- ---- how each maker ends a call

pub concluded-silent : (s : Settings) (S : System) (l : Link) (frame : List ℕ) (q : List (List ℕ)) (answer : ℕ)
    → Inv s (turned S l q []) → Inv s (called S (concluded (silent l frame) answer 0 S.here.slots) q [] [])
concluded-silent s S l frame q answer I = subst (Inv s) (sym (called-turned S (concluded (silent l frame) answer 0 S.here.slots) q [] refl refl)) I

pub concluded_sent : (s : Settings) (S : System) (l : Link) (bytes frame : List ℕ) (q : List (List ℕ)) (answer : ℕ) → 1 ≤ length bytes → length bytes ≤ length frame
    → Inv s (turned S l q (bytes ∷ [])) → Inv s (called S (concluded (sends l bytes frame) answer 0 S.here.slots) q [] [])
concluded_sent s S l bytes frame q answer lo hi I =
    subst (Inv s) (sym (called-turned S (concluded (sends l bytes frame) answer 0 S.here.slots) q (bytes ∷ []) (sent_frame l bytes frame S.here.slots answer 0 lo hi) refl)) I

-- the end's queue is q
abbrev pub Before : Settings → System → List (List ℕ) → Type 0
Before s S q = Inv s (restated S S.here.state q)

pub concluded_ack : (s : Settings) (S : System) (frame : List ℕ) (q : List (List ℕ)) (answer : ℕ) → InRange s → 5 ≤ length frame → Before s S q
    → Inv s (called S (concluded (sends_ack S.here.state frame) answer 0 S.here.slots) q [] [])
concluded_ack s S frame q answer r h I =
    concluded_sent s S (ack_stopped S.here.state) (ack_frame S.here.state.settings.format (last_correct S.here.state)) frame q answer (omega (arith, frame_of-length S.here.state.settings.format (0x80 + last_correct S.here.state) [])) (omega (arith, frame_of-length S.here.state.settings.format (0x80 + last_correct S.here.state) []))
    (inv_acked s (restated S S.here.state q) r I)

pub concluded_nothing : (s : Settings) (S : System) (frame : List ℕ) (q : List (List ℕ)) (answer : ℕ) → Before s S q → Inv s (called S (concluded (silent S.here.state frame) answer 0 S.here.slots) q [] [])
concluded_nothing s S frame q answer I = concluded-silent s S S.here.state frame q answer (inv_same s (restated S S.here.state q) I)

pub concluded_nak : (s : Settings) (S : System) (frame : List ℕ) (q : List (List ℕ)) (answer : ℕ) → InRange s → 5 ≤ length frame → Before s S q
    → Inv s (called S (concluded (sends_nak S.here.state frame) answer 0 S.here.slots) q [] [])
concluded_nak s S frame q answer r h I = go S.here.state.nakmark
  where
    k : ℕ
    k = (last_correct S.here.state + 1) % 4

    go : (t : Bool) → Inv s (called S (concluded (cond t (silent S.here.state frame) (sends (marked S.here.state) (nak_frame S.here.state.settings.format k) frame)) answer 0 S.here.slots) q [] [])
    go true = concluded_nothing s S frame q answer I
    go false = concluded_sent s S (marked S.here.state) (nak_frame S.here.state.settings.format k) frame q answer (omega (arith, frame_of-length S.here.state.settings.format (0xA0 + k) [])) (omega (arith, frame_of-length S.here.state.settings.format (0xA0 + k) [])) (inv_nakked s (restated S S.here.state q) r I)

pub concluded-repeat : (s : Settings) (S : System) (j ms : ℕ) (frame : List ℕ) (q : List (List ℕ)) (answer : ℕ) → IsClock ms → InRange s → s.format.d ≤ length frame → Before s S q
    → j < S.here.state.waiting → may_repeat S.here.state (sent_before S.here.state j) ≡ true
    → Inv s (called S (concluded (sends_repeat S.here.state S.here.slots frame ms (sent_before S.here.state j)) answer 0 S.here.slots) q [] [])
concluded-repeat s S j ms frame q answer c r room I h may =
    let l : Link = S.here.state in
    let k : ℕ = sent_before l j in
    let size : (1 ≤ length (repeat_of S.here j)) × (length (repeat_of S.here j) ≤ s.format.d) =
    repeat_size s (restated S l q).here S.there.taken I.freed_here I.got_here j r I.here h in
    concluded_sent s S (again l k ms) (repeat_of S.here j) frame q answer size.0 (omega (arith, size.1, room)) (inv_repeated s (restated S l q) j ms c r I h may)

-- Ways to cut and to join that the contracts shut out, those of R13.3 and more; proofs/Shut.antt shows it. A contract is an equation with `cut_out` or
-- `joined` on every input, so a call that is to meet it is that function. Each wrong one here is a function too, the true one but for one thing, and
-- ShutOut says that it is not the true one. "against" names the rule that it breaks.
use Rattle.std.specs.Prelude.{ℕ, ◌+◌, ◌-◌, ◌*◌, ◌/◌, ◌%◌, ◌≤◌, Bool, true, false, cond, not, ◌&&◌, List, [], ◌∷◌, ◌++◌, ◌≢◌, length, take, drop, get_or, set, eqb, ltb}
use Rattle.base.specs.Answer.{done, message_size, no_such_packet, chain_fault, other_channel, secured_packet, too_long, fault_told}
use Rattle.base.specs.Buffer.{put}
use Rattle.chain.specs.declared.Joining.{Joining}
use Rattle.chain.specs.Pctr.{only_channel, channel_of, secured_of, chain_of, pctr_of, whole, middle, last}
use Rattle.chain.specs.Cut.{longest, part_size, packet_count, chain_at, part_at, packet_at, Cutting, cutting, given, cut_out}
use Rattle.chain.specs.Join.{closed, Joins, joins, fault_packet, refusal, total_of, part_added, joined}

-- ---- cut

abbrev pub CutCall : Type 0
CutCall = ℕ → List ℕ → ℕ → List ℕ → Cutting

-- cut, with what it leaves changed, by the length of the message, the packet's number and the buffer that was lent
abbrev pub cut_but : (ℕ → ℕ → List ℕ → Cutting → Cutting) → CutCall
cut_but change m message i buffer = change (length message) i buffer (cut_out m message i buffer)

-- R13.3, the five: it refuses all, by whatever number (done: it does nothing, and claims to have done it), ..
abbrev pub cut_refusing : ℕ → CutCall
cut_refusing answer m message i buffer = cutting (record { count = 0; length = 0; answer = answer }) buffer

-- .. always gives the same packet, ..
abbrev pub cut_repeating : List ℕ → CutCall
cut_repeating same =
    cut_but (λ message i buffer right.
    cutting (record { count = right.told.count; length = length same; answer = right.told.answer }) (put buffer 0 same))

-- .. gives the first and then only pretends, ..
abbrev pub cut_pretending : CutCall
cut_pretending = cut_but (λ message i buffer right. cutting right.told (cond (eqb i 0) right.buffer buffer))

-- .. tells so many more packets, or bytes
abbrev pub cut_inventing : ℕ → ℕ → CutCall
cut_inventing count bytes =
    cut_but (λ message i buffer right.
    cutting (record { count = right.told.count + count; length = right.told.length + bytes; answer = right.told.answer }) right.buffer)

-- against R2.4: content with a buffer of one byte less: it does as the true call does with one byte more, and gives back as many as were lent
abbrev pub cut_sparing : CutCall
cut_sparing m message i buffer =
    let longer : Cutting = cut_out m message i (buffer ++ (0 ∷ [])) in
    cutting longer.told (take (length buffer) longer.buffer)

-- against R8.16: one packet more than there are
abbrev pub cut_past_last : CutCall
cut_past_last m message i buffer =
    let right : Cutting = cut_out m message i buffer in
    cond (eqb right.told.answer no_such_packet && eqb i (packet_count m (length message))) (given m only_channel message i buffer) right

-- against R8.13: an empty message as one packet, of PCTR alone
abbrev pub cut_empty : CutCall
cut_empty =
    cut_but (λ message i buffer right.
    cond (eqb right.told.answer message_size && eqb message 0)
    (cutting (record { count = 1; length = 1; answer = done }) (put buffer 0 (pctr_of only_channel whole ∷ []))) right)

-- against R9.3: a byte, whatever it is, goes right behind the packet ..
abbrev pub cut_overrunning : ℕ → CutCall
cut_overrunning byte =
    cut_but (λ message i buffer right. cond (eqb right.told.answer done) (cutting right.told (set right.buffer right.told.length byte)) right)

-- .. or becomes the buffer's first, where cut refuses
abbrev pub cut_smearing : ℕ → CutCall
cut_smearing byte = cut_but (λ message i buffer right. cond (eqb right.told.answer done) right (cutting right.told (set buffer 0 byte)))

-- against R1.6: a packet told one byte shorter than it is
abbrev pub cut_shorter : CutCall
cut_shorter =
    cut_but (λ message i buffer right.
    cutting (record { count = right.told.count; length = right.told.length - 1; answer = right.told.answer }) right.buffer)

-- what is given, by another count of the packets (of m and the length of the message) and of other bytes (of m, the message and i)
abbrev pub cut_by : (ℕ → ℕ → ℕ) → (ℕ → List ℕ → ℕ → List ℕ) → CutCall
cut_by count packet m message i buffer =
    let right : Cutting = cut_out m message i buffer in
    let told : List ℕ = packet m message i in
    cond (eqb right.told.answer done)
    (cutting (record { count = count m (length message); length = length told; answer = done }) (put buffer 0 told))
    right

-- against R7.3: where m − 1 divides the length, an empty packet more is counted
abbrev pub empty_more : ℕ → ℕ → ℕ
empty_more m message = (message + part_size m) / part_size m

-- against R7.3: the last packet but one is marked as the last, unless it is the first; the last as a middle one
abbrev pub last_early : ℕ → List ℕ → ℕ → List ℕ
last_early m message i =
    let count : ℕ = packet_count m (length message) in
    pctr_of only_channel (cond (eqb i 0) (chain_at i count) (chain_at (i + 1) count)) ∷ part_at m message i

-- against R7.3: the part from i × m on
abbrev pub part_by_limit : ℕ → List ℕ → ℕ → List ℕ
part_by_limit m message i = pctr_of only_channel (chain_at i (packet_count m (length message))) ∷ take (part_size m) (drop (i * m) message)

pub record CutShut : Type 0 where
  pub refuses : (answer : ℕ) → answer ≢ done → cut_refusing answer ≢ cut_out
  pub repeats : (same : List ℕ) → cut_repeating same ≢ cut_out
  pub idles : cut_refusing done ≢ cut_out
  pub pretends : cut_pretending ≢ cut_out
  pub invents : (count bytes : ℕ) → 1 ≤ count + bytes → cut_inventing count bytes ≢ cut_out
  pub short_buffer : cut_sparing ≢ cut_out
  pub past_the_last : cut_past_last ≢ cut_out
  pub empty_message : cut_empty ≢ cut_out
  pub behind_the_packet : (byte : ℕ) → cut_overrunning byte ≢ cut_out
  pub on_refusal : (byte : ℕ) → cut_smearing byte ≢ cut_out
  pub one_byte_less : cut_shorter ≢ cut_out
  pub empty_counted : cut_by empty_more (λ m. packet_at m only_channel) ≢ cut_out
  pub last_too_early : cut_by packet_count last_early ≢ cut_out
  pub wrong_part : cut_by packet_count part_by_limit ≢ cut_out

-- ---- join

abbrev pub JoinCall : Type 0
JoinCall = ℕ → Joining → List ℕ → List ℕ → Joins

-- join, with what it leaves changed, by the state and the room that were handed in
abbrev pub join_but : (Joining → List ℕ → Joins → Joins) → JoinCall
join_but change m j packet room = change j room (joined m j packet room)

-- an outcome with another state, and with another length told
abbrev pub leaving : Joining → ℕ → Joins → Joins
leaving j len a = joins (record { state = j; length = len; answer = a.told.answer; fault = a.told.fault }) a.room

-- R13.3, the same five: it refuses all, or does nothing, ..
abbrev pub join_refusing : ℕ → JoinCall
join_refusing answer m j packet room = joins (record { state = j; length = 0; answer = answer; fault = 0 }) room

-- .. always gives the same message, ..
abbrev pub join_repeating : List ℕ → JoinCall
join_repeating same =
    join_but (λ j room right. joins (leaving right.told.state (length same) right).told (put room 0 same))

-- .. joins the first packet of a message and then only pretends, ..
abbrev pub join_pretending : JoinCall
join_pretending = join_but (λ j room right. joins right.told (cond j.opened room right.room))

-- .. tells so many more bytes
abbrev pub join_inventing : ℕ → JoinCall
join_inventing bytes = join_but (λ j room right. leaving right.told.state (right.told.length + bytes) right)

-- against R2.4: content with a room of one byte less
abbrev pub join_sparing : JoinCall
join_sparing m j packet room =
    let longer : Joins = joined m j packet (room ++ (0 ∷ [])) in
    joins longer.told (take (length room) longer.room)

-- another state with an answer: against R8.11 and R8.12, 11 or 12 that drops the chain (with 12 no chain is open, else it would be 10: what a state may
-- still have is a length), ..
abbrev pub drops_with : ℕ → JoinCall
drops_with answer = join_but (λ j room right. cond (eqb right.told.answer answer) (leaving (closed j) right.told.length right) right)

-- .. or, against R8.10, R8.14 and R8.15, 10, 14 or 15 that keeps it
abbrev pub keeps_with : ℕ → JoinCall
keeps_with answer = join_but (λ j room right. cond (eqb right.told.answer answer) (leaving j right.told.length right) right)

-- against R7.6: with this answer, too
abbrev pub fault_with : ℕ → JoinCall
fault_with answer =
    join_but (λ j room right.
    cond (eqb right.told.answer answer)
    (joins (record { state = right.told.state; length = right.told.length; answer = answer; fault = fault_packet only_channel }) right.room)
    right)

-- against R9.3: a byte becomes the first of the room, where join refuses, ..
abbrev pub join_smearing : ℕ → JoinCall
join_smearing byte = join_but (λ j room right. cond (eqb right.told.answer done) right (joins right.told (set room 0 byte)))

-- .. or goes right behind what is joined, where join does not
abbrev pub join_overrunning : ℕ → JoinCall
join_overrunning byte =
    join_but (λ j room right.
    cond (eqb right.told.answer done) (joins right.told (set right.room (right.told.state.length + right.told.length) byte)) right)

-- against R7.5: a packet with such a CHAIN is joined as if a chain were open, or as if none were: a 000 while one is, or a 100 while none is
abbrev pub as_if : ℕ → Bool → JoinCall
as_if chain opened m j packet room = joined m (cond (eqb (chain_of (get_or packet 0 0)) chain) (record { length = j.length; opened = opened }) j) packet room

-- against R7.7: the part of a 001, which opens a chain, goes behind what is joined, as that of a 010
abbrev pub behind_joined : JoinCall
behind_joined m j packet room =
    let right : Joins = joined m j packet room in
    cond (right.told.state.opened && not j.opened) (part_added j packet middle room) right

-- against R8.14: 4,097 bytes are joined where the room has them
abbrev pub one_more : JoinCall
one_more m j packet room =
    let right : Joins = joined m j packet room in
    let chain : ℕ = chain_of (get_or packet 0 0) in
    cond (eqb right.told.answer too_long && (eqb (total_of j chain (length packet)) (longest + 1) && ltb longest (length room)))
    (part_added j packet chain room)
    right

-- against R7.5: 12 also to a 010
abbrev pub secured_middle : JoinCall
secured_middle m j packet room =
    let right : Joins = joined m j packet room in
    let pctr : ℕ = get_or packet 0 0 in
    cond (eqb right.told.answer done && (secured_of pctr && eqb (chain_of pctr) middle)) (joins (refusal only_channel j secured_packet) room) right

-- against R8.11: channel 1 is taken for channel 0
abbrev pub two_channels : JoinCall
two_channels m j packet room =
    let pctr : ℕ = get_or packet 0 0 in
    joined m j (cond (eqb (channel_of pctr) 1) (set packet 0 (pctr % 16)) packet) room

pub record JoinShut : Type 0 where
  pub refuses : (answer : ℕ) → answer ≢ done → join_refusing answer ≢ joined
  pub repeats : (same : List ℕ) → join_repeating same ≢ joined
  pub idles : join_refusing done ≢ joined
  pub pretends : join_pretending ≢ joined
  pub invents : (bytes : ℕ) → 1 ≤ bytes → join_inventing bytes ≢ joined
  pub short_room : join_sparing ≢ joined
  pub secured_drops : drops_with secured_packet ≢ joined
  pub channel_drops : drops_with other_channel ≢ joined
  pub too_long_keeps : keeps_with too_long ≢ joined
  pub fault_keeps : keeps_with chain_fault ≢ joined
  pub fault_told_keeps : keeps_with fault_told ≢ joined
  pub fault_with_11 : fault_with other_channel ≢ joined
  pub fault_with_12 : fault_with secured_packet ≢ joined
  pub fault_with_14 : fault_with too_long ≢ joined
  pub fault_with_15 : fault_with fault_told ≢ joined
  pub begun_twice : as_if whole false ≢ joined
  pub orphan : as_if last true ≢ joined
  pub behind_the_joined : behind_joined ≢ joined
  pub one_too_many : one_more ≢ joined
  pub secured_at_middle : secured_middle ≢ joined
  pub channel_mistaken : two_channels ≢ joined
  pub on_refusal : (byte : ℕ) → join_smearing byte ≢ joined
  pub behind_the_part : (byte : ℕ) → join_overrunning byte ≢ joined

-- R13.3, and the others with them
pub record ShutOut : Type 0 where
  pub cut : CutShut
  pub join : JoinShut

-- Ends that the contracts shut out, those of R11.1 to R11.5 and of R13.3 and many more; proofs/Shut.antt shows it. A contract is an equation with a
-- definition (`started`, `submitted`, ..) on every input, so a call that is to meet it is that function. Each wrong end here is a function too, the
-- true one but for one thing, and ShutOut and ShutOutAlone say that it is not the true one. (They differ at an input that code can be given: that is
-- where the proofs try them.) "against" names the rule that an end breaks.
use Rattle.std.specs.Prelude.{ℕ, zero, suc, ◌+◌, ◌-◌, ◌*◌, ◌/◌, ◌%◌, ◌≤◌, Bool, true, false, cond, not, ◌&&◌, ◌||◌, List, [], ◌∷◌, ◌++◌, ◌≡◌, ◌≢◌, length, take, drop, get_or, set, eqb, leb, ltb}
use Rattle.std.specs.Int.Bits.{bit_xor}
use Rattle.base.specs.Answer.{done, out_of_range, short_buffer, link_lost, packet_size, window_full, frame_sum, unused_code, control_size, unexpected, frame_size, frame_length}
use Rattle.base.specs.Range.{least_of}
use Rattle.base.specs.Buffer.{put}
use Rattle.fcs.specs.Checksum.{byte_step}
use Rattle.frame.specs.declared.Format.{Format}
use Rattle.frame.specs.declared.Heard.{Heard}
use Rattle.frame.specs.declared.Heard.TheVariants.{Sum, ControlSize, Data}
use Rattle.frame.specs.Bytes.{low_first, high_first, fcs_bytes, sealed, frame_of, data_frame, nak_frame, reset_frame}
use Rattle.frame.specs.Steps.{fctr_of, same_bytes, fcs_at, is_control, is_nak, number_of, acknowledged_of, heard}
use Rattle.frame.specs.Orders.{in_other_order}
use Rattle.state.specs.declared.Settings.{Settings}
use Rattle.state.specs.declared.Link.{Link}
use Rattle.state.specs.declared.Outcome.{Outcome}
use Rattle.state.specs.Bounds.{limit_of, in_range, slots_need, frame_need}
use Rattle.state.specs.Fields.{with_settings, with_starts, with_ackstart, with_repeated, with_expected, with_waiting, with_acking, with_nakmark, with_lost}
use Rattle.state.specs.State.{last_correct, sent_before, slot_of, length_of, start_of, well_formed, fresh_of}
use Rattle.state.specs.Timer.{due, acknowledge_due}
use Rattle.state.specs.Gate.{After, after, only, refused, gated, gate_of}
use Rattle.state.specs.Calls.{zeros, started, resynchronised}
use Rattle.send.specs.Repeat.{part_of}
use Rattle.send.specs.Makers.{Sending, silent, concluded, sends_nak}
use Rattle.send.specs.Submit.{submitted}
use Rattle.receive.specs.Steps.{freed}
use Rattle.receive.specs.Take.{refused_with_nak, obeyed, frame_taken}
use Rattle.receive.specs.Refusals.{answering}
use Rattle.clock.specs.declared.Looked.{Looked}
use Rattle.clock.specs.Look.{after_oldest, exhausted, served, acknowledged_if, looked_newer, looking, looked, acknowledged_now}

-- ---- the calls, and a change to a call

-- what start is: of the settings and the length of the slot buffer
abbrev pub StartCall : Type 0
StartCall = Settings → ℕ → Outcome

-- what submit and take are: of a state, the two lent buffers, the millisecond, and a packet or a received frame
abbrev pub Call : Type 0
Call = Link → List ℕ → List ℕ → ℕ → List ℕ → After Outcome

-- what look is
abbrev pub LookCall : Type 0
LookCall = Link → List ℕ → List ℕ → ℕ → After Looked

-- what acknowledge and resynchronise are, and each of the other three once its millisecond and its bytes are given
abbrev pub Bare : Type 0
Bare = Link → List ℕ → List ℕ → After Outcome

abbrev pub Change : Type 0
Change = Bare → Bare

abbrev pub submit_but : Change → Call
submit_but change l slots frame ms packet = change (λ l slots frame. submitted l slots frame ms packet) l slots frame

abbrev pub take_but : Change → Call
take_but change l slots frame ms received = change (λ l slots frame. frame_taken l slots frame ms received) l slots frame

-- the way back from `looking` (clock)
abbrev pub outcome_of : After Looked → After Outcome
outcome_of a = after a.told.outcome a.slots a.frame

abbrev pub look_but : Change → LookCall
look_but change l slots frame ms = looking (change (λ l slots frame. outcome_of (looked l slots frame ms)) l slots frame)

-- a change that shows: none of the five calls on a state is the same with it
pub record Shows (change : Change) : Type 0 where
  pub submit : submit_but change ≢ submitted
  pub take : take_but change ≢ frame_taken
  pub look : look_but change ≢ looked
  pub acknowledge : change acknowledged_now ≢ acknowledged_now
  pub resynchronise : change resynchronised ≢ resynchronised

-- where the true outcome is such a one, another instead, made of the state and the buffers that were handed in and of the true outcome
abbrev pub instead : (After Outcome → Bool) → (Link → List ℕ → List ℕ → After Outcome → After Outcome) → Change
instead such other call l slots frame =
    let right : After Outcome = call l slots frame in
    cond (such right) (other l slots frame right) right

abbrev pub answers : ℕ → After Outcome → Bool
answers answer a = eqb a.told.answer answer

abbrev pub sends : After Outcome → Bool
sends a = not (eqb a.told.sent 0)

-- a data frame, or a control frame
abbrev pub sends_data : After Outcome → Bool
sends_data a = sends a && not (is_control (fctr_of a.frame))

abbrev pub sends_control : After Outcome → Bool
sends_control a = sends a && is_control (fctr_of a.frame)

-- of take, where a control frame is an ACK or a NAK
abbrev pub naks : After Outcome → Bool
naks a = sends_control a && is_nak (fctr_of a.frame)

-- an outcome with another state
abbrev pub leaving : Link → After Outcome → After Outcome
leaving l a =
    let told : Outcome = a.told in
    after (record { state = l; sent = told.sent; delivered = told.delivered; dropped = told.dropped; answer = told.answer }) a.slots a.frame

-- an outcome with as many other bytes in the place of the frame sent
abbrev pub writing : List ℕ → After Outcome → After Outcome
writing bytes a = after a.told a.slots (put a.frame 0 bytes)

-- an outcome that tells another length of what was sent, and another count of drops
abbrev pub telling : ℕ → ℕ → After Outcome → After Outcome
telling sent dropped a =
    let told : Outcome = a.told in
    after (record { state = told.state; sent = sent; delivered = told.delivered; dropped = dropped; answer = told.answer }) a.slots a.frame

-- ---- R13.3: the five that demand 2 (R14.2) is to shut out, each for all the calls on a state

-- R13.3, refusing: by whatever number; by done it does nothing
abbrev pub refuse : ℕ → Change
refuse answer call l slots frame = refused l answer slots frame

-- R13.3, refusing: only what is to be done; every refusal is right
abbrev pub refuse_done : ℕ → Change
refuse_done answer = instead (answers done) (λ l slots frame right. refused l answer slots frame)

-- R13.3, the same frame: whatever frame that is, also where none is to be sent; all else is as it should be
abbrev pub repeat : List ℕ → Change
repeat same call l slots frame =
    let right : After Outcome = call l slots frame in
    telling (length same) right.told.dropped (after right.told right.slots (put frame 0 same))

-- the same, but only where a frame is to be sent. (Of resynchronise that is right, with the reset frame.)
abbrev pub repeat_where_sent : List ℕ → Change
repeat_where_sent same call = instead sends (λ l slots frame right. repeat same call l slots frame) call

-- R13.3, pretending: all is as it should be while the next number is 0 (a state cannot tell the fifth packet from the first); then it is told so,
-- and nothing is written
abbrev pub pretend : Change
pretend call l slots frame =
    let right : After Outcome = call l slots frame in
    cond (eqb l.next 0) right (after right.told slots frame)

-- beside the five: all is written and told as it should be, and the state stays
abbrev pub stay : Change
stay = instead (answers done) (λ l slots frame right. leaving l right)

-- a format with this order
abbrev pub in_order : Format → ℕ → Format
in_order format order = record { d = format.d; order = order }

-- a state with this order in its settings
abbrev pub with_order : Link → ℕ → Link
with_order l order =
    let settings : Settings = l.settings in
    with_settings l (record {
      format = in_order settings.format order;
      transtimeout = settings.transtimeout;
      acktimeout = settings.acktimeout;
      window = settings.window;
      repeats = settings.repeats;
    })

-- against R3.8: every frame is heard and sent in this order, whichever of the two is set; what is set stays, and a number that is neither is
-- refused
abbrev pub always_in : ℕ → Change
always_in order call l slots frame =
    let right : After Outcome = call (with_order l order) slots frame in
    cond (leb l.settings.format.order high_first) (leaving (with_order right.told.state l.settings.format.order) right) (call l slots frame)

-- R13.3, making up: so many more bytes delivered, or so many more packets dropped
abbrev pub counting : ℕ → ℕ → Outcome → Outcome
counting delivered dropped told = record {
  state = told.state;
  sent = told.sent;
  delivered = told.delivered + delivered;
  dropped = told.dropped + dropped;
  answer = told.answer;
}

abbrev pub invent_where : (After Outcome → Bool) → ℕ → ℕ → Change
invent_where such delivered dropped = instead such (λ l slots frame right. after (counting delivered dropped right.told) right.slots right.frame)

abbrev pub invent : ℕ → ℕ → Change
invent = invent_where (λ right. true)

-- R13.3, as calls, for the statement of two ends (pair); refusing and idle are submit and take alike
abbrev pub refusing : ℕ → Call
refusing answer = submit_but (refuse answer)

abbrev pub repeating : List ℕ → Call
repeating same = submit_but (repeat same)

-- R13.3, doing nothing, and claiming to have done it
abbrev pub idle : Call
idle = refusing done

abbrev pub pretending : Call
pretending = submit_but pretend

abbrev pub inventing : ℕ → ℕ → Call
inventing delivered dropped = take_but (invent delivered dropped)

-- ---- lent buffers

-- against R2.4: content with one byte less: it does as the true call does with one byte more, and gives back as many as were lent
abbrev pub spare_slots : Change
spare_slots call l slots frame =
    let longer : After Outcome = call l (slots ++ (0 ∷ [])) frame in
    after longer.told (take (length slots) longer.slots) longer.frame

abbrev pub spare_frame : Change
spare_frame call l slots frame =
    let longer : After Outcome = call l slots (frame ++ (0 ∷ [])) in
    after longer.told longer.slots (take (length frame) longer.frame)

-- against R9.3: a byte, whatever it is, goes right behind a frame that is sent
abbrev pub overrun : ℕ → Change
overrun byte = instead sends (λ l slots frame right. after right.told right.slots (set right.frame right.told.sent byte))

-- against R9.3: it becomes the first byte of the frame buffer, or of the slot buffer, where the call refuses and sends nothing
abbrev pub refuses_silently : After Outcome → Bool
refuses_silently a = not (answers done a || sends a)

abbrev pub smear : ℕ → Change
smear byte = instead refuses_silently (λ l slots frame right. after right.told slots (set frame 0 byte))

abbrev pub smear_slots : ℕ → Change
smear_slots byte = instead refuses_silently (λ l slots frame right. after right.told (set slots 0 byte) frame)

-- against R9.3: so it does where the call is done and sends nothing
abbrev pub smear_done : ℕ → Change
smear_done byte = instead (λ right. answers done right && not (sends right)) (λ l slots frame right. after right.told slots (set frame 0 byte))

-- against R5.4: a byte goes right behind the packet in the slot buffer
abbrev pub overrun_slots : ℕ → Call
overrun_slots byte l slots frame ms packet =
    submit_but (instead (answers done) (λ l slots frame right. after right.told (set right.slots (part_of l l.next + length packet) byte) right.frame))
    l slots frame ms packet

-- ---- orders, against R9.1

-- 2 before 1
abbrev pub lengths_first : Change
lengths_first call l slots frame =
    cond (ltb (length slots) (slots_need l.settings) || ltb (length frame) (frame_need l.settings)) (refused l short_buffer slots frame) (call l slots frame)

-- 3 before 2; and resynchronise should not ask for 3 at all
abbrev pub lost_first : Change
lost_first call l slots frame = cond (well_formed l && l.lost) (refused l link_lost slots frame) (call l slots frame)

-- 5 before 4
abbrev pub full_first : Call
full_first =
    submit_but (instead (answers packet_size)
    (λ l slots frame right. cond (ltb l.waiting l.settings.window) right (refused l window_full slots frame)))

-- 2 before 1
abbrev pub short_first : StartCall
short_first s slots = cond (ltb slots (slots_need s)) (only zeros short_buffer) (started s slots)

-- ---- a state handed in

-- against R8.1: a count of repeats that is too high, in slot 1, is taken for TRANS_REPEAT
abbrev pub one_count : Change
one_count call l = call (with_repeated l (set l.repeated 1 (least_of (get_or l.repeated 1 0) l.settings.repeats)))

-- ---- start

-- R13.3, refusing, or doing nothing
abbrev pub start_refusing : ℕ → StartCall
start_refusing answer s slots = only zeros answer

-- R13.3, refusing: only what is to be done, and the state is right
abbrev pub start_refusing_done : ℕ → StartCall
start_refusing_done answer s slots =
    let right : Outcome = started s slots in
    cond (eqb right.answer done) (only right.state answer) right

-- R13.3, making up
abbrev pub start_inventing : ℕ → ℕ → StartCall
start_inventing delivered dropped s slots = counting delivered dropped (started s slots)

-- against R2.4
abbrev pub start_sparing : StartCall
start_sparing s slots = started s (slots + 1)

-- against R8.1 and R8.2: with this answer another state than the one of zeros
abbrev pub start_leaving : Link → ℕ → StartCall
start_leaving other answer s slots =
    let right : Outcome = started s slots in
    cond (eqb right.answer answer) (only other answer) right

-- against R2.1: content also with settings that would be in range with an acknowledge timeout, a WIN_SIZE and an order less by so much
abbrev pub start_more : ℕ → ℕ → ℕ → StartCall
start_more acktimeout window order s slots =
    let less : Settings = record {
      format = in_order s.format (s.format.order - order);
      transtimeout = s.transtimeout;
      acktimeout = s.acktimeout - acktimeout;
      window = s.window - window;
      repeats = s.repeats;
    } in
    cond (in_range s || in_range less) (cond (ltb slots (slots_need s)) (only zeros short_buffer) (only (fresh_of s) done)) (only zeros out_of_range)

-- against R5.2: fresh, but for the NAK mark
abbrev pub start_marked : StartCall
start_marked s slots =
    let right : Outcome = started s slots in
    cond (eqb right.answer done) (only (with_nakmark right.state true) done) right

-- ---- what submit does

-- against R8.4: a packet of m bytes is refused
abbrev pub below_limit : Call
below_limit l slots frame ms packet =
    let right : After Outcome = submitted l slots frame ms packet in
    cond ((answers done right || answers window_full right) && eqb (length packet) (limit_of l.settings)) (refused l packet_size slots frame) right

-- against R5.4: the packet goes to another slot, by its number
abbrev pub slot_by : (ℕ → ℕ) → Call
slot_by slot l slots frame ms packet =
    let right : After Outcome = submitted l slots frame ms packet in
    cond (answers done right) (after right.told (put slots (slot l.next * limit_of l.settings) packet) right.frame) right

-- against R5.4: once a packet has been sent, all is as it should be but that no other is copied
abbrev pub not_copied : Call
not_copied = submit_but (λ call l slots frame.
    let right : After Outcome = call l slots frame in
    after right.told (cond (eqb l.next 0) right.slots slots) right.frame)

-- against R5.5: how often it was sent again begins with this
abbrev pub count_from : ℕ → Call
count_from count =
    submit_but (instead (answers done)
    (λ l slots frame right.
    let k : Link = right.told.state in
    leaving (with_repeated k (set k.repeated (slot_of l l.next) count)) right))

-- ---- the frames sent

-- a data frame with other bytes before FCS, and FCS of these
abbrev pub data_but : (List ℕ → List ℕ) → Change
data_but change =
    instead sends_data
    (λ l slots frame right. writing (sealed l.settings.format (change (take (right.told.sent - 2) right.frame))) right)

-- against R5.5: number 0, whatever the packet's is
abbrev pub number_zero : List ℕ → List ℕ
number_zero bytes = set bytes 0 (fctr_of bytes % 4)

-- against R5.6: ACK of the number before the last correct one, as a frame that was kept may have it (R11.1)
abbrev pub stale : List ℕ → List ℕ
stale bytes = set bytes 0 (fctr_of bytes / 4 * 4 + (fctr_of bytes + 3) % 4)

-- against R3.1: LEN low byte first
abbrev pub len_turned : List ℕ → List ℕ
len_turned bytes = set (set bytes 1 (get_or bytes 2 0)) 2 (get_or bytes 1 0)

-- against R3.2 and R3.3: FCS by another sum ..
abbrev pub summed : (List ℕ → ℕ) → Change
summed sum =
    instead sends (λ l slots frame right.
    let covered : List ℕ = take (right.told.sent - 2) right.frame in
    writing (covered ++ fcs_bytes l.settings.format (sum covered)) right)

-- .. with another step from seed and byte ..
abbrev pub sum_from : (ℕ → ℕ → ℕ) → ℕ → List ℕ → ℕ
sum_from step seed [] = seed
sum_from step seed (byte ∷ bytes) = sum_from step (step seed byte) bytes

-- .. of so many bits by the bit rule with another polynomial ..
abbrev pub steps_by : ℕ → ℕ → ℕ → ℕ → ℕ
steps_by polynomial zero seed byte = seed
steps_by polynomial (suc n) seed byte =
    steps_by polynomial n (cond (eqb (seed % 2) (byte % 2)) (seed / 2) (bit_xor (seed / 2) polynomial)) (byte / 2)

-- .. or by the table with the seed shifted up
abbrev pub seed_up : ℕ → ℕ → ℕ
seed_up seed byte = bit_xor (byte_step 0 (bit_xor seed byte % 256)) (seed * 256 % 65536)

-- against R6.2 and R6.4: a NAK for an ACK, of a call that sends no other control frame
abbrev pub nak_for_ack : Change
nak_for_ack = instead sends_control (λ l slots frame right. writing (nak_frame l.settings.format (last_correct l)) right)

-- ---- repeats

-- against R5.7
abbrev pub not_counted : Change
not_counted = instead sends_data (λ l slots frame right. leaving (with_repeated right.told.state l.repeated) right)

-- against R5.6: made of as many bytes of the other slot, where there are two
abbrev pub other_slot : Change
other_slot =
    instead sends_data (λ l slots frame right.
    let number : ℕ = number_of (fctr_of right.frame) in
    let packet : List ℕ = take (length_of l number) (drop (part_of l (number + 1)) slots) in
    writing (frame_of l.settings.format (fctr_of right.frame) packet) right)

-- against R5.5 and R5.7: the timer of the other slot is started, at a first sending or at a repeat
abbrev pub other_timer : ℕ → Change
other_timer ms =
    instead sends_data (λ l slots frame right.
    leaving (with_starts right.told.state (set l.starts (slot_of l (number_of (fctr_of right.frame) + 1)) ms)) right)

-- ---- what a call does

-- against R5.6, of data frames, and R4.11, of control ACKs: one of such a kind leaves the acknowledge timer as it was
abbrev pub timer_left : (After Outcome → Bool) → Change
timer_left kind = instead kind (λ l slots frame right. leaving (with_acking right.told.state l.acking) right)

-- against R9.1: a lost end hears a reset, and nothing else
abbrev pub hears_reset : Call
hears_reset l slots frame ms received =
    frame_taken (cond (same_bytes received (reset_frame l.settings.format)) (with_lost l false) l) slots frame ms received

-- against R4.3: with a NAK
abbrev pub naks_step3 : Call
naks_step3 = take_but (instead (answers control_size) (λ l slots frame right. refused_with_nak l slots frame ControlSize))

-- against R4.1, R4.2 and R4.4: a refusal is told by another number, ..
abbrev pub tells_other : ℕ → ℕ → Change
tells_other answer other = instead (answers answer) (λ l slots frame right. answering other right)

-- .. or, against R8.6, R8.7, R8.17 and R8.18, sets no mark, ..
abbrev pub sets_no_mark : ℕ → Change
sets_no_mark answer = instead (answers answer) (λ l slots frame right. leaving l right)

-- .. or is passed over, without a NAK
abbrev pub sends_no_nak : ℕ → Change
sends_no_nak answer = instead (answers answer) (λ l slots frame right. refused l answer slots frame)

-- against R4.8: a NAK with every refusal, ..
abbrev pub naks_again : Call
naks_again =
    take_but (instead (λ right. answers frame_sum right || answers unused_code right || answers frame_size right || answers frame_length right)
    (λ l slots frame right. concluded (sends_nak (with_nakmark l false) frame) right.told.answer 0 slots))

-- .. or one that names the number before
abbrev pub naks_last : Call
naks_last = take_but (instead naks (λ l slots frame right. writing (nak_frame l.settings.format (last_correct l)) right))

-- against R4.11: a NAK stops the timer, too
abbrev pub nak_stops : Call
nak_stops = take_but (instead naks (λ l slots frame right. leaving (with_acking right.told.state false) right))

-- against R4.6: to a NAK it does as if none waited
abbrev pub nak_ignored : Call
nak_ignored =
    take_but (λ call. instead sends_data
    (λ l slots frame right.
    let other : After Outcome = call (with_waiting l 0) slots frame in
    leaving (with_waiting other.told.state l.waiting) other) call)

-- against R4.7: the acknowledge timer starts also if it runs
abbrev pub restarts : Call
restarts l slots frame ms =
    take_but (instead (λ right. not (eqb right.told.delivered 0))
    (λ l slots frame right. leaving (with_ackstart right.told.state ms) right)) l slots frame ms

-- where a reset is heard
abbrev pub on_reset : Change → Call
on_reset change l slots frame ms received =
    cond (same_bytes received (reset_frame l.settings.format)) (take_but change l slots frame ms received) (frame_taken l slots frame ms received)

-- against R4.5: it tells a frame as sent, ..
abbrev pub tells_frame : Change
tells_frame = instead (answers done) (λ l slots frame right. telling (length (reset_frame l.settings.format)) right.told.dropped right)

-- .. or, heard or sent (R5.9), no drops, ..
abbrev pub tells_no_drops : Change
tells_no_drops = instead (answers done) (λ l slots frame right. telling right.told.sent 0 right)

-- .. or leaves the NAK mark, against R5.2
abbrev pub leaves_mark : Change
leaves_mark = instead (answers done) (λ l slots frame right. leaving (with_nakmark right.told.state l.nakmark) right)

-- against R5.2: the settings are kept but for the order, which is low byte first then
abbrev pub loses_order : Change
loses_order = instead (answers done) (λ l slots frame right. leaving (with_order right.told.state low_first) right)

-- R11.5, against R4.7: what would be delivered were one more packet there already is delivered
abbrev pub over_gap : Call
over_gap l slots frame ms received =
    let ahead : After Outcome = frame_taken (with_expected l ((l.expected + 1) % 4)) slots frame ms received in
    cond (eqb ahead.told.delivered 0) (frame_taken l slots frame ms received) ahead

-- against R6.3: where the oldest packet is due and has been repeated TRANS_REPEAT times, the newer is looked at
abbrev pub passes_over : LookCall
passes_over l slots frame ms =
    let right : After Looked = looked l slots frame ms in
    cond (answers link_lost (outcome_of right) && not l.lost) (looking (looked_newer l slots frame ms)) right

-- against R5.9: where the link is lost, resynchronise answers 3 too
abbrev pub stays_lost : Bare
stays_lost = instead (answers done) (λ l slots frame right. cond l.lost (refused l link_lost slots frame) right) resynchronised

-- against R6.2, of look: no control ACK is sent, and the timer runs on
abbrev pub never_acks : Change
never_acks = instead sends_control (λ l slots frame right. refused l done slots frame)

-- ---- take by another hearing

-- frame_taken, with this in the place of `heard` (frame)
unfoldable pub taken_hearing : (Format → List ℕ → Heard) → Call
unfolding gate_of obeyed
taken_hearing hear l slots frame ms received =
    gated (gate_of l (length slots) (length frame)) l slots frame (obeyed l slots frame ms (hear l.settings.format received))

-- by the true hearing it is frame_taken
abbrev pub TakenHearingTrue : Type 0
TakenHearingTrue = taken_hearing heard ≡ frame_taken

-- against R4.4: where LEN is 0, a frame with ACK is heard as any other
abbrev pub hears_empty : Format → List ℕ → Heard
hears_empty format received =
    let number : ℕ = number_of (fctr_of received) in
    let acknowledged : ℕ = acknowledged_of (fctr_of received) in
    cond (same_bytes received (data_frame format number acknowledged [])) (Data number false acknowledged 0) (heard format received)

-- against R4.1: the checksum is looked at first, ..
abbrev pub hears_sum_first : Format → List ℕ → Heard
hears_sum_first format received = cond (fcs_at format (length received - 2) received) (heard format received) Sum

-- .. or one byte more than D is heard
abbrev pub hears_longer : Format → List ℕ → Heard
hears_longer format = heard (record { d = format.d + 1; order = format.order })

-- against R3.8: a frame that is right in the other order is heard in that one
abbrev pub hears_either : Format → List ℕ → Heard
hears_either format received =
    let second : Format = in_other_order format in
    cond (fcs_at second (length received - 2) received) (heard second received) (heard format received)

-- ---- look by another test

-- looked, with these tests in the place of `packet_due` and `acknowledge_due` (state)
unfoldable pub looked_by : (Link → ℕ → ℕ → Bool) → (Link → ℕ → Bool) → LookCall
unfolding gate_of
looked_by packet acknowledge l slots frame ms =
    looking (gated (gate_of l (length slots) (length frame)) l slots frame
    (cond (packet l (after_oldest l) ms) (served l slots frame ms (sent_before l (after_oldest l)))
    (cond (packet l 0 ms) (served l slots frame ms (sent_before l 0))
    (acknowledged_if (acknowledge l ms) l slots frame))))

-- looked, with this test of timeout, start time and clock in the place of `due` (state)
unfoldable pub looked_when : (ℕ → ℕ → ℕ → Bool) → LookCall
unfolding looked_by
looked_when test =
    looked_by (λ l n ms. ltb n l.waiting && test l.settings.transtimeout (start_of l (sent_before l n)) ms)
    (λ l ms. l.acking && test l.settings.acktimeout l.ackstart ms)

-- by the true test it is looked
abbrev pub LookedWhenTrue : Type 0
LookedWhenTrue = looked_when due ≡ looked

-- R11.2, against R6.1: with a deadline that wraps a timer is due at once just before the wrap, ..
abbrev pub by_size_wrapped : ℕ → ℕ → ℕ → Bool
by_size_wrapped timeout start ms = leb ((start + timeout) % 4294967296) ms

-- .. with one that does not wrap (R11.2, too) a timer that is to be due past the wrap never is
abbrev pub compared_by_size : ℕ → ℕ → ℕ → Bool
compared_by_size timeout start ms = leb (start + timeout) ms

-- against R6.1: elapsed time the wrong way round, of every timer ..
abbrev pub backwards : ℕ → ℕ → ℕ → Bool
backwards timeout start ms = due timeout ms start

-- .. or of the packets' alone; ..
abbrev pub turned : Link → ℕ → ℕ → Bool
turned l n ms = ltb n l.waiting && backwards l.settings.transtimeout (start_of l (sent_before l n)) ms

-- .. with the acknowledge timeout (against R2.1); ..
abbrev pub early : Link → ℕ → ℕ → Bool
early l n ms = ltb n l.waiting && due l.settings.acktimeout (start_of l (sent_before l n)) ms

-- .. also where none waits, and the packet was freed (against R6.2)
abbrev pub freed_too : Link → ℕ → ℕ → Bool
freed_too l n ms = leb n l.waiting && due l.settings.transtimeout (start_of l (sent_before l n)) ms

-- ---- wrong ends for which no run is known that breaks the statement of two ends (pair): the contracts alone shut them out

-- R11.4, against R4.6: an accepted NAK k, in a frame of such an FCTR, is obeyed as it should be, and then taken as ACK k − 1, too
abbrev pub nak_frees : (ℕ → Bool) → Call
nak_frees kind l slots frame ms received =
    let right : After Outcome = frame_taken l slots frame ms received in
    let fctr : ℕ = fctr_of received in
    cond ((answers done right || answers unexpected right) && (is_nak fctr && kind fctr))
    (leaving (freed right.told.state ((acknowledged_of fctr + 3) % 4)) right) right

-- R11.3, against R4.6: an ACK k that is to free two, the most that wait, frees so many: none, as if obeyed only where k is the oldest, or one
abbrev pub frees_only : ℕ → Call
frees_only freed =
    take_but (instead (λ right. eqb right.told.dropped 0)
    (λ l slots frame right.
    leaving (cond (ltb (right.told.state.waiting + 1) l.waiting) (with_waiting right.told.state (l.waiting - freed)) right.told.state) right))

-- against R4.8: the NAK mark outlives a delivery
abbrev pub keeps_mark : Call
keeps_mark =
    take_but (instead (λ right. not (eqb right.told.delivered 0))
    (λ l slots frame right. leaving (with_nakmark right.told.state l.nakmark) right))

-- against R4.7: with 9 something else is sent, or nothing
abbrev pub for_unexpected : (Link → List ℕ → Sending) → Call
for_unexpected send =
    take_but (instead (λ right. answers unexpected right && sends_control right)
    (λ l slots frame right. concluded (send (with_acking right.told.state l.acking) frame) unexpected 0 slots))

-- against R6.3, of look: no packet is repeated, and the link is lost instead
abbrev pub loses_at_once : Change
loses_at_once = instead sends_data (λ l slots frame right. exhausted l slots frame)

-- R11.3 (none is freed) and R11.4, and the others
pub record ShutOutAlone : Type 0 where
  pub nak_frees_lem : nak_frees is_control ≢ frame_taken
  pub nak_in_data_frees : nak_frees (λ fctr. not (is_control fctr)) ≢ frame_taken
  pub ack_for_the_oldest_only : frees_only 0 ≢ frame_taken
  pub mark_kept : keeps_mark ≢ frame_taken
  pub silent_duplicate : for_unexpected silent ≢ frame_taken
  pub nak_for_a_duplicate : for_unexpected sends_nak ≢ frame_taken
  pub lost_at_once : look_but loses_at_once ≢ looked

-- ---- all others

pub record StartShut : Type 0 where
  pub refuses : (answer : ℕ) → answer ≢ done → start_refusing answer ≢ started
  pub refuses_done : (answer : ℕ) → answer ≢ done → start_refusing_done answer ≢ started
  pub idles : start_refusing done ≢ started
  pub invents : (delivered dropped : ℕ) → 1 ≤ delivered + dropped → start_inventing delivered dropped ≢ started
  pub short_slots : start_sparing ≢ started
  pub short_before_range : short_first ≢ started
  pub other_state_with_1 : (other : Link) → other ≢ zeros → start_leaving other out_of_range ≢ started
  pub other_state_with_2 : (other : Link) → other ≢ zeros → start_leaving other short_buffer ≢ started
  pub acknowledge_as_long : start_more 1 0 0 ≢ started
  pub window_of_three : start_more 0 1 0 ≢ started
  pub order_of_two : start_more 0 0 1 ≢ started
  pub marked : start_marked ≢ started

pub record SubmitShut : Type 0 where
  pub repeats_where_sent : (same : List ℕ) → submit_but (repeat_where_sent same) ≢ submitted
  pub full_before_size : full_first ≢ submitted
  pub slots_on_refusal : (byte : ℕ) → submit_but (smear_slots byte) ≢ submitted
  pub past_the_packet : (byte : ℕ) → overrun_slots byte ≢ submitted
  pub slot_by_two : slot_by (λ number. number % 2) ≢ submitted
  pub timer_left_lem : submit_but (timer_left sends_data) ≢ submitted
  pub below_m : below_limit ≢ submitted
  pub first_slot_only : slot_by (λ number. 0) ≢ submitted
  pub not_copied_lem : not_copied ≢ submitted
  pub count_from_lem : (count : ℕ) → count ≢ 0 → count_from count ≢ submitted
  pub other_timer_lem : (λ l slots frame ms. submit_but (other_timer ms) l slots frame ms) ≢ submitted
  pub number_0 : submit_but (data_but number_zero) ≢ submitted
  pub stale_ack : submit_but (data_but stale) ≢ submitted
  pub len_low_first : submit_but (data_but len_turned) ≢ submitted
  pub other_polynomial : submit_but (summed (sum_from (steps_by 0x8810 8) 0)) ≢ submitted
  pub seed_up_lem : submit_but (summed (sum_from seed_up 0)) ≢ submitted

-- a refusal of a received frame that has this number
pub record RefusalShut (answer : ℕ) : Type 0 where
  pub other_number : (other : ℕ) → other ≢ answer → take_but (tells_other answer other) ≢ frame_taken
  pub no_mark : take_but (sets_no_mark answer) ≢ frame_taken
  pub no_nak : take_but (sends_no_nak answer) ≢ frame_taken

pub record TakeShut : Type 0 where
  pub repeats_where_sent : (same : List ℕ) → take_but (repeat_where_sent same) ≢ frame_taken
  pub on_silence : (byte : ℕ) → take_but (smear_done byte) ≢ frame_taken
  pub reset_when_lost : hears_reset ≢ frame_taken
  pub nak_in_step_3 : naks_step3 ≢ frame_taken
  pub over_gap_lem : over_gap ≢ frame_taken
  pub timer_left_by_repeat : take_but (timer_left sends_data) ≢ frame_taken
  pub timer_left_by_ack : take_but (timer_left sends_control) ≢ frame_taken
  pub len_0 : taken_hearing hears_empty ≢ frame_taken
  pub over_d : taken_hearing hears_longer ≢ frame_taken
  pub sum_first : taken_hearing hears_sum_first ≢ frame_taken
  pub either_order : taken_hearing hears_either ≢ frame_taken
  pub size : RefusalShut frame_size
  pub sum : RefusalShut frame_sum
  pub code : RefusalShut unused_code
  pub len : RefusalShut frame_length
  pub nak_again : naks_again ≢ frame_taken
  pub nak_names_last : naks_last ≢ frame_taken
  pub nak_stops_timer : nak_stops ≢ frame_taken
  pub nak_ignored_lem : nak_ignored ≢ frame_taken
  pub frees_one_only : frees_only 1 ≢ frame_taken
  pub timer_restarted : restarts ≢ frame_taken
  pub duplicate_counted : (delivered dropped : ℕ) → 1 ≤ delivered + dropped → take_but (invent_where (answers unexpected) delivered dropped) ≢ frame_taken
  pub reset_answered : on_reset tells_frame ≢ frame_taken
  pub reset_no_drops : on_reset tells_no_drops ≢ frame_taken
  pub reset_mark_left : on_reset leaves_mark ≢ frame_taken
  pub reset_order_lost : on_reset loses_order ≢ frame_taken
  pub repeat_not_counted : take_but not_counted ≢ frame_taken
  pub other_slot_lem : take_but other_slot ≢ frame_taken

pub record LookShut : Type 0 where
  pub repeats_where_sent : (same : List ℕ) → look_but (repeat_where_sent same) ≢ looked
  pub on_silence : (byte : ℕ) → look_but (smear_done byte) ≢ looked
  pub passed_over : passes_over ≢ looked
  pub timer_left_by_repeat : look_but (timer_left sends_data) ≢ looked
  pub timer_left_by_ack : look_but (timer_left sends_control) ≢ looked
  pub timer_never_sends : look_but never_acks ≢ looked
  pub by_size_wrapped_lem : looked_when by_size_wrapped ≢ looked
  pub by_size : looked_when compared_by_size ≢ looked
  pub backwards : looked_when backwards ≢ looked
  pub clock_turned : looked_by turned acknowledge_due ≢ looked
  pub wrong_timeout : looked_by early acknowledge_due ≢ looked
  pub freed_timer : looked_by freed_too acknowledge_due ≢ looked
  pub repeat_not_counted : look_but not_counted ≢ looked
  pub other_slot_lem : look_but other_slot ≢ looked
  pub other_timer_lem : (λ l slots frame ms. look_but (other_timer ms) l slots frame ms) ≢ looked
  pub stale_ack : look_but (data_but stale) ≢ looked
  pub nak_for_ack_lem : look_but nak_for_ack ≢ looked

pub record AcknowledgeShut : Type 0 where
  pub repeats_where_sent : (same : List ℕ) → repeat_where_sent same acknowledged_now ≢ acknowledged_now
  pub on_silence : (byte : ℕ) → smear_done byte acknowledged_now ≢ acknowledged_now
  pub timer_left_lem : timer_left sends_control acknowledged_now ≢ acknowledged_now
  pub nak_for_ack_lem : nak_for_ack acknowledged_now ≢ acknowledged_now

-- R13.3; R11.1, R11.2, R11.3 (one is freed) and R11.5; and the others
pub record ShutOut : Type 0 where
  -- each of the five calls on a state
  pub refuses : (answer : ℕ) → answer ≢ done → Shows (refuse answer)
  pub refuses_done : (answer : ℕ) → answer ≢ done → Shows (refuse_done answer)
  pub repeats : (same : List ℕ) → Shows (repeat same)
  pub idles : Shows (refuse done)
  pub idles_done : Shows (refuse_done done)
  pub pretends : Shows pretend
  pub stays : Shows stay
  pub invents : (delivered dropped : ℕ) → 1 ≤ delivered + dropped → Shows (invent delivered dropped)
  pub short_slots : Shows spare_slots
  pub short_frame : Shows spare_frame
  pub past_the_frame : (byte : ℕ) → Shows (overrun byte)
  pub on_refusal : (byte : ℕ) → Shows (smear byte)
  pub short_before_range : Shows lengths_first
  pub lost_before_short : Shows lost_first
  pub one_count_lem : Shows one_count
  pub always_low_first : Shows (always_in low_first)
  pub always_high_first : Shows (always_in high_first)
  -- one of them
  pub start : StartShut
  pub submit : SubmitShut
  pub take : TakeShut
  pub look : LookShut
  pub acknowledge : AcknowledgeShut
  pub resynchronise_when_lost : stays_lost ≢ resynchronised
  pub resynchronise_no_drops : tells_no_drops resynchronised ≢ resynchronised
  pub resynchronise_mark_left : leaves_mark resynchronised ≢ resynchronised
  pub resynchronise_order_lost : loses_order resynchronised ≢ resynchronised

-- take, on every input: R1.3, R4.5 to R4.10, R9.1. How steps 1 to 4 judge a frame is `heard` (frame); what comes of it is here.
use Rattle.std.specs.Prelude.{ℕ, Bool, cond, ◌&&◌, List, length, eqb}
use Rattle.base.specs.Answer.{done, unexpected}
use Rattle.frame.specs.declared.Heard.{Heard}
use Rattle.frame.specs.declared.Heard.TheVariants.{Size, Sum, Code, ControlSize, Length, Reset, Ack, Nak, Data}
use Rattle.frame.specs.Steps.{heard, refusal_of}
use Rattle.state.specs.declared.Link.{Link}
use Rattle.state.specs.declared.Outcome.{Outcome}
use Rattle.state.specs.Gate.{After, after, refused, gated, gate_of}
use Rattle.state.specs.Calls.{became_fresh}
use Rattle.send.specs.Makers.{Sending, silent, concluded, sends_repeat, sends_ack, sends_nak}
use Rattle.receive.specs.Steps.{freed, repeatable, after_step6, after_delivery}

-- R4.8: the refusals of R4.1, R4.2 and R4.4; what they leave is in R8.6, R8.7, R8.17 and R8.18. R4.9: none of the frame's numbers comes in.
abbrev pub refused_with_nak : Link → List ℕ → List ℕ → Heard → After Outcome
refused_with_nak l slots frame h = concluded (sends_nak l frame) (refusal_of h) 0 slots

-- R4.10: the state is the one after step 7; what would be sent otherwise comes last
abbrev pub repeated_or : Bool → Link → List ℕ → List ℕ → ℕ → ℕ → Sending → Sending
repeated_or repeat l slots frame ms number otherwise = cond repeat (sends_repeat l slots frame ms number) otherwise

-- R4.6, of a control NAK
abbrev pub nak_obeyed : Link → List ℕ → List ℕ → ℕ → ℕ → After Outcome
nak_obeyed l slots frame ms number = concluded (repeated_or (repeatable l number) l slots frame ms number (silent l frame)) done 0 slots

-- R4.7 in two halves, each of the state after step 6, and of whether that step repeats packet `acknowledged`: a delivery, of which only the
-- length is told (which bytes it means, packet_in (frame) says), ..
abbrev pub data_delivered : Link → List ℕ → List ℕ → ℕ → ℕ → Bool → ℕ → After Outcome
data_delivered sixth slots frame ms acknowledged repeat len =
    let seventh : Link = after_delivery sixth ms in
    concluded (repeated_or repeat seventh slots frame ms acknowledged (silent seventh frame)) done len slots

-- .. and 9, to every number but the expected one, also to one behind a gap (R11.5); what it leaves is in R8.9
abbrev pub data_passed : Link → List ℕ → List ℕ → ℕ → ℕ → Bool → After Outcome
data_passed sixth slots frame ms acknowledged repeat =
    concluded (repeated_or repeat sixth slots frame ms acknowledged (sends_ack sixth frame)) unexpected 0 slots

-- R4.6, then R4.7, of a data frame
unfoldable pub data_taken : Link → List ℕ → List ℕ → ℕ → ℕ → Bool → ℕ → ℕ → After Outcome
data_taken l slots frame ms number nak acknowledged len =
    let repeat : Bool = nak && repeatable l acknowledged in
    let sixth : Link = after_step6 l nak acknowledged in
    cond (eqb number l.expected)
    (data_delivered sixth slots frame ms acknowledged repeat len)
    (data_passed sixth slots frame ms acknowledged repeat)

-- steps 1 to 4 are decided by what was heard, 5 to 7 need the state. ControlSize is R4.3, and leaves what R8.8 says; the other refusals go by R4.8;
-- Reset is R4.5. Only what no step refused brings numbers with it (R4.9).
unfoldable pub obeyed : Link → List ℕ → List ℕ → ℕ → Heard → After Outcome
unfolding data_taken
obeyed l slots frame ms Size = refused_with_nak l slots frame Size
obeyed l slots frame ms Sum = refused_with_nak l slots frame Sum
obeyed l slots frame ms Code = refused_with_nak l slots frame Code
obeyed l slots frame ms ControlSize = refused l (refusal_of ControlSize) slots frame
obeyed l slots frame ms Length = refused_with_nak l slots frame Length
obeyed l slots frame ms Reset = after (became_fresh l 0) slots frame
obeyed l slots frame ms (Ack number) = concluded (silent (freed l number) frame) done 0 slots
obeyed l slots frame ms (Nak number) = nak_obeyed l slots frame ms number
obeyed l slots frame ms (Data number nak acknowledged len) = data_taken l slots frame ms number nak acknowledged len

-- R1.3: take, behind the gate of R9.1
unfoldable pub frame_taken : Link → List ℕ → List ℕ → ℕ → List ℕ → After Outcome
unfolding gate_of heard obeyed
frame_taken l slots frame ms received =
    gated (gate_of l (length slots) (length frame)) l slots frame (obeyed l slots frame ms (heard l.settings.format received))

-- What take leaves of a frame that is refused with a NAK, whatever the reason, and what its answer tells: R4.8, R8.6, R8.7, R8.17, R8.18, R12.7;
-- proofs/Refusals.antt proves it.
use Rattle.std.specs.Prelude.{ℕ, true, List, [], ◌∷◌, ◌≡◌, ◌≢◌, length}
use Rattle.base.specs.Answer.{done}
use Rattle.frame.specs.declared.Heard.{Heard}
use Rattle.frame.specs.declared.Heard.TheVariants.{Size, Sum, Code, Length}
use Rattle.frame.specs.Bytes.{frame_of, reset_frame}
use Rattle.frame.specs.Steps.{heard, refusal_of}
use Rattle.frame.specs.Orders.{in_other_order}
use Rattle.state.specs.declared.Link.{Link}
use Rattle.state.specs.declared.Outcome.{Outcome}
use Rattle.state.specs.Gate.{After, after, refused, gate_of}
use Rattle.receive.specs.Take.{frame_taken}

-- R4.8: the refusals of R4.1, R4.2 and R4.4
pub data WithNak : Heard → Type 0 where
  by_size : WithNak Size
  by_sum : WithNak Sum
  by_code : WithNak Code
  by_length : WithNak Length

-- an outcome with another number
abbrev pub answering : ℕ → After Outcome → After Outcome
answering answer a =
    let told : Outcome = a.told in
    after (record { state = told.state; sent = told.sent; delivered = told.delivered; dropped = told.dropped; answer = answer }) a.slots a.frame

-- how this end hears a frame
abbrev pub heard_by : Link → List ℕ → Heard
heard_by l received = heard l.settings.format received

-- R8.6, R8.7, R8.17, R8.18, of one end and what is lent to it: ..
pub record Alike (l : Link) (slots frame : List ℕ) : Type 0 where
  -- .. two frames that are so refused, each at any millisecond, leave the same state and the same bytes and send the same; the number alone
  -- differs, and is the refusal's own
  pub but_number : (ms ms2 : ℕ) (received received2 : List ℕ) → WithNak (heard_by l received) → WithNak (heard_by l received2)
      → frame_taken l slots frame ms2 received2 ≡ answering (refusal_of (heard_by l received2)) (frame_taken l slots frame ms received)
  -- .. also where the NAK is suppressed: then all is left as it was, and the number is told
  pub suppressed : (ms : ℕ) (received : List ℕ) → WithNak (heard_by l received) → l.nakmark ≡ true
      → frame_taken l slots frame ms received ≡ refused l (refusal_of (heard_by l received)) slots frame
  -- .. and such frames there are, of each kind: this end hears them so. A reset frame in the other order of FCS is one of them (R3.8).
  pub size : heard_by l [] ≡ Size
  pub sum : heard_by l (reset_frame (in_other_order l.settings.format)) ≡ Sum
  pub code : heard_by l (frame_of l.settings.format 0x10 []) ≡ Code
  pub len : heard_by l (0x00 ∷ 0x00 ∷ 0x00 ∷ 0x00 ∷ 0x00 ∷ []) ≡ Length

-- R4.8, behind the gate of R9.1: of every end, and whatever is lent to it
abbrev pub NumberAlone : Type 0
NumberAlone = (l : Link) (slots frame : List ℕ) → gate_of l (length slots) (length frame) ≡ done → Alike l slots frame

-- R12.7, of take: an answer that is a refusal's number is given for that refusal alone, whatever the end and what is lent to it. (What is so
-- of the frame then, ReasonHeard (frame) says.)
abbrev pub AnswerTells : Type 0
AnswerTells =
    (l : Link) (slots frame : List ℕ) (ms : ℕ) (received : List ℕ) (h : Heard) → refusal_of h ≢ done
    → (frame_taken l slots frame ms received).told.answer ≡ refusal_of h → heard_by l received ≡ h

-- What is promised of the six calls beyond their contracts: R5.3, R8.1, R8.2, R13.1, R13.2, R14.1; proofs/Kept.antt proves each. The public calls
-- of R13.2 are these six and the two of chaining; what else is `pub` is so for the crates above it only, and some of it requires something.
use Rattle.std.specs.Prelude.{ℕ, ◌≤◌, true, List, ◌≡◌, length}
use Rattle.base.specs.Answer.{done, out_of_range}
use Rattle.frame.specs.Bytes.{ack_frame}
use Rattle.state.specs.declared.Settings.{Settings}
use Rattle.state.specs.declared.Link.{Link}
use Rattle.state.specs.declared.Outcome.{Outcome}
use Rattle.state.specs.Bounds.{in_range, slots_need, frame_need}
use Rattle.state.specs.State.{fresh_of}
use Rattle.state.specs.Gate.{after, After, refused}
use Rattle.state.specs.Calls.{zeros, started, resynchronised}
use Rattle.state.specs.Formed.{Sound}
use Rattle.send.specs.Submit.{submitted}
use Rattle.receive.specs.Steps.{freed}
use Rattle.receive.specs.Take.{frame_taken}
use Rattle.clock.specs.Look.{looking, looked, acknowledged_now}

-- ---- a call's statement allows one outcome: R13.1

-- for the calls whose contracts have the slots on both sides: a buffer lent as `&[u8]` is not written, by its type
abbrev pub OneOutcome : {R : Type 0} → List ℕ → After R → Type 0
OneOutcome {R} slots whole =
    (told other : R) (written other_written : List ℕ) → after told slots written ≡ whole → after other slots other_written ≡ whole
    → (told ≡ other) × (written ≡ other_written)

-- R13.1, R13.2: each line has its call's contract twice, on every input
pub record Settled : Type 0 where
  pub start : (s : Settings) (slots : List ℕ) (told other : Outcome)
      → told ≡ started s (length slots) → other ≡ started s (length slots) → told ≡ other
  pub submit : (l : Link) (slots frame : List ℕ) (ms : ℕ) (packet : List ℕ) (told other : Outcome) (copied other_copied written other_written : List ℕ)
      → after told copied written ≡ submitted l slots frame ms packet → after other other_copied other_written ≡ submitted l slots frame ms packet
      → (told ≡ other) × (copied ≡ other_copied) × (written ≡ other_written)
  pub take : (l : Link) (slots frame : List ℕ) (ms : ℕ) (received : List ℕ) → OneOutcome slots (frame_taken l slots frame ms received)
  pub look : (l : Link) (slots frame : List ℕ) (ms : ℕ) → OneOutcome slots (looked l slots frame ms)
  pub acknowledge : (l : Link) (slots frame : List ℕ) → OneOutcome slots (acknowledged_now l slots frame)
  pub resynchronise : (l : Link) (slots frame : List ℕ) → OneOutcome slots (resynchronised l slots frame)

-- ---- states: zeros, fresh ones, sound ones

-- R8.1, of the state of zeros: the answer is 1, and all is left as it was, with buffers of any length
pub record ZeroRefused (slots frame : List ℕ) : Type 0 where
  pub submit : (ms : ℕ) (packet : List ℕ) → submitted zeros slots frame ms packet ≡ refused zeros out_of_range slots frame
  pub take : (ms : ℕ) (received : List ℕ) → frame_taken zeros slots frame ms received ≡ refused zeros out_of_range slots frame
  pub look : (ms : ℕ) → looked zeros slots frame ms ≡ looking (refused zeros out_of_range slots frame)
  pub acknowledge : acknowledged_now zeros slots frame ≡ refused zeros out_of_range slots frame
  pub resynchronise : resynchronised zeros slots frame ≡ refused zeros out_of_range slots frame

-- R5.3: a data frame that carries it leaves the end as it was in step 6, and to a control ACK the end answers 0 and leaves all as it was
pub record AckThree (s : Settings) : Type 0 where
  pub carried : freed (fresh_of s) 3 ≡ fresh_of s
  pub control : (slots frame : List ℕ) (ms : ℕ) → in_range s ≡ true → slots_need s ≤ length slots → frame_need s ≤ length frame
      → frame_taken (fresh_of s) slots frame ms (ack_frame s.format 3) ≡ refused (fresh_of s) done slots frame

-- R14.1: serves demand 1, by which no caller has to look first: a state that start made with answer 0, and that only calls changed, is never
-- refused with 1. So every call leaves a sound state where it found one, whatever it is given.
pub record Kept : Type 0 where
  pub start : (s : Settings) (slots : ℕ) → (started s slots).answer ≡ done → Sound (started s slots).state
  pub submit : (l : Link) (slots frame : List ℕ) (ms : ℕ) (packet : List ℕ) → Sound l → Sound (submitted l slots frame ms packet).told.state
  pub take : (l : Link) (slots frame : List ℕ) (ms : ℕ) (received : List ℕ) → Sound l → Sound (frame_taken l slots frame ms received).told.state
  pub look : (l : Link) (slots frame : List ℕ) (ms : ℕ) → Sound l → Sound (looked l slots frame ms).told.outcome.state
  pub acknowledge : (l : Link) (slots frame : List ℕ) → Sound l → Sound (acknowledged_now l slots frame).told.state
  pub resynchronise : (l : Link) (slots frame : List ℕ) → Sound l → Sound (resynchronised l slots frame).told.state

-- R8.1, R8.2: a resynchronise that is refused changes nothing; so it is a move in the histories of two ends (pair), like every other call.
abbrev pub ResetRefused : Type 0
ResetRefused =
    (l : Link) (slots frame : List ℕ) → ((resynchronised l slots frame).told.answer ≡ done → ⊥)
    → resynchronised l slots frame ≡ refused l (resynchronised l slots frame).told.answer slots frame

-- All that a call leaves, and what every link call refuses first: R1.2, R1.4, R1.5, R9.1.
use Rattle.std.specs.Prelude.{ℕ, cond, ◌||◌, List, ◌==◌, nat_lt}
use Rattle.base.specs.Answer.{done, first_refusal, out_of_range, short_buffer, link_lost}
use Rattle.state.specs.declared.Link.{Link}
use Rattle.state.specs.declared.Outcome.{Outcome}
use Rattle.state.specs.Bounds.{slots_need, frame_need}
use Rattle.state.specs.State.{well_formed}

-- R1.2, R1.4: what a call tells, with the next state in it, and every byte of the two buffers lent to it. The three lengths and counts of R1.5
-- are `sent`, `delivered` and `dropped` of Outcome. A frame that goes out stands in `frame` from its first byte on.
pub record After (R : Type 0) : Type 0 where
  pub told : R
  pub slots : List ℕ
  pub frame : List ℕ

abbrev pub after : {R : Type 0} → R → List ℕ → List ℕ → After R
after r slots frame = record { told = r; slots = slots; frame = frame }

-- R1.5: an answer with a state, and nothing sent, delivered or dropped
abbrev pub only : Link → ℕ → Outcome
only l answer = record { state = l; sent = 0; delivered = 0; dropped = 0; answer = answer }

-- R8, R9.4: a refusal that leaves all as it was
abbrev pub refused : Link → ℕ → List ℕ → List ℕ → After Outcome
refused l answer slots frame = after (only l answer) slots frame

-- R9.1: a call behind its gate: nothing but the gate's answer, unless that is 0
abbrev pub gated : ℕ → Link → List ℕ → List ℕ → After Outcome → After Outcome
gated answer l slots frame inside = cond (answer == done) inside (refused l answer slots frame)

-- R9.1: 1 and 2, or 0, of a state and the lengths of the two lent buffers
unfoldable pub entry_of : Link → ℕ → ℕ → ℕ
unfolding well_formed
entry_of l slots frame =
    first_refusal (cond (well_formed l) done out_of_range)
    (cond (nat_lt slots (slots_need l.settings) || nat_lt frame (frame_need l.settings)) short_buffer done)

-- R9.1: 1, 2 and 3, or 0; 3 is for a link that was lost before this call (R8.3)
unfoldable pub gate_of : Link → ℕ → ℕ → ℕ
unfolding entry_of
gate_of l slots frame = first_refusal (entry_of l slots frame) (cond l.lost link_lost done)

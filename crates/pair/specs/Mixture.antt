-- R6.5, last: Round.antt looks at one end as often as it must, and then at the other. Looks that take turns in any way leave the same, of any
-- link, since a look reads no queue and changes nothing of the other end but the queue towards it.
use Rattle.std.specs.Prelude.{ℕ, Bool, true, false, ◌≡◌, List}
use Rattle.pair.specs.System.{Calls, System, swap, look_of, looks}
use Rattle.pair.specs.Round.{Enough, Looks}

-- looks at both ends in any order, each as often as it must; the two marks say which end has come to that, here and there
pub data Mixed {State : Type 0} (calls : Calls State) (ms : ℕ) : Bool → Bool → System State → System State → Type 0 where
  over : (S : System State) → Mixed calls ms true true S S
  here-sends : (S T : System State) (there : Bool) (frame : List ℕ) → Enough calls S frame → ((look_of calls S frame ms).told.sent ≡ 0 → ⊥)
      → Mixed calls ms false there (looks calls S frame ms) T → Mixed calls ms false there S T
  here-nothing : (S T : System State) (there : Bool) (frame : List ℕ) → Enough calls S frame → (look_of calls S frame ms).told.sent ≡ 0
      → Mixed calls ms true there (looks calls S frame ms) T → Mixed calls ms false there S T
  there-sends : (S T : System State) (here : Bool) (frame : List ℕ) → Enough calls (swap S) frame → ((look_of calls (swap S) frame ms).told.sent ≡ 0 → ⊥)
      → Mixed calls ms here false (swap (looks calls (swap S) frame ms)) T → Mixed calls ms here false S T
  there-nothing : (S T : System State) (here : Bool) (frame : List ℕ) → Enough calls (swap S) frame → (look_of calls (swap S) frame ms).told.sent ≡ 0
      → Mixed calls ms here true (swap (looks calls (swap S) frame ms)) T → Mixed calls ms here false S T

-- one end after the other, as a round has it
pub record InTurn {State : Type 0} (calls : Calls State) (ms : ℕ) (S T : System State) : Type 0 where
  pub between : System State
  pub here : Looks calls ms S between
  pub there : Looks calls ms (swap between) (swap T)

abbrev pub AnyMixture : {State : Type 0} → Calls State → Type 0
AnyMixture {State} calls = (ms : ℕ) (S T : System State) → Mixed calls ms false false S T → InTurn calls ms S T

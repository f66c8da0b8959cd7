-- What holds at every moment of any link, if it holds at the start and every move keeps it.
use Rattle.std.proofs.Common.{List, ℕ, ◌≤◌, length}
use Rattle.state.specs.declared.Settings.{Settings}
use Rattle.state.specs.Bounds.{slots_need}
use Rattle.state.specs.Formed.{InRange}
use Rattle.state.proofs.Facts.{in_range_facts}
use Rattle.pair.specs.System.{Calls, System, swap, fresh_side, Move, Moment, start, here, there}

-- a moment's settings are in range
pub moment_range : {State : Type 0} {calls : Calls State} (s : Settings) (S : System State) → Moment calls s S → InRange s
moment_range s S (start slots slots2 r h k) = in_range_facts s r
moment_range s T (here S T₁ m v) = moment_range s S m
moment_range s T (there S T₁ m v) = moment_range s S m

module _ {State : Type 0} (calls : Calls State) (s : Settings) (P : System State → Type 0) (turn : (S : System State) → P S → P (swap S))
    (begins : (slots slots2 : List ℕ) → slots_need s ≤ length slots → slots_need s ≤ length slots2
    → P (record { here = fresh_side calls s slots; there = fresh_side calls s slots2 }))
    (kept : (S T : System State) → Move calls S T → P S → P T) where
  pub moment_holds : (S : System State) → Moment calls s S → P S
  moment_holds S (start slots slots2 r h k) = begins slots slots2 h k
  moment_holds T (here S T₁ m v) = kept S T v (moment_holds S m)
  moment_holds T (there S T₁ m v) = turn (swap T) (kept (swap S) (swap T) v (turn S (moment_holds S m)))

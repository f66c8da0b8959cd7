-- What a move does.
use Rattle.std.specs.Prelude.{ℕ, ⊤, ◌≢◌, ◌+◌, ◌%◌, ◌^◌, []}
use Rattle.ends.specs.declared.Ends.{Ends}
use Rattle.ends.specs.declared.moves.Call.TheVariants.{Carry}
use Rattle.ends.specs.declared.moves.Move.{Move}
use Rattle.ends.specs.declared.moves.Move.TheVariants.{Call, Lose, Damage, Pass, Round}
use Rattle.ends.specs.Sides.{end_at, arriving_at}

-- the clock goes around its end, and nothing else moves it
abbrev pub clock_after : ℕ → Move → ℕ
clock_after clock (Call _ _) = clock
clock_after clock (Lose _ _) = clock
clock_after clock (Damage _ _) = clock
clock_after clock (Pass ms) = (clock + ms) % 2 ^ 32
clock_after clock Round = clock

-- the move is a call; to carry is none where no frame is there
abbrev pub IsCall : Ends → Move → Type 0
IsCall ends (Call side Carry) = arriving_at (end_at side ends) ≢ []
IsCall _ (Call _ _) = ⊤
IsCall _ _ = ⊥

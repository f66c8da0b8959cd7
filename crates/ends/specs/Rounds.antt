-- The moves of a timer round (R6.5), and when nothing is left to do.
use Rattle.std.specs.Prelude.{◌≡◌, ◌≢◌, ◌<◌, false, []}
use Rattle.state.specs.Timer.{time_left}
use Rattle.ends.specs.declared.end.End.{End}
use Rattle.ends.specs.declared.Ends.{Ends}
use Rattle.ends.specs.declared.moves.Call.TheVariants.{Carry, Look}
use Rattle.ends.specs.declared.moves.Move.{Move}
use Rattle.ends.specs.declared.moves.Move.TheVariants.{Call, Pass}
use Rattle.ends.specs.Sides.{end_at, arriving_at}

-- a round carries a frame that is there, looks at an end at which a timer is due, or moves the clock on; nothing else
abbrev pub MayFollow : Ends → Move → Type 0
MayFollow ends (Call side Carry) = arriving_at (end_at side ends) ≢ []
MayFollow ends (Call side Look) = time_left (end_at side ends).link ends.clock ≡ 0
MayFollow ends (Pass ms) = 0 < ms
MayFollow _ _ = ⊥

-- nothing is on its way to the end, nothing waits there, and it owes nothing
pub record IsSettled (end : End) : Type 0 where
  pub arrived : arriving_at end ≡ []
  pub freed : end.link.waiting ≡ 0
  pub acknowledged : end.link.acking ≡ false

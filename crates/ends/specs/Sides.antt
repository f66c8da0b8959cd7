-- The two ends, what there is at each by its side, and what is on its way to one.
use Rattle.std.specs.Prelude.{List, [], ◌≡◌}
use Rattle.state.specs.Calls.{zeros}
use Rattle.ends.specs.declared.Side.{Side}
use Rattle.ends.specs.declared.Side.TheVariants.{Desk, Chip}
use Rattle.ends.specs.declared.Ends.{Ends}
use Rattle.ends.specs.declared.end.End.{End}
use Rattle.ends.specs.declared.bytes.Bytes.{Bytes}
use Rattle.ends.specs.declared.pair.Pair.{Pair}
use Rattle.ends.specs.Queue.{frames_of}

abbrev pub other_side : Side → Side
other_side Desk = Chip
other_side Chip = Desk

abbrev pub of_side : {T : Type 0} → Side → Pair T → T
of_side Desk pair = pair.desk
of_side Chip pair = pair.chip

-- what is at that side becomes t
abbrev pub with_side : {T : Type 0} → Side → Pair T → T → Pair T
with_side Desk pair t = record { desk = t; chip = pair.chip }
with_side Chip pair t = record { desk = pair.desk; chip = t }

abbrev pub end_at : Side → Ends → End
end_at side ends = of_side side ends.pair

-- the first to arrive is the first
abbrev pub arriving_at : End → List Bytes
arriving_at end = frames_of end.queue

-- as before any start: every call answers so; nothing is on its way to the end, and nothing is counted
pub record IsUnset (end : End) : Type 0 where
  pub link : end.link ≡ zeros
  pub arriving : arriving_at end ≡ []
  pub taken : end.count.taken ≡ 0
  pub delivered : end.count.delivered ≡ 0
  pub dropped : end.dropped ≡ 0

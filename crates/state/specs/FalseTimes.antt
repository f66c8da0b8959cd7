-- A time left that the contract of time_left shuts out, which is an equation with `time_left` on every input; proofs/Shut.antt shows it. No call
-- tells it, so it is not among the wrong ends (link).
use Rattle.std.specs.Prelude.{ℕ, cond, ◌≢◌}
use Rattle.base.specs.Range.{least_of}
use Rattle.state.specs.declared.Link.{Link}
use Rattle.state.specs.State.{well_formed}
use Rattle.state.specs.Timer.{no_timer, packet_left, acknowledge_left, time_left}

-- against R6.6: the older packet's is read off the newer one's timer, and so never the least
abbrev pub newer_twice : Link → ℕ → ℕ
newer_twice l ms = cond (well_formed l) (least_of (packet_left l 0 ms) (acknowledge_left l ms)) no_timer

abbrev pub OlderCounts : Type 0
OlderCounts = newer_twice ≢ time_left

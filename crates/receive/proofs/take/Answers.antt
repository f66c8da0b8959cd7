-- `receive::take` meets its contract.
use Rattle.std.proofs.Common.{sym}
use Rattle.frame.proofs.Hearing.{number_heard}
use Rattle.state.proofs.Facts.{gate_of_facts, open_usable}
use Rattle.receive.proofs.take.Goals as goal

pub obey-requires : goal.obey-requires
obey-requires c = let g = sym c.in-Ok.ensures in (g, open_usable _ _ _ (gate_of_facts _ _ _ g), rw c.hear.ensures (number_heard _ _))

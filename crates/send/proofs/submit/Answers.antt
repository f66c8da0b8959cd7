-- `send::submit` meets its contract.
use Rattle.std.proofs.Common.{sym}
use Rattle.send.proofs.Facts.{submit_gate_fits}
use Rattle.send.proofs.submit.Goals as goal

pub accept-requires : goal.accept-requires
accept-requires c = submit_gate_fits _ _ _ _ (sym c.in-Ok.ensures)

-- `fcs::table::entries` meets its contract: one test, which antt computes at each entry (R12.3).
use Rattle.std.proofs.Common.{refl}
use Rattle.fcs.proofs.Agree.{tested, tested_agrees}
use Rattle.fcs.proofs.table.entries.Goals as goal

pub returns : goal.returns
unfolding tested
returns c = tested_agrees _ refl tt

-- `fcs::step` meets its contract, by the law of a table that agrees.
use Rattle.fcs.proofs.Agree.{agrees_step}
use Rattle.fcs.proofs.step.Goals as goal

pub returns : goal.returns
returns c = agrees_step c.requires c.args.seed c.args.byte c.ranges.byte.fits

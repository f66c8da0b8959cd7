-- `frame::hear` meets its contract.
use Rattle.std.proofs.Common.{lt-ltb, le-ltb}
use Rattle.frame.specs.Steps.{heard}
use Rattle.frame.proofs.hear.Goals as goal

pub returns-then-size-lt5 : goal.returns-then-size-lt5
unfolding heard
returns-then-size-lt5 c = simp (lt-ltb _ _ c.if-size-lt5.true)

pub returns-then-format-size : goal.returns-then-format-size
unfolding heard
returns-then-format-size c = rw (le-ltb _ _ c.if-size-lt5.false, lt-ltb _ _ c.if-format-size.true)

pub returns-then-fcs_at : goal.returns-then-fcs_at
unfolding heard
returns-then-fcs_at c = rw (le-ltb _ _ c.if-size-lt5.false, le-ltb _ _ c.if-format-size.false, ← c.fcs_at.ensures, c.if-fcs_at.true, ← c.len_of-len.ensures) c.judge.ensures

pub returns : goal.returns
unfolding heard
returns c = rw (le-ltb _ _ c.if-size-lt5.false, le-ltb _ _ c.if-format-size.false, ← c.fcs_at.ensures, c.if-fcs_at.false)

-- `text::line::each` counts from 1 on.
use Rattle.std.proofs.Common.{arith}
use Rattle.text.proofs.line.each.Goals as goal

pub follow-requires : goal.follow-requires
follow-requires g c = search arith

-- `text::fields::Fields::number_or_0` reads 0 where no field is left.
use Rattle.std.proofs.Common.{arith}
use Rattle.text.proofs.fields.Fields.number_or_0.Goals as goal

pub returns-then-is_none : goal.returns-then-is_none
returns-then-is_none g c = search arith

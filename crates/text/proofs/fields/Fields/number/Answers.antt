-- `text::fields::Fields::number` reads no number where no field is left.
use Rattle.std.proofs.Common.{arith}
use Rattle.text.proofs.fields.Fields.number.Goals as goal

pub returns : goal.returns
returns g c = search arith

-- `text::fields::command` leaves no field.
use Rattle.std.proofs.Common.{arith}
use Rattle.text.proofs.fields.command.Goals as goal

pub returns : goal.returns
returns g c = search arith

-- `text::page::Page::end_line`: what is left of the line is what waited.
use Rattle.std.proofs.Common.{arith}
use Rattle.std.proofs.Math.Seq.{take-append_seam}
use Rattle.text.proofs.page.Page.end_line.Goals as goal

pub returns-then-is_err-clause-err : goal.returns-then-is_err-clause-err
returns-then-is_err-clause-err c = search (arith, take-append_seam)

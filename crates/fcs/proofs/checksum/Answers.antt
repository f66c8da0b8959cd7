-- `fcs::checksum` meets its contract. The invariant: what is left of the slice, from where the loop stands, gives the whole.
use Rattle.std.proofs.Common.{refl, arith}
use Rattle.fcs.specs.Checksum.{checksum_of}
use Rattle.fcs.proofs.Laws.{checksum_from_next, checksum_from-done}
use Rattle.fcs.proofs.checksum.Goals as goal

pub loop-byte-init : goal.loop-byte-init
unfolding checksum_of
loop-byte-init c = (omega arith, refl, c.entries-entries.ensures)

pub loop-byte-preserved : goal.loop-byte-preserved
loop-byte-preserved c =
    let l = c.loop-byte in
    (omega arith, rw c.step-crc.ensures (checksum_from_next _ l.byte-index l.crc _ (omega arith) l.invariant.1), l.invariant.2)

pub returns : goal.returns
returns c = let l = c.loop-byte in checksum_from-done _ l.byte-index l.crc _ (omega arith) l.invariant.1

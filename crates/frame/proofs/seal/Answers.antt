-- `frame::seal` meets its contract.
use Rattle.frame.proofs.Writing.{seal_written}
use Rattle.std.proofs.Common.{arith}
use Rattle.frame.proofs.seal.Goals as goal

pub returns : goal.returns
returns c = let a = c.args in
    seal_written a.format a.frame.now c.fcs_bytes-bytes.result a.covered c.checksum.result (omega arith) c.checksum.ensures
    c.fcs_bytes-bytes.ensures

-- `frame::write_data` meets its contract.
use Rattle.std.proofs.Common.{◌+◌, length, arith}
use Rattle.frame.specs.Bytes.{frame_of}
use Rattle.frame.proofs.Writing.{sealed_written}
use Rattle.frame.proofs.write_data.Goals as goal

pub returns : goal.returns
unfolding frame_of
returns c = let a = c.args in
    sealed_written a.format a.frame.now _ c.write_body.new.frame _ _ (3 + length a.packet.now) (omega arith) (omega arith) c.write_body.ensures c.seal.ensures

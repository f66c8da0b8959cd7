-- `frame::write_control` meets its contract.
use Rattle.std.proofs.Common.{refl, arith}
use Rattle.frame.specs.Bytes.{frame_of}
use Rattle.frame.proofs.Writing.{sealed_written}
use Rattle.frame.proofs.write_control.Goals as goal

pub returns : goal.returns
unfolding frame_of
returns c = sealed_written c.args.format _ _ _ _ _ 3 refl (omega arith) c.put_head.ensures c.seal.ensures

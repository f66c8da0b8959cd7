-- `frame::put_head` meets its contract.
use Rattle.std.proofs.Common.{◌≡◌, ◌/◌, ◌%◌, arith}
use Rattle.base.proofs.Put.{put_sets}
use Rattle.frame.proofs.put_head.Goals as goal

pub returns : goal.returns
returns c =
    let high : c.args.len / 256 % 256 ≡ c.args.len / 256 = omega (arith, c.ranges.len.fits) in
    rw (c.to_be_bytes.ensures, high) (put_sets c.args.frame.now _ 0 c.requires)

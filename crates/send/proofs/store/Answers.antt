-- `send::store` meets its contract: the packet ends within the slot's part.
use Rattle.std.proofs.Common.{◌+◌, ◌-◌, arith}
use Rattle.base.proofs.Put.{put_lent}
use Rattle.send.proofs.store.Goals as goal

pub returns : goal.returns
returns c =
    let m = c.limit in
    let at = c.part_of-at in
    let a = c.args in
    rw (← at.ensures)
    (put_lent a.slots.now a.packet.now _ at.result (at.result + m.result - at.result) (omega (arith, m.ensures))
    (omega (arith, m.ensures, at.ensures)) c.copy_at.ensures)

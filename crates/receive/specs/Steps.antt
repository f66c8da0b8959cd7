-- What a frame that passed steps 1 to 4 does to the state, in steps 6 and 7: R4.6 to R4.8, R5.8.
use Rattle.std.specs.Prelude.{ℕ, ◌+◌, ◌%◌, Bool, true, false, cond, ◌&&◌}
use Rattle.state.specs.declared.Link.{Link}
use Rattle.state.specs.Fields.{with_ackstart, with_expected, with_waiting, with_acking, with_nakmark}
use Rattle.state.specs.State.{behind, waits}
use Rattle.send.specs.Repeat.{may_repeat}

-- R4.6, ACK k: where k waits, only what was sent after it waits on (R11.3). R5.8: only how many wait changes.
abbrev pub freed : Link → ℕ → Link
freed l number = with_waiting l (cond (waits l number) (behind l number) l.waiting)

-- R4.6, NAK k: whether packet k is sent again
abbrev pub repeatable : Link → ℕ → Bool
repeatable l number = waits l number && may_repeat l number

-- R4.6: the state after step 6, of a data frame that carries NAK or ACK of this number. A NAK is no ACK of another number (R11.4).
abbrev pub after_step6 : Link → Bool → ℕ → Link
after_step6 l nak number = cond nak l (freed l number)

-- R4.7: the state that a delivery leaves. R4.8: with it the NAK mark goes.
abbrev pub after_delivery : Link → ℕ → Link
after_delivery l ms =
    with_nakmark (with_acking (with_ackstart (with_expected l ((l.expected + 1) % 4)) (cond l.acking l.ackstart ms)) true) false

-- look and acknowledge, on every input: R1.3, R6.2, R6.3, R6.4.
use Rattle.std.specs.Prelude.{ℕ, ◌-◌, Bool, true, cond, List, length}
use Rattle.base.specs.Answer.{done, link_lost}
use Rattle.state.specs.declared.Link.{Link}
use Rattle.state.specs.declared.Outcome.{Outcome}
use Rattle.state.specs.Fields.{with_lost}
use Rattle.state.specs.State.{sent_before}
use Rattle.state.specs.Gate.{After, after, gated, gate_of, only}
use Rattle.state.specs.Timer.{packet_due, acknowledge_due}
use Rattle.send.specs.Repeat.{may_repeat}
use Rattle.send.specs.Makers.{concluded, silent, sends_repeat, sends_ack}
use Rattle.clock.specs.declared.Looked.{Looked}

-- ---- a due packet

-- R6.2: how many packets were sent after the oldest waiting one (0 where none waits)
abbrev pub after_oldest : Link → ℕ
after_oldest l = l.waiting - 1

-- R6.3: the link is lost, and all but the mark stays (R8.3)
abbrev pub exhausted : Link → List ℕ → List ℕ → After Outcome
exhausted l slots frame = after (only (with_lost l true) link_lost) slots frame

-- R6.3, of the packet of this number: by a repeat, while TRANS_REPEAT leaves one
abbrev pub served : Link → List ℕ → List ℕ → ℕ → ℕ → After Outcome
served l slots frame ms number =
    cond (may_repeat l number) (concluded (sends_repeat l slots frame ms number) done 0 slots) (exhausted l slots frame)

-- ---- the calls

-- R6.2, R6.4: a control ACK where one is owed, and none otherwise
abbrev pub acknowledged_if : Bool → Link → List ℕ → List ℕ → After Outcome
acknowledged_if owed l slots frame = concluded (cond owed (sends_ack l frame) (silent l frame)) done 0 slots

-- R6.2, where the oldest packet is not due
abbrev pub looked_newer : Link → List ℕ → List ℕ → ℕ → After Outcome
looked_newer l slots frame ms =
    cond (packet_due l 0 ms) (served l slots frame ms (sent_before l 0)) (acknowledged_if (acknowledge_due l ms) l slots frame)

-- R6.2, behind the gate
unfoldable pub looked_open : Link → List ℕ → List ℕ → ℕ → After Outcome
looked_open l slots frame ms =
    cond (packet_due l (after_oldest l) ms) (served l slots frame ms (sent_before l (after_oldest l))) (looked_newer l slots frame ms)

-- look's answer is a type of its own, so that it can tell more than the others' do later, e.g. when the next timer is due (DECISIONS D79)
abbrev pub looking : After Outcome → After Looked
looking a = after (record { outcome = a.told }) a.slots a.frame

-- R1.3, R6.2: look
unfoldable pub looked : Link → List ℕ → List ℕ → ℕ → After Looked
unfolding gate_of looked_open
looked l slots frame ms =
    looking (gated (gate_of l (length slots) (length frame)) l slots frame (looked_open l slots frame ms))

-- R1.3, R6.4: acknowledge; sends_ack (send) stops the timer (R4.11)
unfoldable pub acknowledged_now : Link → List ℕ → List ℕ → After Outcome
unfolding gate_of
acknowledged_now l slots frame =
    gated (gate_of l (length slots) (length frame)) l slots frame (acknowledged_if l.acking l slots frame)

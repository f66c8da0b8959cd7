-- The frames that an end sends besides a packet's first and the reset frame: a repeat, a control ACK, a control NAK. R4.8, R4.11, R5.6 to R5.8.
use Rattle.std.specs.Prelude.{ℕ, ◌+◌, ◌%◌, cond, false, true, List, length}
use Rattle.base.specs.Buffer.{put}
use Rattle.frame.specs.Bytes.{data_frame, ack_frame, nak_frame}
use Rattle.state.specs.declared.Link.{Link}
use Rattle.state.specs.declared.Outcome.{Outcome}
use Rattle.state.specs.Fields.{with_acking, with_nakmark}
use Rattle.state.specs.State.{last_correct}
use Rattle.state.specs.Gate.{After, after}
use Rattle.send.specs.declared.Sent.{Sent}
use Rattle.send.specs.Repeat.{again, packet_of}

-- what a maker leaves: the state, with the sent frame's length, and every byte of the frame buffer
pub record Sending : Type 0 where
  pub told : Sent
  pub frame : List ℕ

abbrev pub sending : Sent → List ℕ → Sending
sending s frame = record { told = s; frame = frame }

-- R1.4
abbrev pub sends : Link → List ℕ → List ℕ → Sending
sends l bytes frame = sending (record { state = l; sent = length bytes }) (put frame 0 bytes)

abbrev pub silent : Link → List ℕ → Sending
silent l frame = sending (record { state = l; sent = 0 }) frame

-- R1.5: for the calls that end with a maker below, or silent: they drop no packet and leave the slot buffer as it was
abbrev pub concluded : Sending → ℕ → ℕ → List ℕ → After Outcome
concluded s answer delivered slots =
    after (record { state = s.told.state; sent = s.told.sent; delivered = delivered; dropped = 0; answer = answer }) slots s.frame

-- ---- the makers

-- R5.6: a later frame of a packet, made anew from the slot: no frame is kept (R11.1)
abbrev pub repeat_frame : Link → List ℕ → ℕ → List ℕ
repeat_frame l slots number = data_frame l.settings.format number (last_correct l) (packet_of l slots number)

-- R5.7, with the frame of R5.6
abbrev pub sends_repeat : Link → List ℕ → List ℕ → ℕ → ℕ → Sending
sends_repeat l slots frame ms number = sends (again l number ms) (repeat_frame l slots number) frame

-- R4.11, R5.8: the timer's start time stays, as the packets' do (DECISIONS D11)
abbrev pub ack_stopped : Link → Link
ack_stopped l = with_acking l false

-- R4.11: a control ACK, of the last correct number
abbrev pub sends_ack : Link → List ℕ → Sending
sends_ack l frame = sends (ack_stopped l) (ack_frame l.settings.format (last_correct l)) frame

-- R4.8: with the NAK mark
abbrev pub marked : Link → Link
marked l = with_nakmark l true

-- R4.8: where the mark is set already, none goes out. R4.11: the acknowledge timer is left alone.
abbrev pub sends_nak : Link → List ℕ → Sending
sends_nak l frame = cond l.nakmark (silent l frame) (sends (marked l) (nak_frame l.settings.format ((last_correct l + 1) % 4)) frame)

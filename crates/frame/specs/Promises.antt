-- What is promised of frames beyond the functions' own contracts: R4.1 to R4.4, R12.7, R14.1, R14.2; proofs/Hearing.antt and Reasons.antt prove
-- it. The first five serve R14.2, since what one end writes the other must hear; R14.3 and R14.4 stand on them. The next two serve R14.1:
-- whatever was received, the bytes told are there, and no number is looked up that is none. The last three are for whoever sees a refusal's
-- number.
use Rattle.std.specs.Prelude.{ℕ, ◌+◌, ◌-◌, ◌<◌, ◌≤◌, Bool, true, false, List, ◌≡◌, ◌⊎◌, ◌≢◌, length}
use Rattle.base.specs.Answer.{done}
use Rattle.frame.specs.declared.Format.{Format}
use Rattle.frame.specs.declared.Heard.{Heard}
use Rattle.frame.specs.declared.Heard.TheVariants.{Size, Sum, Code, ControlSize, Length, Reset, Ack, Nak, Data}
use Rattle.frame.specs.Bytes.{data_frame, ack_frame, nak_frame, reset_frame}
use Rattle.frame.specs.Steps.{fctr_of, len_of, fcs_at, is_control, used, heard, refusal_of, packet_in, len_in, acknowledged_in}

-- R14.2: hearing what was written gives back what was meant, for a data frame of every number and acknowledgement and a packet of 1 to
-- D − 5 bytes ..
abbrev pub DataHeard : Type 0
DataHeard =
    (format : Format) (number acknowledged : ℕ) (packet : List ℕ) → number ≤ 3 → acknowledged ≤ 3 → 1 ≤ length packet
    → length packet + 5 ≤ format.d → heard format (data_frame format number acknowledged packet) ≡ Data number false acknowledged (length packet)

-- .. and the packet in it is the packet ..
abbrev pub PacketHeard : Type 0
PacketHeard =
    (format : Format) (number acknowledged : ℕ) (packet : List ℕ)
    → packet_in (data_frame format number acknowledged packet) (length packet) ≡ packet

-- .. for a control ACK and a control NAK of every number ..
abbrev pub AckHeard : Type 0
AckHeard = (format : Format) (acknowledged : ℕ) → acknowledged ≤ 3 → 5 ≤ format.d → heard format (ack_frame format acknowledged) ≡ Ack acknowledged

abbrev pub NakHeard : Type 0
NakHeard = (format : Format) (acknowledged : ℕ) → acknowledged ≤ 3 → 5 ≤ format.d → heard format (nak_frame format acknowledged) ≡ Nak acknowledged

-- .. and for the reset frame.
abbrev pub ResetHeard : Type 0
ResetHeard = (format : Format) → 5 ≤ format.d → heard format (reset_frame format) ≡ Reset

-- R14.1: the packet of a data frame that is heard lies in the frame, before FCS.
abbrev pub LengthHeard : Type 0
LengthHeard = (format : Format) (frame : List ℕ) → len_in (heard format frame) ≤ length frame - 5

-- R14.1: an acknowledgement that is heard names a frame number, 0 to 3.
abbrev pub NumberHeard : Type 0
NumberHeard = (format : Format) (frame : List ℕ) → acknowledged_in (heard format frame) ≤ 3

-- R12.7: a refusal's number tells which refusal it was.
abbrev pub NumberTells : Type 0
NumberTells = (h k : Heard) → refusal_of h ≢ done → refusal_of k ≡ refusal_of h → k ≡ h

-- R3.2: the last two bytes are FCS of all others
abbrev pub right : Format → List ℕ → Bool
right format frame = fcs_at format (length frame - 2) frame

-- R4.1 to R4.4: what is so of a frame that is heard as this
pub data Reason (format : Format) (frame : List ℕ) : Heard → Type 0 where
  wrong_size : (length frame < 5) ⊎ (format.d < length frame) → Reason format frame Size
  wrong-sum : right format frame ≡ false → Reason format frame Sum
  wrong-code : right format frame ≡ true → used (fctr_of frame) ≡ false → Reason format frame Code
  wrong-control : right format frame ≡ true → is_control (fctr_of frame) ≡ true → (length frame ≢ 5) ⊎ (len_of frame ≢ 0) → Reason format frame ControlSize
  wrong-len : right format frame ≡ true → is_control (fctr_of frame) ≡ false → (len_of frame ≡ 0) ⊎ (len_of frame ≢ length frame - 5) → Reason format frame Length
  passed : (h : Heard) → refusal_of h ≡ done → Reason format frame h

-- R4.1 to R4.4: a refusal has its reason, whatever was received: 17, 6 and 18 are given only where it is true, ..
abbrev pub ReasonHeard : Type 0
ReasonHeard = (format : Format) (frame : List ℕ) → Reason format frame (heard format frame)

-- .. and, by R4.1 and R4.4, wherever it is: 17 whatever the checksum is, 6 whatever follows in the frame, 18 where no step before has refused it
pub record FaultHeard (format : Format) (frame : List ℕ) : Type 0 where
  pub size : (length frame < 5) ⊎ (format.d < length frame) → heard format frame ≡ Size
  pub sum : 5 ≤ length frame → length frame ≤ format.d → right format frame ≡ false → heard format frame ≡ Sum
  pub len : 5 ≤ length frame → length frame ≤ format.d → right format frame ≡ true → used (fctr_of frame) ≡ true → is_control (fctr_of frame) ≡ false
      → (len_of frame ≡ 0) ⊎ (len_of frame ≢ length frame - 5) → heard format frame ≡ Length

-- The examples of R10, of the definitions, in one table for both orders of FCS. R10.13: others are worked out by the program of this crate.
use Rattle.std.specs.Prelude.{ℕ, ◌≤◌, true, false, List, [], ◌∷◌, ◌≡◌, length}
use Rattle.base.specs.Answer.{done, unexpected, frame_sum, frame_length}
use Rattle.base.specs.Buffer.{put}
use Rattle.fcs.specs.Checksum.{checksum_of}
use Rattle.frame.specs.declared.Format.{Format}
use Rattle.frame.specs.declared.Heard.TheVariants.{Length}
use Rattle.frame.specs.Bytes.{sealed, data_frame, ack_frame, nak_frame, reset_frame}
use Rattle.frame.specs.Steps.{heard, packet_in}
use Rattle.state.specs.declared.Settings.{Settings}
use Rattle.state.specs.declared.Link.{Link}
use Rattle.state.specs.declared.Outcome.{Outcome}
use Rattle.state.specs.Bounds.{in_range, slots_need, frame_need}
use Rattle.state.specs.Fields.{with_ackstart, with_expected, with_acking, with_nakmark}
use Rattle.state.specs.State.{fresh_of}
use Rattle.state.specs.Gate.{After, after}
use Rattle.state.specs.Timer.{elapsed}
use Rattle.receive.specs.Take.{frame_taken}
use Rattle.chain.specs.Pctr.{only_channel}
use Rattle.chain.specs.Cut.{packets_of}

-- R3.8: the bytes of FCS, given low byte first; with order 0 they stand as they are given ..
abbrev pub as_given : ℕ → ℕ → List ℕ
as_given first second = first ∷ second ∷ []

-- .. and with order 1 turned round
abbrev pub turned_round : ℕ → ℕ → List ℕ
turned_round first second = second ∷ first ∷ []

-- a format of any D, with this order
abbrev pub format_in : ℕ → ℕ → Format
format_in order d = record { d = d; order = order }

-- a fresh end with any settings in range that have this order, and buffers that are long enough, at any millisecond
pub record End (order : ℕ) : Type 0 where
  pub settings : Settings
  pub slots : List ℕ
  pub frame : List ℕ
  pub ms : ℕ
  pub range : in_range settings ≡ true
  pub ordered : settings.format.order ≡ order
  pub slots_room : slots_need settings ≤ length slots
  pub frame_room : frame_need settings ≤ length frame

-- what such an end, fresh, does about a frame
abbrev pub taken : {order : ℕ} → End order → List ℕ → After Outcome
taken e received = frame_taken (fresh_of e.settings) e.slots e.frame e.ms received

-- .. and about the same frame a second time, at any millisecond, with all as the first left it
abbrev pub taken_again : {order : ℕ} → End order → List ℕ → ℕ → After Outcome
taken_again e received later =
    let first : After Outcome = taken e received in
    frame_taken first.told.state first.slots first.frame later received

-- the state that example 8 leaves, written out
abbrev pub delivered0 : {order : ℕ} → End order → Link
delivered0 e = with_acking (with_ackstart (with_expected (fresh_of e.settings) 1) e.ms) true

-- in this order: the answer, the length of the frame sent, that of the packet delivered
abbrev pub told : Link → ℕ → ℕ → ℕ → Outcome
told l answer sent delivered = record { state = l; sent = sent; delivered = delivered; dropped = 0; answer = answer }

-- it is left in this state, answers this, and sends these five bytes
abbrev pub sending : {order : ℕ} → End order → Link → ℕ → List ℕ → After Outcome
sending e l answer bytes = after (told l answer 5 0) e.slots (put e.frame 0 bytes)

-- fresh, it refuses with this answer, and sends its NAK (R4.8)
abbrev pub refusing : {order : ℕ} → End order → ℕ → List ℕ → After Outcome
refusing e answer bytes = sending e (with_nakmark (fresh_of e.settings) true) answer bytes

-- data 0 with ACK 3, that is example 6's frame
abbrev pub data0 : (ℕ → ℕ → List ℕ) → List ℕ
data0 fcs = 0x03 ∷ 0x00 ∷ 0x01 ∷ 0x00 ∷ fcs 0x15 0x3C

-- R10.1 to R10.12, and R10.14: of an order, and how the bytes of FCS stand in it
pub record Table (order : ℕ) (fcs : ℕ → ℕ → List ℕ) : Type 0 where
  -- R10.1
  pub example1 : checksum_of (0x31 ∷ 0x32 ∷ 0x33 ∷ 0x34 ∷ 0x35 ∷ 0x36 ∷ 0x37 ∷ 0x38 ∷ 0x39 ∷ []) ≡ 0x2189
  -- R10.2
  pub example2 : (d : ℕ) → ack_frame (format_in order d) 0 ≡ 0x80 ∷ 0x00 ∷ 0x00 ∷ fcs 0xEC 0x0C
  -- R10.3
  pub example3 : (d : ℕ) → ack_frame (format_in order d) 1 ≡ 0x81 ∷ 0x00 ∷ 0x00 ∷ fcs 0x30 0x56
  -- R10.4
  pub example4 : (d : ℕ) → nak_frame (format_in order d) 0 ≡ 0xA0 ∷ 0x00 ∷ 0x00 ∷ fcs 0xD7 0x0F
  -- R10.5, FCS ..
  pub example5 : (d : ℕ) → sealed (format_in order d) (0xC0 ∷ 0x00 ∷ 0x00 ∷ []) ≡ 0xC0 ∷ 0x00 ∷ 0x00 ∷ fcs 0x9A 0x0A
  -- .. and it is the reset frame
  pub example5_reset : (d : ℕ) → reset_frame (format_in order d) ≡ 0xC0 ∷ 0x00 ∷ 0x00 ∷ fcs 0x9A 0x0A
  -- R10.6
  pub example6 : (d : ℕ) → data_frame (format_in order d) 0 3 (0x00 ∷ []) ≡ data0 fcs
  -- R10.7, the checksum: as it is written ..
  pub example7_sum : (d : ℕ) → sealed (format_in order d) (0x00 ∷ 0x00 ∷ 0x00 ∷ []) ≡ 0x00 ∷ 0x00 ∷ 0x00 ∷ 0x00 ∷ 0x00 ∷ []
  -- .. and as it is read: not step 1 refuses them, but step 4
  pub example7_step4 : (d : ℕ) → 5 ≤ d → heard (format_in order d) (0x00 ∷ 0x00 ∷ 0x00 ∷ 0x00 ∷ 0x00 ∷ []) ≡ Length
  -- R10.7, the answer, and the frame of R10.4
  pub example7 : (e : End order) → taken e (0x00 ∷ 0x00 ∷ 0x00 ∷ 0x00 ∷ 0x00 ∷ [])
      ≡ refusing e frame_length (0xA0 ∷ 0x00 ∷ 0x00 ∷ fcs 0xD7 0x0F)
  -- R10.8
  pub example8 : (e : End order) → taken e (data0 fcs) ≡ after (told (delivered0 e) done 0 1) e.slots e.frame
  pub example8_packet : (e : End order) → packet_in (data0 fcs) (taken e (data0 fcs)).told.delivered ≡ 0x00 ∷ []
  -- R10.9
  pub example9 : (e : End order) (later : ℕ) → taken_again e (data0 fcs) later
      ≡ sending e (with_acking (delivered0 e) false) unexpected (0x80 ∷ 0x00 ∷ 0x00 ∷ fcs 0xEC 0x0C)
  -- R10.10
  pub example10 : (a b c d e f g h i j : ℕ) → packets_of 11 only_channel (a ∷ b ∷ c ∷ d ∷ e ∷ f ∷ g ∷ h ∷ i ∷ j ∷ [])
      ≡ (0x00 ∷ a ∷ b ∷ c ∷ d ∷ e ∷ f ∷ g ∷ h ∷ i ∷ j ∷ []) ∷ []
  -- R10.11
  pub example11 : (a b c d e f g h i j k : ℕ) → packets_of 11 only_channel (a ∷ b ∷ c ∷ d ∷ e ∷ f ∷ g ∷ h ∷ i ∷ j ∷ k ∷ [])
      ≡ (0x01 ∷ a ∷ b ∷ c ∷ d ∷ e ∷ f ∷ g ∷ h ∷ i ∷ j ∷ []) ∷ (0x04 ∷ k ∷ []) ∷ []
  -- R10.12
  pub example12 : elapsed 4294967290 4 ≡ 10
  -- R10.14: the reset frame of the other order; and the frame of R10.4
  pub example14 : (e : End order) → taken e (0xC0 ∷ 0x00 ∷ 0x00 ∷ fcs 0x0A 0x9A)
      ≡ refusing e frame_sum (0xA0 ∷ 0x00 ∷ 0x00 ∷ fcs 0xD7 0x0F)

-- R3.8, R10: the table, in both orders. Two rows of the second, which the customer's chips have, are said once more, so that every byte is seen.
pub record Examples : Type 0 where
  pub low_first : Table 0 as_given
  pub high_first_lem : Table 1 turned_round
  pub chips_ack : (d : ℕ) → ack_frame (format_in 1 d) 0 ≡ 0x80 ∷ 0x00 ∷ 0x00 ∷ 0x0C ∷ 0xEC ∷ []
  pub chips_no_reset : (e : End 1) → taken e (0xC0 ∷ 0x00 ∷ 0x00 ∷ 0x9A ∷ 0x0A ∷ [])
      ≡ refusing e frame_sum (0xA0 ∷ 0x00 ∷ 0x00 ∷ 0x0F ∷ 0xD7 ∷ [])

-- A frame's bytes, and the frames that an end sends: R3.1, R3.2, R3.7, R3.8.
use Rattle.std.specs.Prelude.{ℕ, ◌+◌, ◌*◌, ◌/◌, ◌%◌, cond, List, [], ◌∷◌, ◌++◌, ◌≡◌, length, eqb}
use Rattle.base.specs.Buffer.{put}
use Rattle.fcs.specs.Checksum.{checksum_of}
use Rattle.frame.specs.declared.Format.{Format}

-- R3.1, LEN
abbrev pub len_bytes : ℕ → List ℕ
len_bytes len = (len / 256) ∷ (len % 256) ∷ []

-- R3.8, the two orders of FCS: its low byte first, or its high byte
abbrev pub low_first : ℕ
low_first = 0

abbrev pub high_first : ℕ
high_first = 1

-- R3.8: of two things the one for the order that the format has. A number that is neither order no end ever has (R2.1); here it is read as
-- low first (DECISIONS D110).
abbrev pub by_order : {A : Type 0} → Format → A → A → A
by_order format low high = cond (eqb format.order high_first) high low

-- R3.1, FCS: the byte that goes first, and the other
abbrev pub fcs_bytes : Format → ℕ → List ℕ
fcs_bytes format sum =
    let low : ℕ = sum % 256 in
    let high : ℕ = sum / 256 in
    by_order format low high ∷ by_order format high low ∷ []

-- R3.2: bytes, and their FCS behind them
unfoldable pub sealed : Format → List ℕ → List ℕ
sealed format covered = covered ++ fcs_bytes format (checksum_of covered)

-- R3.1, of FCTR and a packet
unfoldable pub frame_of : Format → ℕ → List ℕ → List ℕ
unfolding sealed
frame_of format fctr packet = sealed format (fctr ∷ (len_bytes (length packet) ++ packet))

-- R3.7, with the FCTR of R3.5. Which number is acknowledged is the sender's to say: packet_accepted and the makers (send) do.
abbrev pub data_frame : Format → ℕ → ℕ → List ℕ → List ℕ
data_frame format number acknowledged packet = frame_of format (number * 4 + acknowledged) packet

abbrev pub ack_frame : Format → ℕ → List ℕ
ack_frame format acknowledged = frame_of format (0x80 + acknowledged) []

abbrev pub nak_frame : Format → ℕ → List ℕ
nak_frame format acknowledged = frame_of format (0xA0 + acknowledged) []

-- R3.7, the reset frame, written out (R12.4), one for each order
abbrev pub reset_frame : Format → List ℕ
reset_frame format = by_order format (0xC0 ∷ 0x00 ∷ 0x00 ∷ 0x9A ∷ 0x0A ∷ []) (0xC0 ∷ 0x00 ∷ 0x00 ∷ 0x0A ∷ 0x9A ∷ [])

-- ---- for the contracts of functions inside

-- what a writer leaves: it tells the frame's length (R1.5), the frame's bytes stand at the start of the buffer (R1.4), and the others stay (R9.3)
pub record Written (frame before after : List ℕ) (sent : ℕ) : Type 0 where
  pub told : sent ≡ length frame
  pub bytes : after ≡ put before 0 frame

-- A received frame, steps 1 to 4: what the bytes are, with the format given and no state. R3.1, R3.2, R3.5, R3.6, R4.1 to R4.4, with R2.5 and
-- R12.7; and where the packet of R4.7 is.
use Rattle.std.specs.Prelude.{ℕ, ◌+◌, ◌-◌, ◌*◌, ◌/◌, ◌%◌, Bool, true, false, cond, not, ◌&&◌, ◌||◌, List, [], ◌∷◌, length, take, drop, get_or, eqb, leb, ltb}
use Rattle.base.specs.Range.{within}
use Rattle.base.specs.Answer.{done, frame_sum, unused_code, control_size, frame_size, frame_length}
use Rattle.fcs.specs.Checksum.{checksum_of}
use Rattle.frame.specs.declared.Format.{Format}
use Rattle.frame.specs.declared.Heard.{Heard}
use Rattle.frame.specs.declared.Heard.TheVariants.{Size, Sum, Code, ControlSize, Length, Reset, Ack, Nak, Data}
use Rattle.frame.specs.Bytes.{fcs_bytes}

-- ---- the parts of a frame

-- R3.1, FCTR
abbrev pub fctr_of : List ℕ → ℕ
fctr_of frame = get_or frame 0 0

-- R3.1, LEN
abbrev pub len_of : List ℕ → ℕ
len_of frame = get_or frame 1 0 * 256 + get_or frame 2 0

-- a test, since `◌≡◌` is a statement and decides no case
abbrev pub same_bytes : List ℕ → List ℕ → Bool
same_bytes [] [] = true
same_bytes [] (b ∷ t) = false
same_bytes (a ∷ s) [] = false
same_bytes (a ∷ s) (b ∷ t) = eqb a b && same_bytes s t

-- R3.2: whether the two bytes from index `at` on are FCS of all before them
unfoldable pub fcs_at : Format → ℕ → List ℕ → Bool
fcs_at format at frame = same_bytes (take 2 (drop at frame)) (fcs_bytes format (checksum_of (take at frame)))

-- ---- the parts of FCTR

-- R3.5, bit 7
abbrev pub is_control : ℕ → Bool
is_control fctr = leb 0x80 fctr

-- R3.5, bits 6 and 5
abbrev pub is_nak : ℕ → Bool
is_nak fctr = eqb (fctr / 32 % 4) 1

abbrev pub is_reset : ℕ → Bool
is_reset fctr = eqb (fctr / 32 % 4) 2

-- R3.5, the two numbers
abbrev pub number_of : ℕ → ℕ
number_of fctr = fctr / 4 % 4

abbrev pub acknowledged_of : ℕ → ℕ
acknowledged_of fctr = fctr % 4

-- R3.6: none of these has bit 4 set
unfoldable pub used : ℕ → Bool
used fctr =
    within 0x00 fctr 0x0F || within 0x20 fctr 0x2F || within 0x80 fctr 0x83 || within 0xA0 fctr 0xA3 || eqb fctr 0xC0

-- ---- steps 1 to 4

-- what an accepted frame says, by R3.5: its FCTR and LEN read
unfoldable pub accepted : ℕ → ℕ → Heard
accepted fctr len =
    cond (is_control fctr)
    (cond (is_reset fctr) Reset (cond (is_nak fctr) (Nak (acknowledged_of fctr)) (Ack (acknowledged_of fctr))))
    (Data (number_of fctr) (is_nak fctr) (acknowledged_of fctr) len)

-- R4.2, R4.3, R4.4, in this order, of FCTR, LEN and the frame's size
unfoldable pub judged : ℕ → ℕ → ℕ → Heard
unfolding used accepted
judged fctr len size =
    cond (not (used fctr)) Code
    (cond (is_control fctr && (not (eqb size 5) || not (eqb len 0))) ControlSize
    (cond (not (is_control fctr) && (eqb len 0 || not (eqb len (size - 5)))) Length (accepted fctr len)))

-- R4.1, of any bytes whatever (R2.5): the size is looked at first. Then the other steps.
unfoldable pub heard : Format → List ℕ → Heard
unfolding fcs_at judged
heard format frame =
    cond (ltb (length frame) 5 || ltb format.d (length frame)) Size
    (cond (not (fcs_at format (length frame - 2) frame)) Sum (judged (fctr_of frame) (len_of frame) (length frame)))

-- R12.7. The numbers: 17 and 6 for step 1, 7 for step 2, 8 for step 3, 18 for step 4; 0 for a control frame that passes, and for a data
-- frame 0, or 9 by step 7, which needs the state. The values are the cases' own, read off FCTR and LEN by the definitions above.
abbrev pub refusal_of : Heard → ℕ
refusal_of Size = frame_size
refusal_of Sum = frame_sum
refusal_of Code = unused_code
refusal_of ControlSize = control_size
refusal_of Length = frame_length
refusal_of Reset = done
refusal_of (Ack acknowledged) = done
refusal_of (Nak acknowledged) = done
refusal_of (Data number nak acknowledged len) = done

-- ---- what a frame that was heard brings

-- R4.7: the packet, where it stands
abbrev pub packet_in : List ℕ → ℕ → List ℕ
packet_in frame len = take len (drop 3 frame)

-- LEN of a data frame, 0 of what is none
abbrev pub len_in : Heard → ℕ
len_in Size = 0
len_in Sum = 0
len_in Code = 0
len_in ControlSize = 0
len_in Length = 0
len_in Reset = 0
len_in (Ack acknowledged) = 0
len_in (Nak acknowledged) = 0
len_in (Data number nak acknowledged len) = len

-- the acknowledged number that a frame brings (R4.6), 0 where it brings none
abbrev pub acknowledged_in : Heard → ℕ
acknowledged_in Size = 0
acknowledged_in Sum = 0
acknowledged_in Code = 0
acknowledged_in ControlSize = 0
acknowledged_in Length = 0
acknowledged_in Reset = 0
acknowledged_in (Ack acknowledged) = acknowledged
acknowledged_in (Nak acknowledged) = acknowledged
acknowledged_in (Data number nak acknowledged len) = acknowledged

-- The two orders of FCS, and what the order changes: R3.8. proofs/Orders.antt shows it. All of it holds of every format: whichever order it
-- has, `in_other_order` has the other one.
use Rattle.std.specs.Prelude.{ℕ, ◌-◌, ◌≤◌, true, List, [], ◌∷◌, ◌++◌, reverse, ◌≡◌, ◌≢◌, length, take, drop, get_or}
use Rattle.frame.specs.declared.Format.{Format}
use Rattle.frame.specs.declared.Heard.TheVariants.{Sum, Length}
use Rattle.frame.specs.Bytes.{low_first, high_first, by_order, frame_of, reset_frame}
use Rattle.frame.specs.Steps.{heard}
use Rattle.frame.specs.Promises.{right}

-- R3.8: the same format with the other order
abbrev pub in_other_order : Format → Format
in_other_order format = record { d = format.d; order = by_order format high_first low_first }

-- R3.8: a frame with its last two bytes turned round
abbrev pub turned : List ℕ → List ℕ
turned frame = let at : ℕ = length frame - 2 in take at frame ++ reverse (drop at frame)

-- R3.8: in the other order a frame has its last two bytes turned round, and is the same else ..
abbrev pub FrameTurned : Type 0
FrameTurned = (format : Format) (fctr : ℕ) (packet : List ℕ) → frame_of (in_other_order format) fctr packet ≡ turned (frame_of format fctr packet)

-- .. and (R3.8, too) the turned frame is heard there as the frame is here, whatever was received.
abbrev pub HeardTurned : Type 0
HeardTurned = (format : Format) (frame : List ℕ) → heard (in_other_order format) (turned frame) ≡ heard format frame

-- R3.8: unturned, a frame that has a right FCS in the other order is refused by its checksum if the two bytes differ, ..
abbrev pub OtherOrder : Type 0
OtherOrder =
    (format : Format) (frame : List ℕ) → 5 ≤ length frame → length frame ≤ format.d → right (in_other_order format) frame ≡ true
    → get_or frame (length frame - 2) 0 ≢ get_or frame (length frame - 1) 0 → heard format frame ≡ Sum

-- .. and (R3.8, too) is heard as in the other order if they are equal, as is whatever else was received.
abbrev pub EqualHeard : Type 0
EqualHeard =
    (format : Format) (frame : List ℕ) → get_or frame (length frame - 2) 0 ≡ get_or frame (length frame - 1) 0
    → heard (in_other_order format) frame ≡ heard format frame

-- R3.8: so the other order's reset frame is none, ..
abbrev pub ResetOther : Type 0
ResetOther = (format : Format) → 5 ≤ format.d → heard format (reset_frame (in_other_order format)) ≡ Sum

-- .. and five bytes of 0 have a right checksum in both: step 4 refuses them (R4.4).
abbrev pub ZerosHeard : Type 0
ZerosHeard = (format : Format) → 5 ≤ format.d → heard format (0x00 ∷ 0x00 ∷ 0x00 ∷ 0x00 ∷ 0x00 ∷ []) ≡ Length

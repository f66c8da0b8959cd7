-- The checksum, and what a table of it must be: R3.3, R3.4.
use Rattle.std.specs.Prelude.{ℕ, zero, suc, ◌/◌, ◌%◌, ◌<◌, Bool, true, false, List, [], ◌∷◌, ◌≡◌, eqb, length, get_or}
use Rattle.std.specs.Int.Bits.{bit_xor}

-- R3.3, the choice at one bit: whether what falls out is the byte's bit, and the seed after its move
abbrev pub combine : Bool → ℕ → ℕ
combine true half = half
combine false half = bit_xor half 0x8408

-- R3.3, one bit
unfoldable pub bit_step : ℕ → ℕ → ℕ
bit_step seed bit = combine (eqb (seed % 2) bit) (seed / 2)

-- R3.3, the n lowest bits of a byte
unfoldable pub bit_steps : ℕ → ℕ → ℕ → ℕ
unfolding bit_step
bit_steps zero seed byte = seed
bit_steps (suc n) seed byte = bit_steps n (bit_step seed (byte % 2)) (byte / 2)

-- R3.3, one byte: all eight bits, so a step by the table can stand for it
unfoldable pub byte_step : ℕ → ℕ → ℕ
unfolding bit_steps
byte_step seed byte = bit_steps 8 seed byte

-- R3.3, all bytes, from any seed
unfoldable pub checksum_from : ℕ → List ℕ → ℕ
unfolding byte_step
checksum_from seed [] = seed
checksum_from seed (byte ∷ bytes) = checksum_from (byte_step seed byte) bytes

-- R3.3, all bytes, from 0
unfoldable pub checksum_of : List ℕ → ℕ
unfolding checksum_from
checksum_of bytes = checksum_from 0 bytes

-- R3.4: entry k is the step from 0 by the byte k
pub record Agrees (table : List ℕ) : Type 0 where
  pub size : length table ≡ 256
  pub entry : (k : ℕ) → k < 256 → get_or table k 0 ≡ byte_step 0 k

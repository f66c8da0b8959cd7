-- What the crates above may cite of the checksum: it is below 65,536, and it goes on from one list to the next.
use Rattle.std.proofs.Common.{◌≡◌, refl, Bool, true, false, List, [], ◌∷◌, ◌++◌, ℕ, zero, suc, ◌+◌, ◌/◌, ◌%◌, ◌^◌, ◌<◌, add-one, arith, eqb, lit<, length, drop, get_or, drop-cons}
use lib.Seq.{drop-length}
use lib.Bits.{xor_lt}
use Rattle.fcs.specs.Checksum.{combine, bit_step, bit_steps, byte_step, checksum_from, checksum_of}

-- ---- below 65,536

combine_below : (same : Bool) (half : ℕ) → half < 2 ^ 16 → combine same half < 2 ^ 16
combine_below true half h = h
combine_below false half h = xor_lt 16 half 0x8408 h (lit< tt)

bit_steps_below : (n seed byte : ℕ) → seed < 2 ^ 16 → bit_steps n seed byte < 2 ^ 16
unfolding bit_steps bit_step
bit_steps_below zero seed byte h = h
bit_steps_below (suc n) seed byte h =
    bit_steps_below n (bit_step seed (byte % 2)) (byte / 2) (combine_below (eqb (seed % 2) (byte % 2)) (seed / 2) (omega arith))

checksum_from_below : (seed : ℕ) (bytes : List ℕ) → seed < 2 ^ 16 → checksum_from seed bytes < 2 ^ 16
unfolding checksum_from byte_step
checksum_from_below seed [] h = h
checksum_from_below seed (byte ∷ bytes) h = checksum_from_below (byte_step seed byte) bytes (bit_steps_below 8 seed byte h)

pub checksum_of_below : (bytes : List ℕ) → checksum_of bytes < 65536
unfolding checksum_of
checksum_of_below bytes = checksum_from_below 0 bytes (lit< tt)

-- ---- append

pub checksum_from-append : (seed : ℕ) (a b : List ℕ) → checksum_from seed (a ++ b) ≡ checksum_from (checksum_from seed a) b
unfolding checksum_from
checksum_from-append seed [] b = refl
checksum_from-append seed (byte ∷ a) b = checksum_from-append (byte_step seed byte) a b

pub checksum_of-append : (a b : List ℕ) → checksum_of (a ++ b) ≡ checksum_from (checksum_of a) b
unfolding checksum_of
checksum_of-append a b = checksum_from-append 0 a b

-- ---- a loop over a slice: what is left of it, from where the loop stands, gives the whole

pub checksum_from_next : (bytes : List ℕ) (i seed whole : ℕ) → i < length bytes → checksum_from seed (drop i bytes) ≡ whole
    → checksum_from (byte_step seed (get_or bytes i 0)) (drop (i + 1) bytes) ≡ whole
unfolding checksum_from
checksum_from_next bytes i seed whole h e = rw add-one (rw (drop-cons bytes i 0 h) at e)

pub checksum_from-done : (bytes : List ℕ) (i seed whole : ℕ) → i ≡ length bytes → checksum_from seed (drop i bytes) ≡ whole → seed ≡ whole
unfolding checksum_from
checksum_from-done bytes i seed whole q e = rw (q, drop-length) at e

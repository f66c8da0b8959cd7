-- The bit rule is linear over exclusive-or, so a step from any seed is one from 0, and the seed's high byte comes out as it went in.
use Rattle.std.proofs.Common.{◌≡◌, refl, sym, ap, ap₂, ◌∙◌, ℕ, zero, suc, ◌*◌, ◌/◌, ◌%◌, ◌^◌, ◌<◌, mod-lt, add-one, arith, eqb, pow_pos, shr_lt, bit_xor}
use native.Mathlib.Nat.{div-eq_of_lt}
use lib.Arith.{lt-one}
use lib.Pow.{split}
use lib.Bits.{xor_shr, xor_mod, xor_comm, xor_zero_r, xor_shifted, shifted_half, shifted_even}
use Rattle.fcs.specs.Checksum.{combine, bit_step, bit_steps, byte_step}
use Rattle.fcs.proofs.Xor.{bit, odd_lt, xor_right, xor_four}

-- what a bit that leaves combines with
poly : ℕ → ℕ
poly zero = 0
poly (suc n) = 0x8408

poly_xor : (x y : ℕ) → x < 2 → y < 2 → poly (bit_xor x y) ≡ bit_xor (poly x) (poly y)
unfolding poly
poly_xor x y hx hy =
    bit (λ a. poly (bit_xor a y) ≡ bit_xor (poly a) (poly y)) refl (bit (λ b. poly (bit_xor 1 b) ≡ bit_xor (poly 1) (poly b)) refl refl y hy) x hx

-- ---- the rule with the byte combined into the seed before the first step

turn : ℕ → ℕ
turn x = bit_xor (x / 2) (poly (x % 2))

turns : ℕ → ℕ → ℕ
turns zero x = x
turns (suc n) x = turns n (turn x)

turn_xor : (a b : ℕ) → turn (bit_xor a b) ≡ bit_xor (turn a) (turn b)
unfolding turn
turn_xor a b =
    ap₂ (λ (p q : ℕ). bit_xor p (poly q)) (xor_shr a b 1) (xor_mod a b 1)
    ∙ ap (bit_xor (bit_xor (a / 2) (b / 2))) (poly_xor (a % 2) (b % 2) (odd_lt a) (odd_lt b))
    ∙ xor_four (a / 2) (b / 2) (poly (a % 2)) (poly (b % 2))

turns_xor : (n a b : ℕ) → turns n (bit_xor a b) ≡ bit_xor (turns n a) (turns n b)
unfolding turns
turns_xor zero a b = refl
turns_xor (suc n) a b = ap (turns n) (turn_xor a b) ∙ turns_xor n (turn a) (turn b)

-- what stands above the n low bits comes down whole
turns_high : (n h : ℕ) → turns n (h * 2 ^ n) ≡ h
unfolding turns turn poly
turns_high zero h = omega arith
turns_high (suc n) h =
    ap (turns n) (ap₂ (λ (p q : ℕ). bit_xor p (poly q)) (shifted_half h n) (shifted_even h n) ∙ xor_zero_r (h * 2 ^ n)) ∙ turns_high n h

combine_poly : (half x b : ℕ) → x < 2 → b < 2 → combine (eqb x b) half ≡ bit_xor half (poly (bit_xor x b))
unfolding poly
combine_poly half x b hx hb =
    bit (λ a. combine (eqb a b) half ≡ bit_xor half (poly (bit_xor a b)))
    (bit (λ d. combine (eqb 0 d) half ≡ bit_xor half (poly (bit_xor 0 d))) (sym (xor_zero_r half)) refl b hb)
    (bit (λ d. combine (eqb 1 d) half ≡ bit_xor half (poly (bit_xor 1 d))) refl (sym (xor_zero_r half)) b hb) x hx

bit_steps_turns : (n seed byte : ℕ) → byte < 2 ^ n → bit_steps n seed byte ≡ turns n (bit_xor seed byte)
unfolding bit_steps bit_step turns turn
bit_steps_turns zero seed byte h = sym (xor_zero_r seed) ∙ ap (bit_xor seed) (sym (lt-one h))
bit_steps_turns (suc n) seed byte h =
    bit_steps_turns n (bit_step seed (byte % 2)) (byte / 2) (shr_lt n 1 (rw add-one h))
    ∙ ap (turns n)
    (ap (λ (x : ℕ). bit_xor x (byte / 2)) (combine_poly (seed / 2) (seed % 2) (byte % 2) (odd_lt seed) (odd_lt byte))
    ∙ xor_right (seed / 2) (poly (bit_xor (seed % 2) (byte % 2))) (byte / 2)
    ∙ sym (ap₂ (λ (p q : ℕ). bit_xor p (poly q)) (xor_shr seed byte 1) (xor_mod seed byte 1)))

-- ---- a step from any seed is the step from 0 at the low byte of the two combined, combined with the seed's high byte

pub byte_step_low : (seed byte : ℕ) → byte < 2 ^ 8 → byte_step seed byte ≡ bit_xor (byte_step 0 (bit_xor seed byte % 2 ^ 8)) (seed / 2 ^ 8)
unfolding byte_step
byte_step_low seed byte h =
    let x : ℕ = bit_xor seed byte in
    bit_steps_turns 8 seed byte h
    ∙ ap (turns 8) (sym (split x 8) ∙ sym (xor_shifted (x / 2 ^ 8) 8 (x % 2 ^ 8) (mod-lt x (pow_pos 8))))
    ∙ turns_xor 8 (x / 2 ^ 8 * 2 ^ 8) (x % 2 ^ 8)
    ∙ xor_comm (turns 8 (x / 2 ^ 8 * 2 ^ 8)) (turns 8 (x % 2 ^ 8))
    ∙ ap₂ bit_xor (sym (bit_steps_turns 8 0 (x % 2 ^ 8) (mod-lt x (pow_pos 8))))
    (turns_high 8 (x / 2 ^ 8) ∙ xor_shr seed byte 8 ∙ ap (bit_xor (seed / 2 ^ 8)) (div-eq_of_lt h) ∙ xor_zero_r (seed / 2 ^ 8))

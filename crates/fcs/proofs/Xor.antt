-- Laws of exclusive-or that the library lacks: what holds of each bit, and the order of three and of four.
use Rattle.std.proofs.Common.{◌≡◌, sym, ap, ◌∙◌, ℕ, zero, suc, ◌%◌, ◌<◌, mod-lt, zero-lt-suc, arith, bit_xor}
use Rattle.std.specs.Int.Bits.{xor_assoc}
use Rattle.std.proofs.lemmas.Nat.{xor_comm}

-- what holds at 0 and at 1 holds of a bit
pub bit : (P : ℕ → Type 0) → P 0 → P 1 → (x : ℕ) → x < 2 → P x
bit P p0 p1 zero h = p0
bit P p0 p1 (suc zero) h = p1
bit P p0 p1 (suc (suc x)) h = absurd (omega arith)

pub odd_lt : (x : ℕ) → x % 2 < 2
odd_lt x = mod-lt x (zero-lt-suc 1)

pub xor_right : (a b c : ℕ) → bit_xor (bit_xor a b) c ≡ bit_xor (bit_xor a c) b
xor_right a b c = xor_assoc a b c ∙ ap (bit_xor a) (xor_comm b c) ∙ sym (xor_assoc a c b)

pub xor_four : (a b c d : ℕ) → bit_xor (bit_xor a b) (bit_xor c d) ≡ bit_xor (bit_xor a c) (bit_xor b d)
xor_four a b c d = sym (xor_assoc (bit_xor a b) c d) ∙ ap (λ (x : ℕ). bit_xor x d) (xor_right a b c) ∙ xor_assoc (bit_xor a c) b d

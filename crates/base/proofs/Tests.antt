-- What a test that came out true or false says.
use Rattle.std.proofs.Common.{◌≡◌, ℕ, ◌<◌, ◌≤◌, Bool, true, false, cond, ◌||◌, eqb, leb, sym, refl, ◌∙◌, arith, eq-eqb, eqb-true, le-leb, leb-false, leb-true}
use Rattle.std.proofs.lemmas.Bool.{lt-leb, and_parts, cond_both, cond-true}
use Rattle.base.specs.Range.{within}
use Rattle.base.specs.Answer.{done, first_refusal}

-- std's `or_right` says that the whole holds where the second does
pub or_right : (a b : Bool) → (a || b) ≡ true → a ≡ false → b ≡ true
or_right true b e n = cc
or_right false b e n = e

pub within_low : (low x high : ℕ) → within low x high ≡ true → low ≤ x
within_low low x high e = leb-true low x (and_parts _ _ e).0

pub within_high : (low x high : ℕ) → within low x high ≡ true → x ≤ high
within_high low x high e = leb-true x high (and_parts _ _ e).1

-- two comparisons that hold and fail together
pub leb_same : (a b c d : ℕ) → (a ≤ b → c ≤ d) → (b < a → d < c) → leb a b ≡ leb c d
leb_same a b c d holds fails = go (leb a b) refl
  where
    go : (t : Bool) → leb a b ≡ t → leb a b ≡ leb c d
    go true e = e ∙ sym (le-leb c d (holds (leb-true a b e)))
    go false e = e ∙ sym (lt-leb c d (fails (leb-false a b e)))

-- a test that gives a number other than 0 where it fails, and gave 0
pub passed : (t : Bool) (n : ℕ) → 1 ≤ n → cond t done n ≡ done → t ≡ true
passed true n h e = refl
passed false n h e = absurd (omega arith)

-- a test that gives a number other than 0 where it holds, and gave 0
pub spared : (t : Bool) (n : ℕ) → 1 ≤ n → cond t n done ≡ done → t ≡ false
spared true n h e = absurd (omega arith)
spared false n h e = refl

pub first_refusal_left : (a b : ℕ) → first_refusal a b ≡ done → a ≡ done
first_refusal_left a b e = go (eqb a done) refl e
  where
    go : (t : Bool) → eqb a done ≡ t → cond t b a ≡ done → a ≡ done
    go true q p = eqb-true a done q
    go false q p = p

pub first_refusal_right : (a b : ℕ) → first_refusal a b ≡ done → b ≡ done
first_refusal_right a b e = sym (cond-true (eqb a done) b a (eq-eqb a done (first_refusal_left a b e))) ∙ e

-- a gate of four tests, open
pub first_refusal_four : (a b c d : ℕ) → first_refusal a (first_refusal b (first_refusal c d)) ≡ done → (a ≡ done) × (b ≡ done) × (c ≡ done) × (d ≡ done)
first_refusal_four a b c d e =
    let inner : first_refusal b (first_refusal c d) ≡ done = first_refusal_right a (first_refusal b (first_refusal c d)) e in
    let last : first_refusal c d ≡ done = first_refusal_right b (first_refusal c d) inner in
    (first_refusal_left a (first_refusal b (first_refusal c d)) e, first_refusal_left b (first_refusal c d) inner, first_refusal_left c d last, first_refusal_right c d last)

-- a bound of both is one of the first
pub first_refusal_below : (n a b : ℕ) → a ≤ n → b ≤ n → first_refusal a b ≤ n
first_refusal_below n a b p q = cond_both (eqb a done) b a (λ k. k ≤ n) (λ e. q) (λ e. p)

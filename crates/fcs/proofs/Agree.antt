-- A table is tested once, at each entry, by computing; the test gives its rule, and the rule gives the step from every seed.
use Rattle.std.proofs.Common.{◌≡◌, sym, ap, ◌∙◌, Bool, true, false, ◌&&◌, List, [], ◌∷◌, ℕ, zero, suc, ◌+◌, ◌/◌, ◌^◌, ◌<◌, add-zero, zero-add, add-suc, suc-add, le_of_suc-le-suc, not-suc-le-zero, T, eqb, eqb→eq, length, get_or, bit_and, bit_xor}
use lib.Bits.{and_mask, mask_lt}
use Rattle.fcs.specs.Checksum.{byte_step, Agrees}
use Rattle.fcs.proofs.Linear.{byte_step_low}

both_left : (a b : Bool) → T (a && b) → T a
both_left true b t = tt
both_left false b t = t

both_right : (a b : Bool) → T (a && b) → T b
both_right true b t = t
both_right false b t = absurd t

-- each entry, counted from i, is the step from 0 by its byte
unfoldable pub tested : ℕ → List ℕ → Bool
unfolding byte_step
tested i [] = true
tested i (x ∷ xs) = eqb x (byte_step 0 i) && tested (suc i) xs

tested_entry : (xs : List ℕ) (i : ℕ) → T (tested i xs) → (k : ℕ) → k < length xs → get_or xs k 0 ≡ byte_step 0 (i + k)
unfolding tested
tested_entry [] i t k h = absurd (not-suc-le-zero h)
tested_entry (x ∷ xs) i t zero h = eqb→eq x (byte_step 0 i) (both_left (eqb x (byte_step 0 i)) (tested (suc i) xs) t) ∙ ap (byte_step 0) (sym (add-zero i))
tested_entry (x ∷ xs) i t (suc k) h =
    tested_entry xs (suc i) (both_right (eqb x (byte_step 0 i)) (tested (suc i) xs) t) k (le_of_suc-le-suc h) ∙ ap (byte_step 0) (suc-add i k ∙ sym (add-suc i k))

pub tested_agrees : (table : List ℕ) → length table ≡ 256 → T (tested 0 table) → Agrees table
tested_agrees table e t = record { size = e; entry = λ k h. tested_entry table 0 t k (rw e h) ∙ ap (byte_step 0) (zero-add k) }

pub agrees_step : {table : List ℕ} → Agrees table → (seed byte : ℕ) → byte < 2 ^ 8
    → bit_xor (get_or table (bit_and (bit_xor seed byte) 255) 0) (seed / 256) ≡ byte_step seed byte
agrees_step agrees seed byte h =
    let x : ℕ = bit_xor seed byte in
    ap (λ (y : ℕ). bit_xor y (seed / 256)) (agrees.entry (bit_and x 255) (mask_lt x 8) ∙ ap (byte_step 0) (and_mask x 8))
    ∙ sym (byte_step_low seed byte h)

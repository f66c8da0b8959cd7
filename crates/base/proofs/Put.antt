-- Laws of `put`, for whoever writes into a lent buffer, and of one element stored.
use Rattle.std.proofs.Common.{◌≡◌, ℕ, ◌+◌, ◌-◌, ◌≤◌, Bool, true, false, eqb, ltb, List, ◌++◌, length, get_or, take, drop, set, sym, refl, ap, ◌∙◌, subst, append_assoc, add_assoc, zero-add, arith, length-append, length-drop, take-append-drop, length-take, length-take-le, get_or-set_other, get_or-set_same, take-take, drop-drop, take_at, take-add, drop_at, ltb-false, ltb-true, eqb-true}
use Rattle.std.proofs.lemmas.Bool.{eqb-false}
use lib.Seq.{drop-append-add, drop-append-le, take-append-le, take-append_seam, sets, sets-eq, set_out}
use Rattle.base.specs.Buffer.{put}

pub put-length : (d s : List ℕ) (at : ℕ) → at + length s ≤ length d → length (put d at s) ≡ length d
unfolding put
put-length d s at h = simp (length-append, length-take, length-drop) (omega arith)

-- all that ends at k: the buffer's own bytes before, and what was put
put_head : (d s : List ℕ) (at k : ℕ) → k ≡ at + length s → k ≤ length d → length (take at d ++ s) ≡ k
put_head d s at k e h = simp (length-append, length-take) (omega arith)

pub put-take : (d s : List ℕ) (at k : ℕ) → k ≡ at + length s → k ≤ length d → take k (put d at s) ≡ take at d ++ s
unfolding put
put-take d s at k e h =
    rw (← append_assoc (take at d) s (drop (at + length s) d))
    (take_at (take at d ++ s) (drop (at + length s) d) k (put_head d s at k e h))

behind : (x r t : List ℕ) (k : ℕ) → length x ≡ k → take k (x ++ r) ++ (t ++ drop (k + length t) (x ++ r)) ≡ x ++ (t ++ drop (length t) r)
behind x r t k e = rw (take_at x r k e, ← e, drop-append-add)

-- one right behind the other is both at once
pub put-put : (d s t : List ℕ) (at k : ℕ) → k ≡ at + length s → k + length t ≤ length d → put (put d at s) k t ≡ put d at (s ++ t)
unfolding put
put-put d s t at k e h =
    ap (λ (x : List ℕ). take k x ++ (t ++ drop (k + length t) x)) (sym (append_assoc (take at d) s (drop (at + length s) d)))
    ∙ behind (take at d ++ s) (drop (at + length s) d) t k (put_head d s at k e (omega arith))
    ∙ simp (append_assoc, drop-drop, length-append, add_assoc)

-- stores one after the other are the bytes put
pub put_sets : (d s : List ℕ) (at : ℕ) → at + length s ≤ length d → sets d at s ≡ put d at s
unfolding put
put_sets d s at h = sets-eq s d at h ∙ append_assoc (take at d) s (drop (at + length s) d)

-- bytes put behind the first k are the first k and they, put at the start
pub put_front : (d s : List ℕ) (k : ℕ) → k ≤ length d → put d k s ≡ put d 0 (take k d ++ s)
unfolding put
put_front d s k h = simp (append_assoc, length-append, length-take-le k d h, zero-add)

drop_past : (s d : List ℕ) (n : ℕ) → length s ≤ n → drop n (s ++ drop (length s) d) ≡ drop n d
drop_past s d n h =
    let e : n ≡ length s + (n - length s) = omega arith in
    rw e (drop-append-add s (drop (length s) d) (n - length s) ∙ drop-drop (n - length s) (length s) d)

-- bytes put at the start hide fewer that were put there before
pub put_over : (d s t : List ℕ) → length s ≤ length d → length s ≤ length t → put (put d 0 s) 0 t ≡ put d 0 t
unfolding put
put_over d s t h l =
    ap (λ (x : List ℕ). t ++ x) (rw (zero-add, zero-add) (drop_past s d (length t) l))

-- what is left of a part behind its first n bytes, and all behind the part, is all behind those n
behind_lent : (d : List ℕ) (at k n : ℕ) → n ≤ k → at + k ≤ length d → drop n (take k (drop at d)) ++ drop k (drop at d) ≡ drop (at + n) d
behind_lent d at k n h l =
    let inside : n ≤ length (take k (drop at d)) = simp (length-take, length-drop) (omega arith) in
    sym (drop-append-le n (take k (drop at d)) (drop k (drop at d)) inside) ∙ ap (drop n) (take-append-drop k (drop at d)) ∙ drop-drop n at d

-- a lent part of k bytes that comes back with s put at its beginning is s put where the part begins
pub put_lent : (d s part : List ℕ) (at k : ℕ) → length s ≤ k → at + k ≤ length d → part ≡ put (take k (drop at d)) 0 s
    → take at d ++ (part ++ drop k (drop at d)) ≡ put d at s
unfolding put
put_lent d s part at k h l q =
    ap (λ (x : List ℕ). take at d ++ x)
    (rw (q, zero-add)
    (append_assoc s (drop (length s) (take k (drop at d))) (drop k (drop at d)) ∙ ap (λ (x : List ℕ). s ++ x) (behind_lent d at k (length s) h l)))

-- ---- parts of a buffer after a put

-- what was put, where it was put
pub put_in : (d s : List ℕ) (at : ℕ) → at ≤ length d → take (length s) (drop at (put d at s)) ≡ s
unfolding put
put_in d s at h =
    ap (λ (x : List ℕ). take (length s) x) (drop_at (take at d) (s ++ drop (at + length s) d) at (length-take-le at d h))
    ∙ take-append_seam s (drop (at + length s) d)

part_taken : (x : List ℕ) (a k : ℕ) → a ≤ length x → drop a (take (a + k) x) ≡ take k (drop a x)
part_taken x a k h = ap (drop a) (take-add a k x) ∙ drop_at (take a x) (take k (drop a x)) a (length-take-le a x h)

take_before : (d s : List ℕ) (at n : ℕ) → n ≤ at → at ≤ length d → take n (put d at s) ≡ take n d
unfolding put
take_before d s at n h l =
    take-append-le n (take at d) (s ++ drop (at + length s) d) (rw (length-take-le at d l) h) ∙ take-take n at d h

-- a part that ends before it
pub put_before : (d s : List ℕ) (at a k : ℕ) → a + k ≤ at → at + length s ≤ length d → take k (drop a (put d at s)) ≡ take k (drop a d)
put_before d s at a k h l =
    let inside : a ≤ length (put d at s) = rw (put-length d s at l) (omega arith) in
    sym (part_taken (put d at s) a k inside) ∙ ap (drop a) (take_before d s at (a + k) h (omega arith)) ∙ part_taken d a k (omega arith)

-- all from its end on
pub put_behind : (d s : List ℕ) (at a : ℕ) → at + length s ≤ a → at + length s ≤ length d → drop a (put d at s) ≡ drop a d
unfolding put
put_behind d s at a h l =
    let n : ℕ = at + length s in
    let e : a ≡ length (take at d ++ s) + (a - n) = rw (put_head d s at n refl l) (omega arith) in
    let back : n + (a - n) ≡ a = omega arith in
    ap (drop a) (sym (append_assoc (take at d) s (drop n d)))
    ∙ subst (λ k. drop k ((take at d ++ s) ++ drop n d) ≡ drop (a - n) (drop n d)) (sym e) (drop-append-add (take at d ++ s) (drop n d) (a - n))
    ∙ drop-drop (a - n) n d
    ∙ ap (λ (k : ℕ). drop k d) back

-- ---- one element stored

-- what holds of the element stored, where it is that one, and of the element before, holds of the element after
pub set_cases : (P : ℕ → Type 0) (xs : List ℕ) (at i x : ℕ) → (i ≡ at → P x) → P (get_or xs i 0) → P (get_or (set xs at x) i 0)
set_cases P xs at i x stored kept = go (eqb i at) (ltb at (length xs)) refl refl
  where
    go : (same inside : Bool) → eqb i at ≡ same → ltb at (length xs) ≡ inside → P (get_or (set xs at x) i 0)
    go true true e h =
        subst (λ k. P (get_or (set xs at x) k 0)) (sym (eqb-true i at e))
        (subst P (sym (get_or-set_same xs at x 0 (ltb-true at (length xs) h))) (stored (eqb-true i at e)))
    go true false e h = subst (λ (y : List ℕ). P (get_or y i 0)) (sym (set_out xs at x (ltb-false at (length xs) h))) kept
    go false inside e h = subst P (sym (get_or-set_other xs at i x 0 (eqb-false i at e))) kept

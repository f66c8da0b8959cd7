-- Frames from a to b of a room xs: as the first goes, one is stored among them or behind them, or those behind one are moved over it.
use Rattle.std.proofs.Common.{◌≡◌, sym, ap, ◌∙◌, List, [], ◌∷◌, ◌++◌, ℕ, suc, ◌+◌, ◌-◌, ◌<◌, ◌≤◌, arith, length, take, drop, set, slice_range, remove}
use Rattle.std.specs.List.{copy_within}
use Rattle.std.proofs.lemmas.List.{drop-drop, drop-take, drop-set-add, take_more_set, length-take, length-drop, take-take, drop-append-le}
use Rattle.std.proofs.lemmas.List.Edits.{take-paste}
use Rattle.std.proofs.Math.Seq.{take-set-lt}
use Rattle.std.proofs.lemmas.Slice.{between_is}

module _ {X : Type 0} (xs : List X) (a b : ℕ) where
  pub first_gone : a < b → slice_range xs (a + 1) b ≡ drop 1 (slice_range xs a b)
  first_gone h = rw (between_is xs (a + 1) b, between_is xs a b) (sym (drop-drop 1 a (take b xs)))

  pub stored_among : (n : ℕ) (x : X) → n < b - a → slice_range (set xs (a + n) x) a b ≡ set (slice_range xs a b) n x
  stored_among n x h = ap (take (b - a)) (drop-set-add a xs n x) ∙ take-set-lt (b - a) (drop a xs) n x h

  pub stored_behind : (x : X) → a ≤ b → b < length xs → slice_range (set xs b x) a (b + 1) ≡ slice_range xs a b ++ x ∷ []
  stored_behind x h l =
      rw (between_is (set xs b x) a (b + 1), between_is xs a b, take_more_set xs b x l) (drop-append-le a (take b xs) (x ∷ []) (omega (arith, length-take b xs)))

  pub moved_over : (n : ℕ) → n < b - a → b ≤ length xs → slice_range (copy_within xs (a + n + 1) b (a + n)) a (b - 1) ≡ remove (slice_range xs a b) n
  moved_over n h l =
      let k : ℕ = b - (a + n + 1) in
      let to : b - 1 ≡ a + n + k = omega arith in
      let long : b - a ≡ suc n + k = omega arith in
      let behind : a + suc n ≡ a + n + 1 = omega arith in
      rw (
        between_is (copy_within xs (a + n + 1) b (a + n)) a (b - 1),
        to,
        take-paste xs (a + n) (drop (a + n + 1) xs) k (omega arith) (omega (arith, length-drop (a + n + 1) xs)),
        drop-append-le a (take (a + n) xs) (take k (drop (a + n + 1) xs)) (omega (arith, length-take (a + n) xs)),
        drop-take a n xs,
        take-take n (b - a) (drop a xs) (omega arith),
        long,
        drop-take (suc n) k (drop a xs),
        drop-drop (suc n) a xs,
        behind,
      )

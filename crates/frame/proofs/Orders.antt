-- What the order of FCS changes.
use Rattle.std.proofs.Common.{◌≡◌, refl, sym, ap, ◌∙◌, Bool, true, false, ◌&&◌, ◌≢◌, List, [], ◌∷◌, ◌++◌, reverse, ℕ, suc, ◌+◌, ◌-◌, ◌/◌, ◌%◌, ◌≤◌, ◌<◌, add-one, arith, ltb-false, eqb-true, ne_eqb, length, take, drop, get_or, length-append, length-drop, take-append-drop, length-take-le, take_all, take_at, drop_at, get_or-take, drop-cons, eqb, ltb}
use lib.ListN.{length-reverse, get_or-append}
use Rattle.std.proofs.lemmas.Bool.{and_parts, cond_both}
use Rattle.fcs.specs.Checksum.{checksum_of}
use Rattle.frame.specs.declared.Format.{Format}
use Rattle.frame.specs.declared.Heard.TheVariants.{Sum}
use Rattle.frame.specs.Bytes.{len_bytes, high_first, by_order, fcs_bytes, sealed, frame_of, reset_frame}
use Rattle.frame.specs.Steps.{fcs_at, judged, heard}
use Rattle.frame.specs.Orders.{in_other_order, turned, FrameTurned, HeardTurned, OtherOrder, EqualHeard, ResetOther, ZerosHeard}
use Rattle.frame.proofs.Writing.{sealed-length}
use Rattle.frame.proofs.Hearing.{heard_framed}
use Rattle.frame.proofs.Reasons.{fault-heard}

-- ---- the two bytes

two : (x : List ℕ) (at : ℕ) → at + 2 ≤ length x → take 2 (drop at x) ≡ get_or x at 0 ∷ get_or x (at + 1) 0 ∷ []
two x at h = rw (drop-cons x at 0 (omega arith), drop-cons x (suc at) 0 (omega arith), add-one)

pub by_order_other : {A : Type 0} (format : Format) (a b : A) → by_order (in_other_order format) a b ≡ by_order format b a
by_order_other format a b = go (eqb format.order high_first) refl
  where
    go : (t : Bool) → eqb format.order high_first ≡ t → by_order (in_other_order format) a b ≡ by_order format b a
    go true e = rw e
    go false e = rw e

by_order_same : {A : Type 0} (format : Format) (a : A) → by_order format a a ≡ a
by_order_same format a = cond_both (eqb format.order high_first) a a (λ b. b ≡ a) (λ e. refl) (λ e. refl)

fcs_bytes_other : (format : Format) (sum : ℕ) → fcs_bytes (in_other_order format) sum ≡ reverse (fcs_bytes format sum)
fcs_bytes_other format sum = rw (by_order_other format (sum % 256) (sum / 256), by_order_other format (sum / 256) (sum % 256))

-- ---- a frame that is written

sealed-turned : (format : Format) (covered : List ℕ) → sealed (in_other_order format) covered ≡ turned (sealed format covered)
unfolding sealed
sealed-turned format covered =
    let fcs : List ℕ = fcs_bytes format (checksum_of covered) in
    let seam : length covered ≡ length (covered ++ fcs) - 2 = omega (arith, sealed-length format covered) in
    rw (fcs_bytes_other format (checksum_of covered), take_at covered fcs (length (covered ++ fcs) - 2) seam, drop_at covered fcs (length (covered ++ fcs) - 2) seam)

pub frame_turned : FrameTurned
unfolding frame_of
frame_turned format fctr packet = sealed-turned format (fctr ∷ (len_bytes (length packet) ++ packet))

-- five bytes of 0 are right in both
pub zeros_framed : (format : Format) → 0x00 ∷ 0x00 ∷ 0x00 ∷ 0x00 ∷ 0x00 ∷ [] ≡ frame_of format 0x00 []
unfolding frame_of sealed checksum_of
zeros_framed format = rw (by_order_same {A = ℕ} format 0)

-- ---- a frame that is heard

turned-length : (frame : List ℕ) → length (turned frame) ≡ length frame
turned-length frame =
    let at : ℕ = length frame - 2 in
    length-append (take at frame) (reverse (drop at frame))
    ∙ ap (λ (n : ℕ). length (take at frame) + n) (length-reverse (drop at frame))
    ∙ sym (length-append (take at frame) (drop at frame))
    ∙ ap length (take-append-drop at frame)

last_two : (frame : List ℕ) → 2 ≤ length frame → drop (length frame - 2) frame ≡ get_or frame (length frame - 2) 0 ∷ get_or frame (length frame - 1) 0 ∷ []
last_two frame h =
    let at : ℕ = length frame - 2 in
    let all : length (drop at frame) ≤ 2 = omega (arith, length-drop at frame) in
    let next : at + 1 ≡ length frame - 1 = omega arith in
    sym (take_all 2 (drop at frame) all) ∙ two frame at (omega arith) ∙ ap (λ (n : ℕ). get_or frame at 0 ∷ get_or frame n 0 ∷ []) next

-- what stands before FCS stays
turned_kept : (frame : List ℕ) (i : ℕ) → i + 2 < length frame → get_or (turned frame) i 0 ≡ get_or frame i 0
turned_kept frame i h =
    let at : ℕ = length frame - 2 in
    get_or-append (take at frame) (reverse (drop at frame)) 0 i (omega (arith, length-take-le at frame (omega arith)))
    ∙ get_or-take at frame i 0 (omega arith)

crossed : (p q : Bool) → (p && (q && true)) ≡ (q && (p && true))
crossed true true = refl
crossed true false = refl
crossed false true = refl
crossed false false = refl

turned_right : (format : Format) (frame : List ℕ) → 2 ≤ length frame
    → fcs_at (in_other_order format) (length frame - 2) (turned frame) ≡ fcs_at format (length frame - 2) frame
unfolding fcs_at
turned_right format frame h =
    let at : ℕ = length frame - 2 in
    let size : length (take at frame) ≡ at = length-take-le at frame (omega arith) in
    let sum : ℕ = checksum_of (take at frame) in
    let a : ℕ = get_or frame at 0 in
    let b : ℕ = get_or frame (length frame - 1) 0 in
    rw (
      take_at (take at frame) (reverse (drop at frame)) at size,
      drop_at (take at frame) (reverse (drop at frame)) at size,
      last_two frame h,
      by_order_other format (sum % 256) (sum / 256),
      by_order_other format (sum / 256) (sum % 256),
    ) (crossed (eqb b (by_order format (sum / 256) (sum % 256))) (eqb a (by_order format (sum % 256) (sum / 256))))

pub heard-turned : HeardTurned
unfolding heard
heard-turned format frame = go (ltb (length frame) 5) refl
  where
    go : (t : Bool) → ltb (length frame) 5 ≡ t → heard (in_other_order format) (turned frame) ≡ heard format frame
    go true e = rw (turned-length frame, e)
    go false e =
        let enough : 5 ≤ length frame = ltb-false (length frame) 5 e in
        rw (
          turned-length frame,
          turned_right format frame (omega arith),
          turned_kept frame 0 (omega arith),
          turned_kept frame 1 (omega arith),
          turned_kept frame 2 (omega arith),
        )

-- ---- a frame in the other order

same_two : (a b x y : ℕ) → (eqb a x && (eqb b y && true)) ≡ true → (a ≡ x) × (b ≡ y)
same_two a b x y e =
    (eqb-true a x (and_parts _ _ e).0, eqb-true b y (and_parts _ _ (and_parts _ _ e).1).0)

-- FCS is right in the other order: here each of the two bytes stands where the other should
right_other : (format : Format) (frame : List ℕ) → 2 ≤ length frame → fcs_at (in_other_order format) (length frame - 2) frame ≡ true
    → get_or frame (length frame - 2) 0 ≢ get_or frame (length frame - 1) 0 → fcs_at format (length frame - 2) frame ≡ false
unfolding fcs_at
right_other format frame h r differ =
    let sum : ℕ = checksum_of (take (length frame - 2) frame) in
    let a : ℕ = get_or frame (length frame - 2) 0 in
    let b : ℕ = get_or frame (length frame - 1) 0 in
    let x : ℕ = by_order format (sum % 256) (sum / 256) in
    let y : ℕ = by_order format (sum / 256) (sum % 256) in
    let swapped : fcs_at (in_other_order format) (length frame - 2) frame ≡ (eqb a y && (eqb b x && true)) =
    rw (last_two frame h, by_order_other format (sum % 256) (sum / 256), by_order_other format (sum / 256) (sum % 256)) in
    let found : (a ≡ y) × (b ≡ x) = same_two a b y x (sym swapped ∙ r) in
    rw (last_two frame h, ne_eqb a x (λ e. differ (e ∙ sym found.1)))

pub other_order : OtherOrder
other_order format frame low high r differ =
    (fault-heard format frame).sum low high (right_other format frame (omega arith) r differ)

-- turned round it is as it was
turned_same : (frame : List ℕ) → 2 ≤ length frame → get_or frame (length frame - 2) 0 ≡ get_or frame (length frame - 1) 0 → turned frame ≡ frame
turned_same frame h same =
    let at : ℕ = length frame - 2 in
    let back : reverse (drop at frame) ≡ drop at frame = rw (last_two frame h, same) in
    ap (λ (two : List ℕ). take at frame ++ two) back ∙ take-append-drop at frame

pub equal_heard : EqualHeard
unfolding heard
equal_heard format frame same = go (ltb (length frame) 5) refl
  where
    go : (t : Bool) → ltb (length frame) 5 ≡ t → heard (in_other_order format) frame ≡ heard format frame
    go true e = rw e
    go false e =
        let enough : 5 ≤ length frame = ltb-false (length frame) 5 e in
        ap (heard (in_other_order format)) (sym (turned_same frame (omega arith) same)) ∙ heard-turned format frame

pub reset_other : ResetOther
unfolding checksum_of sealed frame_of fcs_at
reset_other format h = go (eqb format.order high_first) refl
  where
    go : (t : Bool) → eqb format.order high_first ≡ t → heard format (reset_frame (in_other_order format)) ≡ Sum
    go true e = rw e ((fault-heard format (0xC0 ∷ 0x00 ∷ 0x00 ∷ 0x9A ∷ 0x0A ∷ [])).sum (omega arith) h (rw e))
    go false e = rw e ((fault-heard format (0xC0 ∷ 0x00 ∷ 0x00 ∷ 0x0A ∷ 0x9A ∷ [])).sum (omega arith) h (rw e))

pub zeros-heard : ZerosHeard
unfolding judged
zeros-heard format h = ap (heard format) (zeros_framed format) ∙ heard_framed format 0x00 [] h

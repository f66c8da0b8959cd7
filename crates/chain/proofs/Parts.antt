-- The parts of a message, how many and where they begin; a packet's bytes as they are laid.
use Rattle.std.proofs.Common.{◌≡◌, refl, ap, ◌∙◌, List, [], ◌∷◌, ℕ, ◌+◌, ◌-◌, ◌*◌, ◌<◌, ◌≤◌, div-mul-le_self, mul-le-mul_right, suc-mul, arith, length, set}
use native.Mathlib.Nat.{lt-div-mul-add}
use Rattle.base.specs.Buffer.{put}
use Rattle.base.proofs.Put.{put-put, put_sets}
use Rattle.chain.specs.Cut.{part_size, packet_count}

-- ---- how many

-- every part that is counted begins inside the message ..
pub part_begins : (m message i : ℕ) → 11 ≤ m → i < packet_count m message → i * part_size m < message
part_begins m message i h c =
    let p : ℕ = part_size m in
    omega (arith, mul-le-mul_right p c, suc-mul i p, div-mul-le_self (message + (p - 1)) p)

-- .. and with the last one the message ends
pub parts_all : (m message : ℕ) → 11 ≤ m → message ≤ packet_count m message * part_size m
parts_all m message h =
    let p : ℕ = part_size m in
    let some : 0 < p = omega arith in
    omega (arith, lt-div-mul-add {a = message + (p - 1)} some)

-- ---- bytes

-- a byte stored first and others put behind it are both put
pub laid : (d s : List ℕ) (x : ℕ) → length s + 1 ≤ length d → put (set d 0 x) 1 s ≡ put d 0 (x ∷ s)
laid d s x h = ap (λ (b : List ℕ). put b 1 s) (put_sets d (x ∷ []) 0 (omega arith)) ∙ put-put d (x ∷ []) s 0 1 refl (omega arith)

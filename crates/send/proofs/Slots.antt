-- The packets in the slots when submit adds one.
use Rattle.std.proofs.Common.{◌≡◌, refl, ap, ◌∙◌, Bool, true, false, List, ℕ, ◌%◌, ◌*◌, ◌≤◌, ◌<◌, zero-mul, one-mul, arith, eqb-true, length, take, drop, get_or-set_same, get_or-set_other, eqb}
use Rattle.std.proofs.lemmas.Bool.{eqb-false}
use Rattle.base.specs.Buffer.{put}
use Rattle.base.proofs.Put.{put_in, put_before, put_behind}
use Rattle.state.specs.declared.Link.{Link}
use Rattle.state.specs.Bounds.{limit_of}
use Rattle.state.specs.State.{slot_of, length_of}
use Rattle.send.specs.Repeat.{part_of, packet_of}
use Rattle.send.specs.Submit.{sent_first, packet_accepted}

-- the packet that submit took stands in its slot
pub new_packet : (l : Link) (slots frame packet : List ℕ) (ms : ℕ) → slot_of l l.next < length l.lengths → part_of l l.next ≤ length slots
    → packet_of (packet_accepted l slots frame ms packet).told.state (packet_accepted l slots frame ms packet).slots l.next ≡ packet
new_packet l slots frame packet ms h k =
    rw (get_or-set_same l.lengths (slot_of l l.next) (length packet) 0 h) (search (put_in))

part_at : (l : Link) (k slot : ℕ) → slot_of l k ≡ slot → part_of l k ≡ slot * limit_of l.settings
part_at l k slot e = rw e

-- another slot keeps its packet
pub old_packet : (l : Link) (slots packet : List ℕ) (ms k : ℕ) → l.settings.window ≡ 2 → (slot_of l k ≡ slot_of l l.next → ⊥)
    → length_of l k ≤ limit_of l.settings → length packet ≤ limit_of l.settings → 2 * limit_of l.settings ≤ length slots
    → packet_of (sent_first l ms (length packet)) (put slots (part_of l l.next) packet) k ≡ packet_of l slots k
old_packet l slots packet ms k w apart lk lp room =
    rw (get_or-set_other l.lengths (slot_of l l.next) (slot_of l k) (length packet) 0 apart) (go (eqb (slot_of l k) 0) refl)
  where
    m : ℕ
    m = limit_of l.settings

    two : (n : ℕ) → slot_of l n ≡ n % 2
    two n = ap (λ (x : ℕ). n % x) w

    go : (t : Bool) → eqb (slot_of l k) 0 ≡ t → take (length_of l k) (drop (part_of l k) (put slots (part_of l l.next) packet)) ≡ take (length_of l k) (drop (part_of l k) slots)
    go true e =
        let here : slot_of l k ≡ 0 = eqb-true (slot_of l k) 0 e in
        let there : slot_of l l.next ≡ 1 = omega (arith, two l.next, two k, apart) in
        let a : part_of l k ≡ 0 = part_at l k 0 here ∙ zero-mul m in
        let b : part_of l l.next ≡ m = part_at l l.next 1 there ∙ one-mul m in
        put_before slots packet (part_of l l.next) (part_of l k) (length_of l k) (omega arith) (omega arith)
    go false e =
        let here : slot_of l k ≡ 1 = omega (arith, two k, eqb-false (slot_of l k) 0 e) in
        let there : slot_of l l.next ≡ 0 = omega (arith, two l.next, two k, apart) in
        let a : part_of l k ≡ m = part_at l k 1 here ∙ one-mul m in
        let b : part_of l l.next ≡ 0 = part_at l l.next 0 there ∙ zero-mul m in
        ap (take (length_of l k)) (put_behind slots packet (part_of l l.next) (part_of l k) (omega arith) (omega arith))

-- A waiting packet: its bytes in the slot buffer, and what sending its frame does to the state: R5.4 to R5.7.
use Rattle.std.specs.Prelude.{ℕ, ◌+◌, ◌*◌, ◌≤◌, ◌<◌, Bool, false, List, take, drop, set, ltb}
use Rattle.state.specs.declared.Link.{Link}
use Rattle.state.specs.Bounds.{limit_of}
use Rattle.state.specs.Fields.{with_starts, with_repeated, with_acking}
use Rattle.state.specs.State.{slot_of, length_of, repeated_of}

-- R5.4: where in the slot buffer the slot of this number begins
abbrev pub part_of : Link → ℕ → ℕ
part_of l number = slot_of l number * limit_of l.settings

-- R5.4: the packet as it stands in its slot
abbrev pub packet_of : Link → List ℕ → ℕ → List ℕ
packet_of l slots number = take (length_of l number) (drop (part_of l number) slots)

-- R5.6: the acknowledge timer stops. R5.5, R5.7: with the frame the packet's timer starts, at its first sending and at each repeat. count: how
-- often it was sent again by then.
abbrev pub data_sent : Link → ℕ → ℕ → ℕ → Link
data_sent l number ms count =
    with_acking (with_repeated (with_starts l (set l.starts (slot_of l number) ms)) (set l.repeated (slot_of l number) count)) false

-- R5.7
abbrev pub again : Link → ℕ → ℕ → Link
again l number ms = data_sent l number ms (repeated_of l number + 1)

-- R4.6, R6.3: whether it may be sent once more
abbrev pub may_repeat : Link → ℕ → Bool
may_repeat l number = ltb (repeated_of l number) l.settings.repeats

-- ---- for the contracts of functions inside

-- what the maker of a repeat needs: a frame number, a slot, the packet in the slot buffer, its frame in a frame buffer, a count that can rise
-- (255 is the most that a u8 holds)
abbrev pub Ready : Link → ℕ → ℕ → ℕ → Type 0
Ready l number slots frame =
    ((number ≤ 3) × (1 ≤ l.settings.window) × (l.settings.window ≤ 2))
    × ((part_of l number + length_of l number ≤ slots) × (length_of l number + 5 ≤ l.settings.format.d))
    × ((l.settings.format.d ≤ frame) × (repeated_of l number < 255))

-- What an end keeps, when it is well formed, when it is fresh: R5.1, R5.2, R5.4, R8.1.
use Rattle.std.specs.Prelude.{ℕ, ◌+◌, ◌-◌, ◌%◌, Bool, false, ◌&&◌, ◌||◌, [], ◌∷◌, nat_le, nat_lt, slice_index}
use Rattle.base.specs.Range.{within}
use Rattle.state.specs.declared.Settings.{Settings}
use Rattle.state.specs.declared.Link.{Link}
use Rattle.state.specs.Bounds.{limit_of, in_range}

-- ---- numbers

-- R5.1: a delivery moves it and the expected number, and nothing moves one alone, so it is no field that could disagree (DECISIONS D8)
abbrev pub last_correct : Link → ℕ
last_correct l = (l.expected + 3) % 4

-- R5.1: how many packets have been sent after this number: next − 1 − number modulo 4, with 8 added so that − does not stop at 0. Packets are
-- freed from the oldest on, so next and how many wait settle which do, and no third number could contradict them (DECISIONS D9).
abbrev pub behind : Link → ℕ → ℕ
behind l number = (l.next + 7 - number) % 4

-- R5.1: freed from the oldest on, so it is the newest that wait
abbrev pub waits : Link → ℕ → Bool
waits l number = nat_lt (behind l number) l.waiting

-- R5.1: the number that n packets have been sent after, so 0 gives the newest: next − 1 − n modulo 4, with 4 added so that − does not stop at 0
abbrev pub sent_before : Link → ℕ → ℕ
sent_before l n = (l.next + 3 - n) % 4

-- ---- slots

-- R5.4: the slot of the packet of this number
abbrev pub slot_of : Link → ℕ → ℕ
slot_of l number = number % l.settings.window

-- R5.1: what is kept in the slot of the packet of this number
abbrev pub length_of : Link → ℕ → ℕ
length_of l number = slice_index l.lengths (slot_of l number)

abbrev pub start_of : Link → ℕ → ℕ
start_of l number = slice_index l.starts (slot_of l number)

abbrev pub repeated_of : Link → ℕ → ℕ
repeated_of l number = slice_index l.repeated (slot_of l number)

-- ---- well formed

-- R8.1, one length. Only those of waiting packets are asked for (DECISIONS D17).
abbrev pub length_ok : Link → ℕ → Bool
length_ok l number = within 1 (length_of l number) (limit_of l.settings)

-- R8.1, all but the settings. The newest packet waits unless fewer than one do, the one before unless fewer than two; both counts of repeats
-- are looked at, whatever waits (DECISIONS D16).
unfoldable pub numbers_ok : Link → Bool
numbers_ok l =
    nat_le l.next 3
    && nat_le l.expected 3
    && nat_le l.waiting l.settings.window
    && (nat_lt l.waiting 1 || length_ok l (sent_before l 0))
    && (nat_lt l.waiting 2 || length_ok l (sent_before l 1))
    && nat_le (slice_index l.repeated 0) l.settings.repeats
    && nat_le (slice_index l.repeated 1) l.settings.repeats

-- R8.1, of a state
unfoldable pub well_formed : Link → Bool
unfolding in_range numbers_ok
well_formed l = in_range l.settings && numbers_ok l

-- ---- fresh

-- R5.2
unfoldable pub fresh_of : Settings → Link
fresh_of s = record {
  settings = s;
  starts = 0 ∷ 0 ∷ [];
  ackstart = 0;
  lengths = 0 ∷ 0 ∷ [];
  repeated = 0 ∷ 0 ∷ [];
  next = 0;
  expected = 0;
  waiting = 0;
  acking = false;
  nakmark = false;
  lost = false;
}

-- R5.2, with the settings that this end has (R4.5)
abbrev pub renewed : Link → Link
renewed l = fresh_of l.settings

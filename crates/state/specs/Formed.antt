-- What the tests of well-formedness and the gate say, R2.1, R8.1, R9.1, as plain inequalities, for the proofs of all crates above: of Sound
-- alone something is promised (link). proofs/Facts.antt shows that the tests give these, and the way back of Formed; that of InRange is in
-- Ranges.antt.
use Rattle.std.specs.Prelude.{◌≡◌, ℕ, ◌<◌, ◌≤◌, true, false, length, slice_index}
use Rattle.frame.specs.Bytes.{high_first}
use Rattle.state.specs.declared.Settings.{Settings}
use Rattle.state.specs.declared.Link.{Link}
use Rattle.state.specs.Bounds.{limit_of, slots_need, frame_need}
use Rattle.state.specs.State.{sent_before, length_of, well_formed}

-- R2.1
pub record InRange (s : Settings) : Type 0 where
  pub d_lo : 16 ≤ s.format.d
  pub d_hi : s.format.d ≤ 1024
  pub window_lo : 1 ≤ s.window
  pub window_hi : s.window ≤ 2
  pub transtimeout_lo : 2 ≤ s.transtimeout
  pub transtimeout_hi : s.transtimeout ≤ 1000
  pub acktimeout_lo : 1 ≤ s.acktimeout
  pub acktimeout_hi : s.acktimeout < s.transtimeout
  pub repeats_lo : 1 ≤ s.repeats
  pub repeats_hi : s.repeats ≤ 4
  pub order_hi : s.format.order ≤ high_first

-- R8.1: the packet that n were sent after has a length of 1 to m
pub record LengthOk (l : Link) (n : ℕ) : Type 0 where
  pub least : 1 ≤ length_of l (sent_before l n)
  pub most : length_of l (sent_before l n) ≤ limit_of l.settings

-- R8.1, of a state
pub record Formed (l : Link) : Type 0 where
  pub settings : InRange l.settings
  pub next : l.next ≤ 3
  pub expected : l.expected ≤ 3
  pub waiting : l.waiting ≤ l.settings.window
  pub lengths : (n : ℕ) → n < l.waiting → LengthOk l n
  pub repeated : (i : ℕ) → i < 2 → slice_index l.repeated i ≤ l.settings.repeats

-- R9.1: neither 1 nor 2 is given
pub record Entered (l : Link) (slots frame : ℕ) : Type 0 where
  pub formed : Formed l
  pub slots_room : slots_need l.settings ≤ slots
  pub frame_room : frame_need l.settings ≤ frame

-- R9.1: nor is 3
pub record Open (l : Link) (slots frame : ℕ) : Type 0 where
  pub entered : Entered l slots frame
  pub alive : l.lost ≡ false

-- what the code behind an open gate stands on: no slot or number is looked up that is none, and a control frame fits
abbrev pub Usable : Link → ℕ → Type 0
Usable l frame =
    ((1 ≤ l.settings.window) × (l.settings.window ≤ 2)) × ((l.next ≤ 3) × (l.expected ≤ 3) × (l.waiting ≤ 2)) × (5 ≤ frame)

-- R14.1: a state whose arrays have two elements, as every state has that code can hold, and that is well formed: a list with no place for a slot would
-- lose what is stored there (DECISIONS D80)
pub record Sound (l : Link) : Type 0 where
  pub starts : length l.starts ≡ 2
  pub lengths : length l.lengths ≡ 2
  pub repeated : length l.repeated ≡ 2
  pub formed : well_formed l ≡ true

-- The tests of the state as plain facts, and back.
use Rattle.std.proofs.Common.{◌≡◌, ℕ, zero, suc, ◌+◌, ◌*◌, ◌%◌, ◌<◌, ◌≤◌, Bool, true, false, cond, ◌||◌, eqb, ltb, leb, List, get_or, refl, ap, mul-le-mul_right, mod-lt, suc-mul, arith, ltb-false, ltb-true, le-ltb, eq-eqb, eqb-true, le-leb, leb-true}
use Rattle.std.proofs.lemmas.Bool.{eqb-false, and_parts, or_parts, cond_both}
use Rattle.base.specs.Answer.{done, out_of_range, short_buffer, link_lost}
use Rattle.base.proofs.Tests.{or_right, within_low, within_high, passed, spared, first_refusal_left, first_refusal_right, first_refusal_below}
use Rattle.frame.specs.Bytes.{high_first}
use Rattle.state.specs.declared.Settings.{Settings}
use Rattle.state.specs.declared.Link.{Link}
use Rattle.state.specs.declared.Outcome.{Outcome}
use Rattle.state.specs.Bounds.{limit_of, in_range, slots_need, frame_need}
use Rattle.state.specs.State.{sent_before, slot_of, length_of, length_ok, numbers_ok, well_formed}
use Rattle.state.specs.Gate.{After, refused, gated, entry_of, gate_of}
use Rattle.state.specs.Timer.{left, due, onward}
use Rattle.state.specs.Formed.{InRange, LengthOk, Formed, Entered, Open, Usable}
use Rattle.state.proofs.Ranges.{Ranges, ranges, facts_in_range}

-- ---- settings

pub in_range_facts : (s : Settings) → in_range s ≡ true → InRange s
in_range_facts s e =
    let r : Ranges s = ranges s e in
    record {
      d_lo = within_low 16 s.format.d _ r.d;
      d_hi = within_high 16 s.format.d _ r.d;
      window_lo = within_low 1 s.window _ r.window;
      window_hi = omega (arith, within_high 1 s.window _ r.window);
      transtimeout_lo = within_low 2 s.transtimeout _ r.transtimeout;
      transtimeout_hi = within_high 2 s.transtimeout _ r.transtimeout;
      acktimeout_lo = leb-true 1 s.acktimeout (and_parts _ _ r.acktimeout).0;
      acktimeout_hi = ltb-true s.acktimeout s.transtimeout (and_parts _ _ r.acktimeout).1;
      repeats_lo = within_low 1 s.repeats _ r.repeats;
      repeats_hi = within_high 1 s.repeats _ r.repeats;
      order_hi = leb-true s.format.order high_first r.order;
    }

-- ---- slots

pub slot_of_lt : (l : Link) (number : ℕ) → 1 ≤ l.settings.window → slot_of l number < l.settings.window
slot_of_lt l number h = mod-lt number h

pub slot_of_small : (l : Link) (number : ℕ) → InRange l.settings → slot_of l number < 2
slot_of_small l number r = omega (arith, slot_of_lt l number r.window_lo, r.window_hi)

-- in a window of two the packet before the next has the other slot
pub slots_apart : (l : Link) (k : ℕ) → l.settings.window ≡ 2 → sent_before l 0 ≡ k → slot_of l k ≡ slot_of l l.next → ⊥
slots_apart l k two e q =
    let a : slot_of l k ≡ k % 2 = ap (λ (x : ℕ). k % x) two in
    let b : slot_of l l.next ≡ l.next % 2 = ap (λ (x : ℕ). l.next % x) two in
    omega arith

-- a slot's part lies in the slot buffer, for any window and packet limit
pub part_inside : (slot window m length slots : ℕ) → slot < window → length ≤ m → window * m ≤ slots → slot * m + length ≤ slots
part_inside slot window m length slots h l r = omega (arith, mul-le-mul_right m h, suc-mul slot m)

-- ---- well formed

length_facts : (l : Link) (n : ℕ) → length_ok l (sent_before l n) ≡ true → LengthOk l n
length_facts l n e =
    let k : ℕ = sent_before l n in
    record { least = within_low 1 (length_of l k) (limit_of l.settings) e; most = within_high 1 (length_of l k) (limit_of l.settings) e }

facts_length : (l : Link) (n : ℕ) → LengthOk l n → length_ok l (sent_before l n) ≡ true
facts_length l n f = rw (le-leb 1 (length_of l (sent_before l n)) f.least, le-leb (length_of l (sent_before l n)) (limit_of l.settings) f.most)

-- the clauses of `numbers_ok`, each by itself
record Numbers (l : Link) : Type 0 where
  next : leb l.next 3 ≡ true
  expected : leb l.expected 3 ≡ true
  waiting : leb l.waiting l.settings.window ≡ true
  newest : (ltb l.waiting 1 || length_ok l (sent_before l 0)) ≡ true
  older : (ltb l.waiting 2 || length_ok l (sent_before l 1)) ≡ true
  count0 : leb (get_or l.repeated 0 0) l.settings.repeats ≡ true
  count1 : leb (get_or l.repeated 1 0) l.settings.repeats ≡ true

numbers : (l : Link) → numbers_ok l ≡ true → Numbers l
unfolding numbers_ok
numbers l e =
    let e7 = and_parts _ _ e in
    let e6 = and_parts _ _ e7.0 in
    let e5 = and_parts _ _ e6.0 in
    let e4 = and_parts _ _ e5.0 in
    let e3 = and_parts _ _ e4.0 in
    let e2 = and_parts _ _ e3.0 in
    record {
      next = e2.0;
      expected = e2.1;
      waiting = e3.1;
      newest = e4.1;
      older = e5.1;
      count0 = e6.1;
      count1 = e7.1;
    }

-- what waits in a window of at most two is the newest or the one before
waiting_lengths : (l : Link) → Numbers l → l.settings.window ≤ 2 → (n : ℕ) → n < l.waiting → LengthOk l n
waiting_lengths l f h zero w = length_facts l 0 (or_right (ltb l.waiting 1) _ f.newest (le-ltb l.waiting 1 w))
waiting_lengths l f h (suc zero) w = length_facts l 1 (or_right (ltb l.waiting 2) _ f.older (le-ltb l.waiting 2 w))
waiting_lengths l f h (suc (suc n)) w = absurd (omega (arith, leb-true l.waiting l.settings.window f.waiting))

both_repeated : (l : Link) → Numbers l → (i : ℕ) → i < 2 → get_or l.repeated i 0 ≤ l.settings.repeats
both_repeated l f zero h = leb-true (get_or l.repeated 0 0) l.settings.repeats f.count0
both_repeated l f (suc zero) h = leb-true (get_or l.repeated 1 0) l.settings.repeats f.count1
both_repeated l f (suc (suc i)) h = absurd (omega arith)

pub well_formed_facts : (l : Link) → well_formed l ≡ true → Formed l
unfolding well_formed
well_formed_facts l e =
    let s : InRange l.settings = in_range_facts l.settings (and_parts _ _ e).0 in
    let f : Numbers l = numbers l (and_parts _ _ e).1 in
    record {
      settings = s;
      next = leb-true l.next 3 f.next;
      expected = leb-true l.expected 3 f.expected;
      waiting = leb-true l.waiting l.settings.window f.waiting;
      lengths = waiting_lengths l f s.window_hi;
      repeated = both_repeated l f;
    }

unless_fewer : (l : Link) (n : ℕ) → ((n < l.waiting) → LengthOk l n) → (ltb l.waiting (suc n) || length_ok l (sent_before l n)) ≡ true
unless_fewer l n f = go (ltb l.waiting (suc n)) refl
  where
    go : (t : Bool) → ltb l.waiting (suc n) ≡ t → (t || length_ok l (sent_before l n)) ≡ true
    go true e = refl
    go false e = facts_length l n (f (ltb-false l.waiting (suc n) e))

pub facts_well_formed : (l : Link) → Formed l → well_formed l ≡ true
unfolding well_formed numbers_ok
facts_well_formed l f =
    rw (
      facts_in_range l.settings f.settings,
      le-leb l.next 3 f.next,
      le-leb l.expected 3 f.expected,
      le-leb l.waiting l.settings.window f.waiting,
      unless_fewer l 0 (f.lengths 0),
      unless_fewer l 1 (f.lengths 1),
      le-leb (get_or l.repeated 0 0) l.settings.repeats (f.repeated 0 (omega arith)),
      le-leb (get_or l.repeated 1 0) l.settings.repeats (f.repeated 1 (omega arith)),
    )

-- ---- the gate

pub entry_of_facts : (l : Link) (slots frame : ℕ) → entry_of l slots frame ≡ done → Entered l slots frame
unfolding entry_of
entry_of_facts l slots frame e =
    let short = ltb slots (slots_need l.settings) || ltb frame (frame_need l.settings) in
    let one : ℕ = cond (well_formed l) done out_of_range in
    let two : ℕ = cond short short_buffer done in
    let enough : short ≡ false = spared short short_buffer (omega arith) (first_refusal_right one two e) in
    record {
      formed = well_formed_facts l (passed (well_formed l) out_of_range (omega arith) (first_refusal_left one two e));
      slots_room = ltb-false slots (slots_need l.settings) (or_parts _ _ enough).0;
      frame_room = ltb-false frame (frame_need l.settings) (or_parts _ _ enough).1;
    }

pub gate_of_facts : (l : Link) (slots frame : ℕ) → gate_of l slots frame ≡ done → Open l slots frame
unfolding gate_of
gate_of_facts l slots frame e =
    record {
      entered = entry_of_facts l slots frame (first_refusal_left (entry_of l slots frame) (cond l.lost link_lost done) e);
      alive = spared l.lost link_lost (omega arith) (first_refusal_right (entry_of l slots frame) (cond l.lost link_lost done) e);
    }

-- it refuses with 1, 2 or 3
pub gate_of_below : (l : Link) (slots frame : ℕ) → gate_of l slots frame ≤ 3
unfolding gate_of entry_of
gate_of_below l slots frame =
    first_refusal_below 3 (entry_of l slots frame) (cond l.lost link_lost done)
    (first_refusal_below 3 (cond (well_formed l) done out_of_range) (cond short short_buffer done)
    (cond_both (well_formed l) done out_of_range (λ k. k ≤ 3) (λ e. omega arith) (λ e. omega arith))
    (cond_both short short_buffer done (λ k. k ≤ 3) (λ e. omega arith) (λ e. omega arith)))
    (cond_both l.lost link_lost done (λ k. k ≤ 3) (λ e. omega arith) (λ e. omega arith))
  where
    short : Bool
    short = ltb slots (slots_need l.settings) || ltb frame (frame_need l.settings)

-- behind it a control frame has its five bytes
pub control_fits : (l : Link) (slots frame : ℕ) → Entered l slots frame → 5 ≤ frame
control_fits l slots frame e = omega (arith, e.frame_room, e.formed.settings)

pub open_usable : (l : Link) (slots frame : ℕ) → Open l slots frame → Usable l frame
open_usable l slots frame o =
    let f : Formed l = o.entered.formed in
    let s : InRange l.settings = f.settings in
    ((s.window_lo, s.window_hi), (f.next, f.expected, omega (arith, f.waiting, s.window_hi)), control_fits l slots frame o.entered)

pub gated_cases : (P : After Outcome → Type 0) (g : ℕ) (l : Link) (slots frame : List ℕ) (inside : After Outcome) → (g ≡ done → P inside)
    → ((g ≡ done → ⊥) → P (refused l g slots frame)) → P (gated g l slots frame inside)
gated_cases P g l slots frame inside opened shut =
    cond_both (eqb g done) inside (refused l g slots frame) P (λ e. opened (eqb-true g done e)) (λ e. shut (eqb-false g done e))

pub gated_open : (g : ℕ) (l : Link) (slots frame : List ℕ) (inside : After Outcome) → g ≡ done → gated g l slots frame inside ≡ inside
gated_open g l slots frame inside e = rw (eq-eqb g done e)

-- ---- timers

-- when as many milliseconds have passed as were left the timer is due, wherever the clock wraps
pub left-due : (timeout start ms : ℕ) → timeout ≤ 1000 → start < 4294967296 → ms < 4294967296 → due timeout start (onward ms (left timeout start ms)) ≡ true
left-due timeout start ms h s c = eq-eqb (left timeout start (onward ms (left timeout start ms))) 0 (omega arith)

-- What is left to be repeated and acknowledged at one end, and that no call of a quiet continuation raises it.
use Rattle.std.proofs.Common.{◌≡◌, refl, sym, ap, subst, Bool, true, false, true≢false, cond, not, ◌&&◌, ◌||◌, List, [], ℕ, zero, suc, ◌%◌, ◌+◌, ◌-◌, ◌*◌, ◌≤◌, ◌<◌, arith, ltb-true, eqb-true, ne_eqb, length, get_or, get_or-set_same, eqb, ltb}
use Rattle.std.proofs.lemmas.Bool.{eqb-false, and_parts}
use Rattle.base.specs.Answer.{done}
use Rattle.base.proofs.Put.{set_cases}
use Rattle.frame.specs.declared.Format.{Format}
use Rattle.frame.specs.Bytes.{frame_of, data_frame}
use Rattle.frame.proofs.Writing.{frame_of-length}
use Rattle.state.specs.declared.Link.{Link}
use Rattle.state.specs.declared.Outcome.{Outcome}
use Rattle.state.specs.State.{last_correct, sent_before, slot_of, repeated_of, start_of}
use Rattle.state.specs.Gate.{After, refused}
use Rattle.state.specs.Timer.{due, packet_due, acknowledge_due}
use Rattle.state.specs.Formed.{Formed, Sound}
use Rattle.state.proofs.Facts.{well_formed_facts, slot_of_small}
use Rattle.send.specs.Repeat.{packet_of, again, may_repeat}
use Rattle.send.specs.Makers.{concluded, sends_repeat}
use Rattle.receive.specs.Steps.{freed}
use Rattle.receive.proofs.Facts.{freed_fewer}
use Rattle.clock.specs.Look.{after_oldest, exhausted, served, acknowledged_if, looked_open}
use Rattle.clock.proofs.Facts.{due-waits}
use Rattle.pair.specs.Round.{due_at}

abbrev pub bit : Bool → ℕ
bit true = 1
bit false = 0

pub bit_small : (t : Bool) → bit t ≤ 1
bit_small true = omega arith
bit_small false = omega arith

-- the repeats that the newest n packets have left
abbrev pub spare_of : ℕ → ℕ → ℕ → List ℕ → ℕ → ℕ
spare_of repeats next window repeated zero = 0
spare_of repeats next window repeated (suc n) = spare_of repeats next window repeated n + (repeats - get_or repeated ((next + 3 - n) % 4 % window) 0)

abbrev pub spare : Link → ℕ → ℕ
spare l n = spare_of l.settings.repeats l.next l.settings.window l.repeated n

abbrev pub weight : Link → ℕ
weight l = spare l l.waiting + bit l.acking

pub spare_bound : (l : Link) (n : ℕ) → l.settings.repeats ≤ 4 → spare l n ≤ 4 * n
spare_bound l zero h = omega arith
spare_bound l (suc n) h = omega (arith, spare_bound l n h)

-- ---- freeing

pub spare_fewer : (l : Link) (n k : ℕ) → n ≤ k → spare l n ≤ spare l k
spare_fewer l n zero h = let e : n ≡ 0 = omega arith in subst (λ m. spare l m ≤ 0) (sym e) (omega arith)
spare_fewer l n (suc k) h = go (λ less. spare_fewer l n k less) (eqb n (suc k)) refl
  where
    go : (n ≤ k → spare l n ≤ spare l k) → (t : Bool) → eqb n (suc k) ≡ t → spare l n ≤ spare l (suc k)
    go ih true e = subst (λ m. spare l m ≤ spare l (suc k)) (sym (eqb-true n (suc k) e)) (omega arith)
    go ih false e = omega (arith, ih (omega (arith, eqb-false n (suc k) e)))

pub freed_spare : (l : Link) (number : ℕ) → spare (freed l number) (freed l number).waiting ≤ spare l l.waiting
freed_spare l number = spare_fewer l (freed l number).waiting l.waiting (freed_fewer l number)

-- ---- repeating

-- the counts of all slots are as before or higher, and of this one higher by 1
count_up : (l : Link) (number ms other : ℕ) → repeated_of l other ≤ repeated_of (again l number ms) other
count_up l number ms other =
    set_cases (λ n. repeated_of l other ≤ n) l.repeated (slot_of l number) (slot_of l other) (repeated_of l number + 1)
    (λ e. omega (arith, ap (λ (k : ℕ). get_or l.repeated k 0) e)) (omega arith)

count_more : (l : Link) (number ms : ℕ) → slot_of l number < length l.repeated → repeated_of (again l number ms) number ≡ repeated_of l number + 1
count_more l number ms h = get_or-set_same l.repeated (slot_of l number) (repeated_of l number + 1) 0 h

again_spare : (l : Link) (number ms n : ℕ) → spare (again l number ms) n ≤ spare l n
again_spare l number ms zero = omega arith
again_spare l number ms (suc n) = omega (arith, again_spare l number ms n, count_up l number ms (sent_before l n))

again_less : (l : Link) (ms j n : ℕ) → slot_of l (sent_before l j) < length l.repeated → j < n → repeated_of l (sent_before l j) < l.settings.repeats
    → spare (again l (sent_before l j) ms) n + 1 ≤ spare l n
again_less l ms j zero h lt few = absurd (omega arith)
again_less l ms j (suc n) h lt few = go (λ less. again_less l ms j n h less few) (eqb j n) refl
  where
    go : (j < n → spare (again l (sent_before l j) ms) n + 1 ≤ spare l n) → (t : Bool) → eqb j n ≡ t → spare (again l (sent_before l j) ms) (suc n) + 1 ≤ spare l (suc n)
    go ih true e = subst (λ k. spare (again l (sent_before l j) ms) (suc k) + 1 ≤ spare l (suc k)) (eqb-true j n e)
        (omega (arith, again_spare l (sent_before l j) ms j, count_more l (sent_before l j) ms h))
    go ih false e = omega (arith, ih (omega (arith, eqb-false j n e)), count_up l (sent_before l j) ms (sent_before l n))

-- a packet that waits and may be repeated lowers the weight when it is
pub again_weight : (l : Link) (ms j : ℕ) → Sound l → j < l.waiting → may_repeat l (sent_before l j) ≡ true → weight (again l (sent_before l j) ms) + 1 ≤ weight l
again_weight l ms j s h may =
    let formed : Formed l = well_formed_facts l s.formed in
    let slot : slot_of l (sent_before l j) < length l.repeated = omega (arith, slot_of_small l (sent_before l j) formed.settings, s.repeated) in
    omega (arith, again_less l ms j l.waiting slot h (ltb-true (repeated_of l (sent_before l j)) l.settings.repeats may))

-- ---- take

-- what a call of a quiet continuation does to the weight, with so many packets delivered
pub record Calm (l : Link) (a : After Outcome) (delivered : ℕ) : Type 0 where
  pub low : weight a.told.state ≤ weight l + delivered
  pub few : a.told.state.waiting ≤ l.waiting
  pub sticks : l.lost ≡ true → a.told.state.lost ≡ true

-- ---- look

-- what looking does to it: each frame sent costs one, and where a timer is due one is sent, or the link is lost
pub record CalmLook (l : Link) (a : After Outcome) (owed : Bool) : Type 0 where
  pub low : weight a.told.state + bit (not (eqb a.told.sent 0)) ≤ weight l
  pub few : a.told.state.waiting ≤ l.waiting
  pub sticks : l.lost ≡ true → a.told.state.lost ≡ true
  pub served : owed ≡ true → a.told.state.lost ≡ false → eqb a.told.sent 0 ≡ false
  pub mute : a.told.delivered ≡ 0

pub looked_same : (l : Link) (slots frame : List ℕ) (answer : ℕ) (owed : Bool) → (owed ≡ true → ⊥) → CalmLook l (refused l answer slots frame) owed
looked_same l slots frame answer owed n = record { low = omega arith; few = omega arith; sticks = λ h. h; served = λ o. absurd (n o); mute = refl }

-- a frame that is sent has bytes
sent_some : (bytes : List ℕ) → 1 ≤ length bytes → eqb (length bytes) 0 ≡ false
sent_some bytes h = ne_eqb (length bytes) 0 (λ q. omega arith)

data_some : (format : Format) (number acknowledged : ℕ) (packet : List ℕ) → eqb (length (data_frame format number acknowledged packet)) 0 ≡ false
data_some format number acknowledged packet = sent_some (data_frame format number acknowledged packet) (omega (arith, frame_of-length format (number * 4 + acknowledged) packet))

control_some : (format : Format) (fctr : ℕ) → eqb (length (frame_of format fctr [])) 0 ≡ false
control_some format fctr = sent_some (frame_of format fctr []) (omega (arith, frame_of-length format fctr []))

served_look : (l : Link) (slots frame : List ℕ) (ms j : ℕ) (owed : Bool) → Sound l → l.lost ≡ false → j < l.waiting → CalmLook l (served l slots frame ms (sent_before l j)) owed
served_look l slots frame ms j owed s alive h = go (may_repeat l (sent_before l j)) refl
  where
    k : ℕ
    k = sent_before l j

    go : (t : Bool) → may_repeat l k ≡ t → CalmLook l (cond t (concluded (sends_repeat l slots frame ms k) done 0 slots) (exhausted l slots frame)) owed
    go true e = record {
      low = rw (data_some l.settings.format k (last_correct l) (packet_of l slots k)) (again_weight l ms j s h e);
      few = omega arith;
      sticks = λ q. q;
      served = λ o q. data_some l.settings.format k (last_correct l) (packet_of l slots k);
      mute = refl;
    }
    go false e = record { low = omega arith; few = omega arith; sticks = λ q. refl; served = λ o q. absurd (true≢false q); mute = refl }

acknowledged_look : (l : Link) (slots frame : List ℕ) (owed : Bool) → (owed ≡ true → l.acking ≡ true) → CalmLook l (acknowledged_if owed l slots frame) owed
acknowledged_look l slots frame true f = record {
  low = rw (control_some l.settings.format (0x80 + last_correct l)) (omega (arith, ap bit (f refl)));
  few = omega arith;
  sticks = λ q. q;
  served = λ o q. control_some l.settings.format (0x80 + last_correct l);
  mute = refl;
}
acknowledged_look l slots frame false f = record { low = omega arith; few = omega arith; sticks = λ q. q; served = λ o. absurd (true≢false (sym o)); mute = refl }

-- some timer of the end is due
pub looked_look : (l : Link) (slots frame : List ℕ) (ms : ℕ) → Sound l → l.lost ≡ false → CalmLook l (looked_open l slots frame ms) (due_at l ms)
unfolding looked_open
looked_look l slots frame ms s alive = go (packet_due l (after_oldest l) ms) (packet_due l 0 ms) refl refl
  where
    formed : Formed l
    formed = well_formed_facts l s.formed

    -- the older of two is the oldest
    older : packet_due l (after_oldest l) ms ≡ false → packet_due l 1 ms ≡ false
    older e = inner (ltb 1 l.waiting) refl
      where
        inner : (t : Bool) → ltb 1 l.waiting ≡ t → (t && due l.settings.transtimeout (start_of l (sent_before l 1)) ms) ≡ false
        inner true q =
            let two : after_oldest l ≡ 1 = omega (arith, ltb-true 1 l.waiting q, formed.waiting, formed.settings.window_hi) in
            let here : ltb 1 l.waiting && due l.settings.transtimeout (start_of l (sent_before l 1)) ms ≡ false = subst (λ n. packet_due l n ms ≡ false) two e in
            subst (λ t. (t && due l.settings.transtimeout (start_of l (sent_before l 1)) ms) ≡ false) q here
        inner false q = refl

    go : (first second : Bool) → packet_due l (after_oldest l) ms ≡ first → packet_due l 0 ms ≡ second
        → CalmLook l (cond first (served l slots frame ms (sent_before l (after_oldest l)))
        (cond second (served l slots frame ms (sent_before l 0)) (acknowledged_if (acknowledge_due l ms) l slots frame))) (second || packet_due l 1 ms || acknowledge_due l ms)
    go true second e e₁ = served_look l slots frame ms (after_oldest l) (second || packet_due l 1 ms || acknowledge_due l ms) s alive (due-waits l (after_oldest l) ms e)
    go false true e e₁ = served_look l slots frame ms 0 true s alive (due-waits l 0 ms e₁)
    go false false e e₁ = rw (older e) (acknowledged_look l slots frame (acknowledge_due l ms) (λ o. (and_parts _ _ o).0))

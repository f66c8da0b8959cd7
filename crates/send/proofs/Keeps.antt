-- What an end sends keeps its state sound.
use Rattle.std.proofs.Common.{◌≡◌, refl, ◌∙◌, Bool, true, false, cond, List, ℕ, zero, suc, ◌+◌, ◌%◌, ◌<◌, ◌≤◌, arith, ltb-true, length, set, length-set, get_or-set_same, get_or-set_other}
use Rattle.base.proofs.Put.{set_cases}
use Rattle.frame.specs.Bytes.{nak_frame}
use Rattle.state.specs.declared.Link.{Link}
use Rattle.state.specs.Bounds.{limit_of}
use Rattle.state.specs.State.{last_correct, sent_before, slot_of, length_of, repeated_of}
use Rattle.state.specs.Formed.{LengthOk, Formed, Sound}
use Rattle.state.proofs.Facts.{slot_of_small, slots_apart, well_formed_facts, facts_well_formed}
use Rattle.state.proofs.Keeps.{changed_sound, marked_sound, gated_sound}
use Rattle.send.specs.Repeat.{data_sent, again, may_repeat}
use Rattle.send.specs.Makers.{silent, sends, ack_stopped, marked, sends_nak}
use Rattle.send.specs.Submit.{submit_gate, added, sent_first, packet_accepted, submitted}
use Rattle.send.proofs.Facts.{Accepting, submit_gate_facts}

-- ---- a data frame sent

data_sent_sound : (l : Link) (number ms count : ℕ) → Sound l → count ≤ l.settings.repeats → Sound (data_sent l number ms count)
data_sent_sound l number ms count s c =
    let f : Formed l = well_formed_facts l s.formed in
    changed_sound l (set l.starts (slot_of l number) ms) (set l.repeated (slot_of l number) count) l.ackstart l.expected l.waiting false l.nakmark l.lost s
    (length-set l.starts (slot_of l number) ms ∙ s.starts)
    (length-set l.repeated (slot_of l number) count ∙ s.repeated)
    f.expected (omega arith)
    (λ i h. set_cases (λ n. n ≤ l.settings.repeats) l.repeated (slot_of l number) i count (λ e. c) (f.repeated i h))

pub again_sound : (l : Link) (number ms : ℕ) → Sound l → may_repeat l number ≡ true → Sound (again l number ms)
again_sound l number ms s m = data_sent_sound l number ms (repeated_of l number + 1) s (omega (arith, ltb-true (repeated_of l number) l.settings.repeats m))

-- ---- control frames

pub ack_stopped_sound : (l : Link) → Sound l → Sound (ack_stopped l)
ack_stopped_sound l s = marked_sound l l.ackstart false l.nakmark l.lost s

pub sends_nak_sound : (l : Link) (frame : List ℕ) → Sound l → Sound (sends_nak l frame).told.state
sends_nak_sound l frame s = go l.nakmark
  where
    go : (t : Bool) → Sound (cond t (silent l frame) (sends (marked l) (nak_frame l.settings.format ((last_correct l + 1) % 4)) frame)).told.state
    go true = s
    go false = marked_sound l l.ackstart l.acking true l.lost s

-- ---- submit

-- the newest packet has the new length; the one before keeps its own, since in a window of two the other slot is its
newest_length : (l : Link) (packet : ℕ) → Sound l → 1 ≤ packet → packet ≤ limit_of l.settings → LengthOk (added l packet) 0
newest_length l packet s lo hi =
    let f : Formed l = well_formed_facts l s.formed in
    let number : sent_before (added l packet) 0 ≡ l.next = omega (arith, f.next) in
    let same : length_of (added l packet) l.next ≡ packet =
    get_or-set_same l.lengths (slot_of l l.next) packet 0 (omega (arith, slot_of_small l l.next f.settings, s.lengths)) in
    let e : length_of (added l packet) (sent_before (added l packet) 0) ≡ packet = rw number same in
    record { least = omega (arith, e); most = omega (arith, e) }

older_length : (l : Link) (packet n : ℕ) → Sound l → l.waiting < l.settings.window → n < l.waiting → LengthOk (added l packet) (suc n)
older_length l packet n s place h =
    let f : Formed l = well_formed_facts l s.formed in
    let one : n ≡ 0 = omega (arith, f.settings) in
    let two : l.settings.window ≡ 2 = omega (arith, f.settings) in
    let number : sent_before (added l packet) (suc n) ≡ sent_before l 0 = omega (arith, f.next) in
    let kept : length_of (added l packet) (sent_before l 0) ≡ length_of l (sent_before l 0) =
    get_or-set_other l.lengths (slot_of l l.next) (slot_of l (sent_before l 0)) packet 0 (slots_apart l (sent_before l 0) two refl) in
    let e : length_of (added l packet) (sent_before (added l packet) (suc n)) ≡ length_of l (sent_before l 0) = rw number kept in
    let first : LengthOk l 0 = f.lengths 0 (omega arith) in
    record { least = omega (arith, e, first.least); most = omega (arith, e, first.most) }

added_sound : (l : Link) (packet : ℕ) → Sound l → 1 ≤ packet → packet ≤ limit_of l.settings → l.waiting < l.settings.window → Sound (added l packet)
added_sound l packet s lo hi place =
    let f : Formed l = well_formed_facts l s.formed in
    record {
      starts = s.starts;
      lengths = length-set l.lengths (slot_of l l.next) packet ∙ s.lengths;
      repeated = s.repeated;
      formed = facts_well_formed (added l packet) (record {
        settings = f.settings;
        next = omega arith;
        expected = f.expected;
        waiting = omega (arith, place);
        lengths = lengths;
        repeated = f.repeated;
      });
    }
  where
    lengths : (n : ℕ) → n < l.waiting + 1 → LengthOk (added l packet) n
    lengths zero h = newest_length l packet s lo hi
    lengths (suc n) h = older_length l packet n s place (omega arith)

pub sent_first_sound : (l : Link) (ms slots frame packet : ℕ) → Sound l → Accepting l slots frame packet → Sound (sent_first l ms packet)
sent_first_sound l ms slots frame packet s a =
    added_sound (data_sent l l.next ms 0) packet (data_sent_sound l l.next ms 0 s (omega arith)) a.least a.most a.place

pub submitted_sound : (l : Link) (slots frame : List ℕ) (ms : ℕ) (packet : List ℕ) → Sound l → Sound (submitted l slots frame ms packet).told.state
unfolding submitted
submitted_sound l slots frame ms packet s =
    gated_sound (submit_gate l (length slots) (length frame) (length packet)) l slots frame (packet_accepted l slots frame ms packet) s
    (λ e. sent_first_sound l ms (length slots) (length frame) (length packet) s (submit_gate_facts l (length slots) (length frame) (length packet) e))

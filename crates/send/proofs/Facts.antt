-- What lets a packet be taken and a frame be made.
use Rattle.std.proofs.Common.{◌≡◌, ap, Bool, true, cond, List, ℕ, ◌+◌, ◌<◌, ◌≤◌, arith, ltb-true, ltb}
use Rattle.base.specs.Range.{within}
use Rattle.base.specs.Answer.{done, packet_size, window_full}
use Rattle.base.proofs.Tests.{within_low, within_high, passed, first_refusal_left, first_refusal_right}
use Rattle.state.specs.declared.Link.{Link}
use Rattle.state.specs.Bounds.{limit_of}
use Rattle.state.specs.declared.Outcome.{Outcome}
use Rattle.state.specs.State.{sent_before, slot_of, length_of, repeated_of}
use Rattle.state.specs.Gate.{after, gate_of}
use Rattle.state.specs.Formed.{InRange, Formed, Open}
use Rattle.state.proofs.Facts.{gate_of_facts, slot_of_lt, part_inside}
use Rattle.send.specs.Repeat.{part_of, may_repeat, Ready}
use Rattle.send.specs.declared.Sent.{Sent}
use Rattle.send.specs.Makers.{Sending, sending, concluded}
use Rattle.send.specs.Submit.{packet_gate, submit_gate, Acceptable}

-- what a gate of 0 says, as plain inequalities
pub record Accepting (l : Link) (slots frame packet : ℕ) : Type 0 where
  pub gate : Open l slots frame
  pub least : 1 ≤ packet
  pub most : packet ≤ limit_of l.settings
  pub place : l.waiting < l.settings.window

pub submit_gate_facts : (l : Link) (slots frame packet : ℕ) → submit_gate l slots frame packet ≡ done → Accepting l slots frame packet
unfolding submit_gate
submit_gate_facts l slots frame packet e =
    let size : Bool = within 1 packet (limit_of l.settings) in
    let full : Bool = ltb l.waiting l.settings.window in
    let four : ℕ = cond size done packet_size in
    let five : ℕ = cond full done window_full in
    let inner : packet_gate l packet ≡ done = first_refusal_right (gate_of l slots frame) (packet_gate l packet) e in
    let fits : size ≡ true = passed size packet_size (omega arith) (first_refusal_left four five inner) in
    record {
      gate = gate_of_facts l slots frame (first_refusal_left (gate_of l slots frame) (packet_gate l packet) e);
      least = within_low 1 packet (limit_of l.settings) fits;
      most = within_high 1 packet (limit_of l.settings) fits;
      place = ltb-true l.waiting l.settings.window (passed full window_full (omega arith) (first_refusal_right four five inner));
    }

-- a packet of at most m bytes lies in the slot buffer, in the part of its slot
pub part_fits : (l : Link) (number length slots frame : ℕ) → Open l slots frame → length ≤ limit_of l.settings → part_of l number + length ≤ slots
part_fits l number length slots frame o h =
    part_inside (slot_of l number) l.settings.window (limit_of l.settings) length slots
    (slot_of_lt l number o.entered.formed.settings.window_lo) h o.entered.slots_room

-- all that taking a packet stands on
pub submit_gate_fits : (l : Link) (slots frame packet : ℕ) → submit_gate l slots frame packet ≡ done → Acceptable l slots frame packet
submit_gate_fits l slots frame packet e =
    let a : Accepting l slots frame packet = submit_gate_facts l slots frame packet e in
    let f : Formed l = a.gate.entered.formed in
    let s : InRange l.settings = f.settings in (
      (s.window_lo, s.window_hi),
      (f.next, omega (arith, a.place, s.window_hi)),
      (a.most, part_fits l l.next (limit_of l.settings) slots frame a.gate (omega arith)),
      (omega (arith, a.most, a.gate.entered.frame_room, s.d_lo), omega (arith, a.most, s.d_hi)),
    )

-- a packet that waits, and whose count is below TRANS_REPEAT, can be repeated
pub waiting_ready : (l : Link) (n slots frame : ℕ) → Open l slots frame → n < l.waiting → may_repeat l (sent_before l n) ≡ true → Ready l (sent_before l n) slots frame
waiting_ready l n slots frame o w e =
    let f : Formed l = o.entered.formed in
    let s : InRange l.settings = f.settings in
    let number : ℕ = sent_before l n in
    let few : repeated_of l number < l.settings.repeats = ltb-true (repeated_of l number) l.settings.repeats e in
    let len : length_of l number + 5 ≤ l.settings.format.d = omega (arith, (f.lengths n w).most, s.d_lo) in
    let small : number ≤ 3 = omega arith in
    let count : repeated_of l number < 255 = omega (arith, few, s.repeats_hi) in
    ((small, s.window_lo, s.window_hi), (part_fits l number (length_of l number) slots frame o (f.lengths n w).most, len), (o.entered.frame_room, count))

-- a call that ends with what a maker left
pub ended : (r : Outcome) (s : Sent) (slots frame : List ℕ) (x : Sending) (answer delivered : ℕ)
    → r ≡ record { state = s.state; sent = s.sent; delivered = delivered; dropped = 0; answer = answer } → sending s frame ≡ x
    → after r slots frame ≡ concluded x answer delivered slots
ended r s slots frame x answer delivered e q = rw e (ap (λ (y : Sending). concluded y answer delivered slots) q)

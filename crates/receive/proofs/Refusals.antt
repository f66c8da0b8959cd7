-- Refusals with a NAK differ in their number alone, and the number tells which it was.
use Rattle.std.proofs.Common.{◌≡◌, refl, ap, sym, ◌∙◌, ◌≢◌, List, [], ℕ, ◌≤◌, arith, length, eqb}
use Rattle.base.specs.Answer.{done, unexpected}
use Rattle.std.proofs.lemmas.Bool.{cond_both}
use Rattle.frame.specs.declared.Heard.{Heard}
use Rattle.frame.specs.declared.Heard.TheVariants.{Size, Sum, Code, ControlSize, Length, Reset, Ack, Nak, Data}
use Rattle.frame.specs.Steps.{heard, judged, refusal_of}
use Rattle.frame.proofs.Hearing.{heard_framed}
use Rattle.frame.proofs.Reasons.{refused_holds, number_tells}
use Rattle.frame.proofs.Orders.{reset_other, zeros-heard}
use Rattle.state.specs.declared.Link.{Link}
use Rattle.state.specs.declared.Outcome.{Outcome}
use Rattle.state.specs.Gate.{After, gate_of}
use Rattle.state.proofs.Facts.{gate_of_facts, gate_of_below, gated_cases}
use Rattle.receive.specs.Take.{refused_with_nak, data_taken, obeyed, frame_taken}
use Rattle.receive.specs.Refusals.{WithNak, by_size, by_sum, by_code, by_length, answering, heard_by, NumberAlone, AnswerTells}
use Rattle.receive.proofs.Facts.{frame_taken_open}

-- whatever the refusal is, the end does the same
obeyed_nak : (l : Link) (slots frame : List ℕ) (ms : ℕ) (h : Heard) → WithNak h → obeyed l slots frame ms h ≡ refused_with_nak l slots frame h
unfolding obeyed
obeyed_nak l slots frame ms Size by_size = refl
obeyed_nak l slots frame ms Sum by_sum = refl
obeyed_nak l slots frame ms Code by_code = refl
obeyed_nak l slots frame ms Length by_length = refl
obeyed_nak l slots frame ms ControlSize w = elim w [ ]
obeyed_nak l slots frame ms Reset w = elim w [ ]
obeyed_nak l slots frame ms (Ack k) w = elim w [ ]
obeyed_nak l slots frame ms (Nak k) w = elim w [ ]
obeyed_nak l slots frame ms (Data n x k len) w = elim w [ ]

pub number_alone : NumberAlone
unfolding heard judged
number_alone l slots frame g = record {
  but_number = λ ms ms2 received received2 w w2. taken ms2 received2 w2 ∙ ap (answering (refusal_of (heard_by l received2))) (sym (taken ms received w));
  suppressed = λ ms received w marked. taken ms received w ∙ rw marked;
  size = refl;
  sum = reset_other l.settings.format five;
  code = heard_framed l.settings.format 0x10 [] five;
  len = zeros-heard l.settings.format five;
}
  where
    five : 5 ≤ l.settings.format.d
    five = omega (arith, (gate_of_facts l (length slots) (length frame) g).entered.formed.settings.d_lo)

    taken : (ms : ℕ) (received : List ℕ) → WithNak (heard_by l received) → frame_taken l slots frame ms received ≡ refused_with_nak l slots frame (heard_by l received)
    taken ms received w = frame_taken_open l slots frame ms received g ∙ obeyed_nak l slots frame ms (heard_by l received) w

-- ---- what the answer tells

-- no refusal has the number of the gate's (1 to 3), nor of step 7's (9)
refusal_above : (h : Heard) → refusal_of h ≢ done → (4 ≤ refusal_of h) × (unexpected ≢ refusal_of h)
refusal_above =
    refused_holds (λ h. (4 ≤ refusal_of h) × (unexpected ≢ refusal_of h))
    (omega arith, λ e. omega (arith, e))
    (omega arith, λ e. omega (arith, e))
    (omega arith, λ e. omega (arith, e))
    (omega arith, λ e. omega (arith, e))
    (omega arith, λ e. omega (arith, e))

obeyed_tells : (l : Link) (slots frame : List ℕ) (ms : ℕ) (h k : Heard) → refusal_of h ≢ done → (obeyed l slots frame ms k).told.answer ≡ refusal_of h → k ≡ h
unfolding obeyed data_taken
obeyed_tells l slots frame ms h Size n e = number_tells h Size n e
obeyed_tells l slots frame ms h Sum n e = number_tells h Sum n e
obeyed_tells l slots frame ms h Code n e = number_tells h Code n e
obeyed_tells l slots frame ms h ControlSize n e = number_tells h ControlSize n e
obeyed_tells l slots frame ms h Length n e = number_tells h Length n e
obeyed_tells l slots frame ms h Reset n e = absurd (n (sym e))
obeyed_tells l slots frame ms h (Ack number) n e = absurd (n (sym e))
obeyed_tells l slots frame ms h (Nak number) n e = absurd (n (sym e))
obeyed_tells l slots frame ms h (Data number nak acknowledged len) n e =
    absurd (cond_both (eqb number l.expected) _ _ (λ (a : After Outcome). a.told.answer ≡ refusal_of h → ⊥) (λ t q. n (sym q)) (λ t q. (refusal_above h n).1 q) e)

pub answer_tells : AnswerTells
unfolding frame_taken
answer_tells l slots frame ms received h n =
    gated_cases (λ a. a.told.answer ≡ refusal_of h → heard_by l received ≡ h) (gate_of l (length slots) (length frame)) l slots frame
    (obeyed l slots frame ms (heard_by l received))
    (λ g. obeyed_tells l slots frame ms h (heard_by l received) n)
    (λ g e. absurd (omega (arith, e, gate_of_below l (length slots) (length frame), (refusal_above h n).0)))

-- The promises of specs/Promises.antt.
use Rattle.std.proofs.Common.{◌≡◌, refl, sym, ap, ◌∙◌, List, ℕ, arith, length}
use Rattle.base.specs.Answer.{done}
use Rattle.frame.specs.Bytes.{ack_frame}
use Rattle.frame.proofs.Hearing.{ack_heard}
use Rattle.state.specs.declared.Settings.{Settings}
use Rattle.state.specs.declared.Outcome.{Outcome}
use Rattle.state.specs.State.{fresh_of}
use Rattle.state.specs.Gate.{After, refused, entry_of}
use Rattle.state.specs.Calls.{reset_sent, resynchronised}
use Rattle.state.specs.Formed.{InRange}
use Rattle.state.proofs.Facts.{in_range_facts, gated_cases}
use Rattle.state.proofs.Keeps.{fresh_sound, sound_open, started_sound, resynchronised_sound}
use Rattle.send.specs.Submit.{submitted}
use Rattle.send.proofs.Keeps.{submitted_sound}
use Rattle.receive.specs.Take.{obeyed, frame_taken}
use Rattle.receive.proofs.Facts.{frame_taken_open}
use Rattle.receive.proofs.Keeps.{frame_taken_sound}
use Rattle.clock.specs.Look.{looked, acknowledged_now}
use Rattle.clock.proofs.Keeps.{looked_sound, acknowledged_now_sound}
use Rattle.link.specs.Promises.{OneOutcome, Settled, ZeroRefused, AckThree, Kept, ResetRefused}

one : {R : Type 0} (slots : List ℕ) (whole : After R) → OneOutcome slots whole
one {R} slots whole told other written other_written p q =
    let e = p ∙ sym q in
    (ap (λ (a : After R). a.told) e, ap (λ (a : After R). a.frame) e)

pub settled : Settled
settled =
    record {
      start = λ s slots told other p q. p ∙ sym q;
      submit = λ l slots frame ms packet told other copied other_copied written other_written p q. let e = p ∙ sym q in
          (ap (λ (a : After Outcome). a.told) e, ap (λ (a : After Outcome). a.slots) e, ap (λ (a : After Outcome). a.frame) e);
      take = λ l slots frame ms received. one slots (frame_taken l slots frame ms received);
      look = λ l slots frame ms. one slots (looked l slots frame ms);
      acknowledge = λ l slots frame. one slots (acknowledged_now l slots frame);
      resynchronise = λ l slots frame. one slots (resynchronised l slots frame);
    }

pub zero_refused : (slots frame : List ℕ) → ZeroRefused slots frame
unfolding submitted frame_taken looked acknowledged_now resynchronised
zero_refused slots frame =
    record {
      submit = λ ms packet. refl;
      take = λ ms received. refl;
      look = λ ms. refl;
      acknowledge = refl;
      resynchronise = refl;
    }

pub ack_three : (s : Settings) → AckThree s
unfolding obeyed fresh_of
ack_three s =
    record {
      carried = refl;
      control = λ slots frame ms e h k. let r : InRange s = in_range_facts s e in
          frame_taken_open (fresh_of s) slots frame ms (ack_frame s.format 3) (sound_open (fresh_of s) (length slots) (length frame) (fresh_sound s r) refl h k)
          ∙ rw (ack_heard s.format 3 (omega arith) (omega (arith, r.d_lo)));
    }

pub kept : Kept
kept =
    record {
      start = started_sound;
      submit = submitted_sound;
      take = frame_taken_sound;
      look = looked_sound;
      acknowledge = acknowledged_now_sound;
      resynchronise = resynchronised_sound;
    }

pub reset_refused : ResetRefused
unfolding resynchronised
reset_refused l slots frame n =
    gated_cases (λ (a : After Outcome). (a.told.answer ≡ done → ⊥) → a ≡ refused l a.told.answer slots frame) (entry_of l (length slots) (length frame)) l slots frame (reset_sent l slots frame)
    (λ q k. absurd (k refl)) (λ q k. refl) n

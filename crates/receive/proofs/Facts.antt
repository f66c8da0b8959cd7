-- What taking a frame cites.
use Rattle.std.proofs.Common.{◌≡◌, sym, subst, ◌∙◌, Bool, true, false, true≢false, ◌&&◌, List, ℕ, ◌<◌, ◌≤◌, length, eqb, arith, ltb-true, eqb-true}
use Rattle.std.proofs.lemmas.Bool.{eqb-false, and_parts, cond_both}
use Rattle.base.specs.Answer.{done, unexpected}
use Rattle.frame.specs.declared.Heard.TheVariants.{Data}
use Rattle.frame.specs.Steps.{heard}
use Rattle.state.specs.declared.Link.{Link}
use Rattle.state.specs.declared.Outcome.{Outcome}
use Rattle.state.specs.State.{behind, waits, sent_before}
use Rattle.state.specs.Gate.{After, gate_of}
use Rattle.state.specs.Formed.{Open}
use Rattle.state.proofs.Facts.{gate_of_facts, gated_open}
use Rattle.send.specs.Repeat.{may_repeat, Ready}
use Rattle.send.specs.Makers.{silent, concluded, sends_ack}
use Rattle.send.proofs.Facts.{waiting_ready}
use Rattle.receive.specs.Steps.{freed, repeatable, after_step6, after_delivery}
use Rattle.receive.specs.Take.{data_taken, obeyed, frame_taken}

-- take behind an open gate
pub frame_taken_open : (l : Link) (slots frame : List ℕ) (ms : ℕ) (received : List ℕ) → gate_of l (length slots) (length frame) ≡ done
    → frame_taken l slots frame ms received ≡ obeyed l slots frame ms (heard l.settings.format received)
unfolding frame_taken
frame_taken_open l slots frame ms received e = gated_open (gate_of l (length slots) (length frame)) l slots frame (obeyed l slots frame ms (heard l.settings.format received)) e

-- ---- step 6

pub freed_fewer : (l : Link) (number : ℕ) → (freed l number).waiting ≤ l.waiting
freed_fewer l number =
    cond_both (waits l number) (behind l number) l.waiting (λ n. n ≤ l.waiting)
    (λ e. omega (arith, ltb-true (behind l number) l.waiting e)) (λ e. omega arith)

-- what step 6 would repeat waits: what holds of each packet that waits and may be repeated, named by how many were sent after it, holds of it
pub repeatable_holds : (P : ℕ → Type 0) (l : Link) (number : ℕ) → l.next ≤ 3 → number ≤ 3 → repeatable l number ≡ true
    → ((n : ℕ) → n < l.waiting → may_repeat l (sent_before l n) ≡ true → P (sent_before l n)) → P number
repeatable_holds P l number next h e f =
    let same : sent_before l (behind l number) ≡ number = omega arith in
    let waiting : behind l number < l.waiting = ltb-true (behind l number) l.waiting (and_parts _ _ e).0 in
    let may : may_repeat l number ≡ true = (and_parts _ _ e).1 in
    subst P same (f (behind l number) waiting (subst (λ k. may_repeat l k ≡ true) (sym same) may))

-- so it can be repeated
pub repeatable_ready : (l : Link) (number slots frame : ℕ) → Open l slots frame → number ≤ 3 → repeatable l number ≡ true → Ready l number slots frame
repeatable_ready l number slots frame o h e =
    repeatable_holds (λ k. Ready l k slots frame) l number o.entered.formed.next h e (λ n w may. waiting_ready l n slots frame o w may)

-- also in the state after step 6, which a NAK leaves as it is
pub step6_ready : (l sixth : Link) (nak repeat : Bool) (number slots frame : ℕ) → gate_of l slots frame ≡ done → number ≤ 3
    → repeat ≡ repeatable l number → sixth ≡ after_step6 l nak number → (nak && repeat) ≡ true → Ready sixth number slots frame
step6_ready l sixth true repeat number slots frame g h e six may =
    subst (λ k. Ready k number slots frame) (sym six) (repeatable_ready l number slots frame (gate_of_facts l slots frame g) h (sym e ∙ may))
step6_ready l sixth false repeat number slots frame g h e six may = absurd (true≢false (sym may))

-- step 6 leaves the expected number
pub step6_expected : (l sixth : Link) (nak : Bool) (number : ℕ) → sixth ≡ after_step6 l nak number → l.expected ≤ 3 → sixth.expected ≤ 3
step6_expected l sixth true number six h = rw six h
step6_expected l sixth false number six h = rw six h

-- ---- step 7

-- data that carries an ACK: the expected number is delivered, and no other
pub data_taken_lem : (P : After Outcome → Type 0) (l : Link) (slots frame : List ℕ) (ms number acknowledged len : ℕ)
    → (number ≡ l.expected → P (concluded (silent (after_delivery (freed l acknowledged) ms) frame) done len slots))
    → ((number ≡ l.expected → ⊥) → P (concluded (sends_ack (freed l acknowledged) frame) unexpected 0 slots))
    → P (obeyed l slots frame ms (Data number false acknowledged len))
unfolding obeyed data_taken
data_taken_lem P l slots frame ms number acknowledged len same other =
    cond_both (eqb number l.expected) (concluded (silent (after_delivery (freed l acknowledged) ms) frame) done len slots) (concluded (sends_ack (freed l acknowledged) frame) unexpected 0 slots) P
    (λ e. same (eqb-true number l.expected e)) (λ e. other (eqb-false number l.expected e))

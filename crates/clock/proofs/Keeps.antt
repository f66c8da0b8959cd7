-- Looking at the clock and acknowledging keep an end's state sound.
use Rattle.std.proofs.Common.{Bool, true, false, List, ℕ, length}
use Rattle.base.specs.Answer.{done}
use Rattle.std.proofs.lemmas.Bool.{cond_both}
use Rattle.state.specs.declared.Link.{Link}
use Rattle.state.specs.declared.Outcome.{Outcome}
use Rattle.state.specs.State.{sent_before}
use Rattle.state.specs.Gate.{After, gate_of}
use Rattle.state.specs.Timer.{packet_due, acknowledge_due}
use Rattle.state.specs.Formed.{Sound}
use Rattle.state.proofs.Keeps.{marked_sound, gated_sound}
use Rattle.send.specs.Repeat.{may_repeat}
use Rattle.send.specs.Makers.{concluded, sends_repeat}
use Rattle.send.proofs.Keeps.{again_sound, ack_stopped_sound}
use Rattle.clock.specs.Look.{after_oldest, exhausted, served, acknowledged_if, looked_newer, looked_open, looked, acknowledged_now}

served_sound : (l : Link) (slots frame : List ℕ) (ms number : ℕ) → Sound l → Sound (served l slots frame ms number).told.state
served_sound l slots frame ms number s =
    cond_both (may_repeat l number) (concluded (sends_repeat l slots frame ms number) done 0 slots) (exhausted l slots frame) (λ (a : After Outcome). Sound a.told.state)
    (λ e. again_sound l number ms s e) (λ e. marked_sound l l.ackstart l.acking l.nakmark true s)

acknowledged_if_sound : (owed : Bool) (l : Link) (slots frame : List ℕ) → Sound l → Sound (acknowledged_if owed l slots frame).told.state
acknowledged_if_sound true l slots frame s = ack_stopped_sound l s
acknowledged_if_sound false l slots frame s = s

looked_newer_sound : (l : Link) (slots frame : List ℕ) (ms : ℕ) → Sound l → Sound (looked_newer l slots frame ms).told.state
looked_newer_sound l slots frame ms s =
    cond_both (packet_due l 0 ms) (served l slots frame ms (sent_before l 0)) (acknowledged_if (acknowledge_due l ms) l slots frame) (λ (a : After Outcome). Sound a.told.state)
    (λ e. served_sound l slots frame ms (sent_before l 0) s) (λ e. acknowledged_if_sound (acknowledge_due l ms) l slots frame s)

looked_open_sound : (l : Link) (slots frame : List ℕ) (ms : ℕ) → Sound l → Sound (looked_open l slots frame ms).told.state
unfolding looked_open
looked_open_sound l slots frame ms s =
    cond_both (packet_due l (after_oldest l) ms) (served l slots frame ms (sent_before l (after_oldest l))) (looked_newer l slots frame ms) (λ (a : After Outcome). Sound a.told.state)
    (λ e. served_sound l slots frame ms (sent_before l (after_oldest l)) s) (λ e. looked_newer_sound l slots frame ms s)

pub looked_sound : (l : Link) (slots frame : List ℕ) (ms : ℕ) → Sound l → Sound (looked l slots frame ms).told.outcome.state
unfolding looked
looked_sound l slots frame ms s =
    gated_sound (gate_of l (length slots) (length frame)) l slots frame (looked_open l slots frame ms) s (λ e. looked_open_sound l slots frame ms s)

pub acknowledged_now_sound : (l : Link) (slots frame : List ℕ) → Sound l → Sound (acknowledged_now l slots frame).told.state
unfolding acknowledged_now
acknowledged_now_sound l slots frame s =
    gated_sound (gate_of l (length slots) (length frame)) l slots frame (acknowledged_if l.acking l slots frame) s
    (λ e. acknowledged_if_sound l.acking l slots frame s)

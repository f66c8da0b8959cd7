-- Taking a frame keeps an end's state sound.
use Rattle.std.proofs.Common.{◌≡◌, refl, Bool, true, false, cond, ◌&&◌, List, ℕ, ◌+◌, ◌%◌, arith, length, eqb}
use Rattle.base.specs.Answer.{done, unexpected}
use Rattle.std.proofs.lemmas.Bool.{and_parts}
use Rattle.frame.specs.declared.Heard.{Heard}
use Rattle.frame.specs.declared.Heard.TheVariants.{Size, Sum, Code, ControlSize, Length, Reset, Ack, Nak, Data}
use Rattle.frame.specs.Steps.{heard}
use Rattle.state.specs.declared.Link.{Link}
use Rattle.state.specs.Gate.{gate_of}
use Rattle.state.specs.Formed.{Formed, Sound}
use Rattle.state.proofs.Facts.{well_formed_facts}
use Rattle.state.proofs.Keeps.{changed_sound, gated_sound, renewed_sound}
use Rattle.send.specs.Repeat.{may_repeat}
use Rattle.send.specs.Makers.{Sending, silent, concluded, sends_ack}
use Rattle.send.proofs.Keeps.{again_sound, ack_stopped_sound, sends_nak_sound}
use Rattle.receive.specs.Steps.{freed, repeatable, after_step6, after_delivery}
use Rattle.receive.specs.Take.{repeated_or, data_taken, obeyed, frame_taken}
use Rattle.receive.proofs.Facts.{freed_fewer}

pub freed_sound : (l : Link) (number : ℕ) → Sound l → Sound (freed l number)
freed_sound l number s =
    let f : Formed l = well_formed_facts l s.formed in
    changed_sound l l.starts l.repeated l.ackstart l.expected (freed l number).waiting l.acking l.nakmark l.lost s
    s.starts s.repeated f.expected (freed_fewer l number) f.repeated

after_step6_sound : (l : Link) (nak : Bool) (number : ℕ) → Sound l → Sound (after_step6 l nak number)
after_step6_sound l true number s = s
after_step6_sound l false number s = freed_sound l number s

pub after_delivery_sound : (l : Link) (ms : ℕ) → Sound l → Sound (after_delivery l ms)
after_delivery_sound l ms s =
    let f : Formed l = well_formed_facts l s.formed in
    changed_sound l l.starts l.repeated (cond l.acking l.ackstart ms) ((l.expected + 1) % 4) l.waiting true false l.lost s
    s.starts s.repeated (omega arith) (omega arith) f.repeated

-- a repeat or what would be sent otherwise
repeated_or_sound : (repeat : Bool) (l : Link) (slots frame : List ℕ) (ms number : ℕ) (otherwise : Sending) → Sound l
    → (repeat ≡ true → may_repeat l number ≡ true) → Sound otherwise.told.state
    → Sound (repeated_or repeat l slots frame ms number otherwise).told.state
repeated_or_sound true l slots frame ms number otherwise s m o = again_sound l number ms s (m refl)
repeated_or_sound false l slots frame ms number otherwise s m o = o

-- neither step 6 with a NAK nor step 7 touches what decides a repeat
sixth_repeats : (l : Link) (nak : Bool) (number : ℕ) → (nak && repeatable l number) ≡ true → may_repeat (after_step6 l nak number) number ≡ true
sixth_repeats l true number e = (and_parts _ _ e).1
sixth_repeats l false number e = cc

data_taken_sound : (l : Link) (slots frame : List ℕ) (ms number : ℕ) (nak : Bool) (acknowledged len : ℕ) → Sound l
    → Sound (data_taken l slots frame ms number nak acknowledged len).told.state
unfolding data_taken
data_taken_sound l slots frame ms number nak acknowledged len s = go (eqb number l.expected)
  where
    repeat : Bool
    repeat = nak && repeatable l acknowledged

    sixth : Link
    sixth = after_step6 l nak acknowledged

    seventh : Link
    seventh = after_delivery sixth ms

    go : (t : Bool)
        → Sound (cond t (concluded (repeated_or repeat seventh slots frame ms acknowledged (silent seventh frame)) done len slots)
        (concluded (repeated_or repeat sixth slots frame ms acknowledged (sends_ack sixth frame)) unexpected 0 slots)).told.state
    go true =
        let s7 : Sound seventh = after_delivery_sound sixth ms (after_step6_sound l nak acknowledged s) in
        repeated_or_sound repeat seventh slots frame ms acknowledged (silent seventh frame) s7 (sixth_repeats l nak acknowledged) s7
    go false =
        let s6 : Sound sixth = after_step6_sound l nak acknowledged s in
        repeated_or_sound repeat sixth slots frame ms acknowledged (sends_ack sixth frame) s6 (sixth_repeats l nak acknowledged) (ack_stopped_sound sixth s6)

obeyed_sound : (l : Link) (slots frame : List ℕ) (ms : ℕ) (h : Heard) → Sound l → Sound (obeyed l slots frame ms h).told.state
unfolding obeyed
obeyed_sound l slots frame ms Size s = sends_nak_sound l frame s
obeyed_sound l slots frame ms Sum s = sends_nak_sound l frame s
obeyed_sound l slots frame ms Code s = sends_nak_sound l frame s
obeyed_sound l slots frame ms ControlSize s = s
obeyed_sound l slots frame ms Length s = sends_nak_sound l frame s
obeyed_sound l slots frame ms Reset s = renewed_sound l s
obeyed_sound l slots frame ms (Ack number) s = freed_sound l number s
obeyed_sound l slots frame ms (Nak number) s =
    repeated_or_sound (repeatable l number) l slots frame ms number (silent l frame) s (λ o. (and_parts _ _ o).1) s
obeyed_sound l slots frame ms (Data number nak acknowledged len) s = data_taken_sound l slots frame ms number nak acknowledged len s

pub frame_taken_sound : (l : Link) (slots frame : List ℕ) (ms : ℕ) (received : List ℕ) → Sound l → Sound (frame_taken l slots frame ms received).told.state
unfolding frame_taken
frame_taken_sound l slots frame ms received s =
    gated_sound (gate_of l (length slots) (length frame)) l slots frame (obeyed l slots frame ms (heard l.settings.format received)) s
    (λ e. obeyed_sound l slots frame ms (heard l.settings.format received) s)

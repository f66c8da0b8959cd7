-- Every move keeps what holds, so it holds at every moment.
use Rattle.std.proofs.Common.{◌≡◌, refl, sym, ap, subst, ◌∙◌, Bool, true, false, cond, List, [], ◌∷◌, append-nil, ℕ, suc, ◌%◌, ◌+◌, ◌*◌, ◌≤◌, ◌<◌, max, arith, ne_eqb, length, get_or, eqb}
use Rattle.base.specs.Answer.{done, short_buffer, link_lost, unexpected}
use Rattle.base.specs.Buffer.{put}
use Rattle.base.proofs.Put.{put-length}
use Rattle.frame.specs.declared.Format.{Format}
use Rattle.frame.specs.declared.Heard.{Heard}
use Rattle.frame.specs.declared.Heard.TheVariants.{Size, Sum, Code, ControlSize, Length, Reset, Ack, Nak, Data}
use Rattle.frame.specs.Steps.{heard, packet_in, acknowledged_in, refusal_of}
use Rattle.frame.specs.Bytes.{data_frame}
use Rattle.frame.proofs.Writing.{frame_of-length}
use Rattle.frame.proofs.Hearing.{number_heard, data_heard, packet_heard}
use Rattle.state.specs.declared.Settings.{Settings}
use Rattle.state.specs.declared.Link.{Link}
use Rattle.state.specs.declared.Outcome.{Outcome}
use Rattle.state.specs.Fields.{with_lost}
use Rattle.state.specs.State.{last_correct, sent_before}
use Rattle.state.specs.Gate.{After, refused, gated, gate_of}
use Rattle.state.specs.Calls.{resynchronised}
use Rattle.state.specs.Formed.{InRange, Formed, Open}
use Rattle.state.proofs.Facts.{well_formed_facts, gate_of_facts, gated_cases}
use Rattle.state.proofs.Keeps.{marked_sound}
use Rattle.state.specs.Timer.{packet_due, acknowledge_due}
use Rattle.send.specs.Repeat.{part_of, may_repeat}
use Rattle.send.specs.Submit.{submit_gate, sent_first, packet_accepted, submitted}
use Rattle.send.specs.Makers.{silent, concluded, sends_ack, sends_repeat}
use Rattle.send.proofs.Facts.{Accepting, submit_gate_facts, part_fits}
use Rattle.send.proofs.Keeps.{sent_first_sound}
use Rattle.receive.specs.Steps.{freed, repeatable, after_delivery}
use Rattle.receive.specs.Take.{obeyed, frame_taken}
use Rattle.receive.proofs.Facts.{repeatable_holds, data_taken_lem}
use Rattle.clock.specs.Look.{after_oldest, exhausted, served, acknowledged_if, looked_open, looked, acknowledged_now}
use Rattle.clock.proofs.Facts.{due-waits}
use Rattle.link.proofs.Kept.{reset_refused}
use Rattle.link.specs.FalseEnds.{LookCall}
use Rattle.pair.specs.System as AnyLink
use Rattle.pair.specs.System.{Harm, IsClock, submit, take_head, look, acknowledge, resynchronise, harm}
use Rattle.pair.specs.Demand3.{FirstSoMany}
use Rattle.pair.specs.TrueCalls.{true_calls, with_look, System, sent_by, taken_by, delivered_by, left_by, called, submits, takes, looks, acknowledges, Moment}
use Rattle.pair.proofs.Moments.{moment_range, moment_holds}
use Rattle.pair.proofs.Line.{Line, data-next, ack-next, idle-next, Idle, by_size, by_sum, a-nak, line_taken, line_freed, line_mono}
use Rattle.pair.proofs.Invariant.{Inv, inv_swap, restated, delivering, adding, inv_turned, inv_passed, inv_freed, inv_delivered, inv_added, inv_harm, inv_start, inv_first, window_small}
use Rattle.pair.proofs.Calls.{heard_there, sent_frame, last_said, Before, concluded-silent, concluded_ack, concluded_nothing, concluded_nak, concluded-repeat}

-- ---- take

-- the system after a take that left a
abbrev taking : System → List ℕ → List (List ℕ) → After Outcome → System
taking S received rest a = called S a (left_by a received rest) [] (delivered_by a received)

-- a damaged frame or a NAK
idle_kept : (s : Settings) (S : System) (frame received : List ℕ) (rest : List (List ℕ)) (ms : ℕ) (h : Heard) → IsClock ms → InRange s → s.format.d ≤ length frame → Before s S rest
    → acknowledged_in h ≤ 3 → Idle h → Inv s (taking S received rest (obeyed S.here.state S.here.slots frame ms h))
unfolding obeyed
idle_kept s S frame received rest ms Size c r room I small by_size = concluded_nak s S frame rest (refusal_of Size) r (omega (arith, r.d_lo)) I
idle_kept s S frame received rest ms Sum c r room I small by_sum = concluded_nak s S frame rest (refusal_of Sum) r (omega (arith, r.d_lo)) I
idle_kept s S frame received rest ms (Nak k) c r room I small (a-nak k₁) = go (repeatable l k) refl
  where
    l : Link
    l = S.here.state

    go : (t : Bool) → repeatable l k ≡ t → Inv s (taking S received rest (concluded (cond t (sends_repeat l S.here.slots frame ms k) (silent l frame)) done 0 S.here.slots))
    go true e =
        repeatable_holds (λ n. Inv s (taking S received rest (concluded (sends_repeat l S.here.slots frame ms n) done 0 S.here.slots))) l k
        (well_formed_facts l I.here.sound.formed).next small e (λ j wait may. concluded-repeat s S j ms frame rest done c r room I wait may)
    go false e = concluded_nothing s S frame rest done I
idle_kept s S frame received rest ms Code c r room I small idle = elim idle [ ]
idle_kept s S frame received rest ms ControlSize c r room I small idle = elim idle [ ]
idle_kept s S frame received rest ms Length c r room I small idle = elim idle [ ]
idle_kept s S frame received rest ms Reset c r room I small idle = elim idle [ ]
idle_kept s S frame received rest ms (Ack k) c r room I small idle = elim idle [ ]
idle_kept s S frame received rest ms (Data n x k len) c r room I small idle = elim idle [ ]

-- data that is not the expected one
pass_kept : (s : Settings) (S : System) (frame received : List ℕ) (rest : List (List ℕ)) (x : ℕ) → InRange s → s.format.d ≤ length frame
    → Inv s (restated S (freed S.here.state ((x + 3) % 4)) rest)
    → Inv s (taking S received rest (concluded (sends_ack (freed S.here.state ((x + 3) % 4)) frame) unexpected 0 S.here.slots))
pass_kept s S frame received rest x r room I =
    concluded_ack s (restated S (freed S.here.state ((x + 3) % 4)) rest) frame rest unexpected r (omega (arith, r.d_lo)) I

-- a call that sent nothing and delivered a packet
called_delivering : (S : System) (l : Link) (frame received : List ℕ) (rest : List (List ℕ)) (len : ℕ) → 1 ≤ len
    → taking S received rest (concluded (silent l frame) done len S.here.slots) ≡ delivering S l rest (packet_in received len)
called_delivering S l frame received rest len h = rw (ne_eqb len 0 (λ q. omega arith), append-nil S.here.taken, append-nil S.there.queue)

-- data
data_kept : (s : Settings) (S : System) (frame received : List ℕ) (rest : List (List ℕ)) (ms f x len : ℕ) (I : Inv s S) → IsClock ms → InRange s → s.format.d ≤ length frame
    → packet_in received len ≡ get_or S.there.taken f [] → 1 ≤ len → I.got_here ≤ f + 2 → I.freed_here ≤ x
    → Line s.format S.there.taken (max I.got_here (suc f)) x I.got_there rest
    → Inv s (taking S received rest (obeyed S.here.state S.here.slots frame ms (Data (f % 4) false ((x + 3) % 4) len)))
data_kept s S frame received rest ms f x len I c r room p lo u v w =
    data_taken_lem (λ a. Inv s (taking S received rest a)) l S.here.slots frame ms (f % 4) ((x + 3) % 4) len same other
  where
    l : Link
    l = S.here.state

    g : ℕ
    g = I.got_here

    t : List (List ℕ)
    t = S.there.taken

    same : f % 4 ≡ l.expected → Inv s (taking S received rest (concluded (silent (after_delivery (freed l ((x + 3) % 4)) ms) frame) done len S.here.slots))
    same e =
        let few : S.there.state.waiting ≤ 2 = window_small s S.there S.here.taken I.freed_there I.got_there I.there in
        let more : max g (suc f) ≤ length t = line_taken s.format t rest w in
        let back : I.freed_there ≤ g = line_freed s.format S.here.taken S.there.queue I.to_there in
        let at : f ≡ g = omega (arith, I.here.expected, I.there.window) in
        let next : max g (suc f) ≡ suc g = omega arith in
        let packet : packet_in received len ≡ get_or t g [] = p ∙ ap (λ (k : ℕ). get_or t k []) at in
        subst (Inv s) (sym (called_delivering S (after_delivery (freed l ((x + 3) % 4)) ms) frame received rest len lo))
        (inv_delivered s S ms x rest (packet_in received len) I c v (omega arith) packet (subst (λ h. Line s.format t h x I.got_there rest) next w))

    other : (f % 4 ≡ l.expected → ⊥) → Inv s (taking S received rest (concluded (sends_ack (freed l ((x + 3) % 4)) frame) unexpected 0 S.here.slots))
    other n =
        pass_kept s S frame received rest x r room
        (inv_freed s S x rest I v (line_mono s.format t {h = max g (suc f)} {b = x} {e = I.got_there} {h₁ = g} {b₁ = x} {e₁ = I.got_there} rest (omega arith) (omega arith) (omega arith) w))

-- a control ACK
ack_kept : (s : Settings) (S : System) (frame received : List ℕ) (rest : List (List ℕ)) (ms x : ℕ) (I : Inv s S) → I.freed_here ≤ x
    → Line s.format S.there.taken I.got_here x I.got_there rest
    → Inv s (taking S received rest (obeyed S.here.state S.here.slots frame ms (Ack ((x + 3) % 4))))
unfolding obeyed
ack_kept s S frame received rest ms x I v w =
    concluded_nothing s (restated S (freed S.here.state ((x + 3) % 4)) rest) frame rest done (inv_freed s S x rest I v w)

-- whatever the head of the queue is
head_kept : (s : Settings) (S : System) (frame received : List ℕ) (rest : List (List ℕ)) (ms : ℕ) (I : Inv s S) → IsClock ms → InRange s → s.format.d ≤ length frame → Before s S rest
    → Line s.format S.there.taken I.got_here I.freed_here I.got_there (received ∷ rest)
    → Inv s (taking S received rest (obeyed S.here.state S.here.slots frame ms (heard s.format received)))
head_kept s S frame received rest ms I c r room J (data-next f x len m p lo u v w) =
    subst (λ h. Inv s (taking S received rest (obeyed S.here.state S.here.slots frame ms h))) (sym m) (data_kept s S frame received rest ms f x len I c r room p lo u v w)
head_kept s S frame received rest ms I c r room J (ack-next x m v w) =
    subst (λ h. Inv s (taking S received rest (obeyed S.here.state S.here.slots frame ms h))) (sym m) (ack_kept s S frame received rest ms x I v w)
head_kept s S frame received rest ms I c r room J (idle-next m w) = idle_kept s S frame received rest ms (heard s.format received) c r room J (number_heard s.format received) m

-- a call that refused: with 2 the frame is still there, else it is used up
refused_kept : (s : Settings) (S : System) (frame received : List ℕ) (rest : List (List ℕ)) (g : ℕ) → S.here.queue ≡ received ∷ rest → Inv s S
    → Inv s (taking S received rest (refused S.here.state g S.here.slots frame))
refused_kept s S frame received rest g e I = go (eqb g short_buffer)
  where
    go : (t : Bool) → Inv s (called S (refused S.here.state g S.here.slots frame) (cond t (received ∷ rest) rest) [] [])
    go true = concluded_nothing s S frame (received ∷ rest) g (subst (Before s S) e I)
    go false = concluded_nothing s S frame rest g (inv_passed s S received rest e I)

pub take_kept : (s : Settings) (S : System) (frame received : List ℕ) (rest : List (List ℕ)) (ms : ℕ) → IsClock ms → InRange s → S.here.queue ≡ received ∷ rest → Inv s S
    → Inv s (takes S frame ms received rest)
unfolding frame_taken
take_kept s S frame received rest ms c r e I =
    gated_cases (λ a. Inv s (taking S received rest a)) (gate_of l (length S.here.slots) (length frame)) l S.here.slots frame
    (obeyed l S.here.slots frame ms (heard l.settings.format received)) inside (λ n. refused_kept s S frame received rest (gate_of l (length S.here.slots) (length frame)) e I)
  where
    l : Link
    l = S.here.state

    same : l.settings.format ≡ s.format
    same = ap (λ (x : Settings). x.format) I.here.settings

    inside : gate_of l (length S.here.slots) (length frame) ≡ done → Inv s (taking S received rest (obeyed l S.here.slots frame ms (heard l.settings.format received)))
    inside q =
        let o : Open l (length S.here.slots) (length frame) = gate_of_facts l (length S.here.slots) (length frame) q in
        let room : s.format.d ≤ length frame = subst (λ (f : Format). f.d ≤ length frame) same o.entered.frame_room in
        subst (λ f. Inv s (taking S received rest (obeyed l S.here.slots frame ms (heard f received)))) (sym same)
        (head_kept s S frame received rest ms I c r room (inv_passed s S received rest e I) (subst (λ z. Line s.format S.there.taken I.got_here I.freed_here I.got_there z) e I.to_here))

-- ---- submit

accepted_kept : (s : Settings) (S : System) (frame packet : List ℕ) (ms : ℕ) → IsClock ms → InRange s → Inv s S → Accepting S.here.state (length S.here.slots) (length frame) (length packet)
    → Inv s (called S (packet_accepted S.here.state S.here.slots frame ms packet) S.here.queue (packet ∷ []) [])
accepted_kept s S frame packet ms c r I a =
    let l : Link = S.here.state in
    let bytes : List ℕ = data_frame l.settings.format l.next (last_correct l) packet in
    let size : length bytes ≡ length packet + 5 = frame_of-length l.settings.format (l.next * 4 + last_correct l) packet in
    let formed : Formed l = well_formed_facts l I.here.sound.formed in
    let d : l.settings.format.d ≡ s.format.d = ap (λ (x : Settings). x.format.d) I.here.settings in
    let said : last_correct l ≡ (I.got_here + 3) % 4 = last_said s S.here S.there.taken I.freed_here I.got_here I.here in
    let fits : part_of l l.next + length packet ≤ length S.here.slots = part_fits l l.next (length packet) (length S.here.slots) (length frame) a.gate a.most in
    let sent : sent_by (packet_accepted l S.here.slots frame ms packet) ≡ bytes ∷ [] =
    sent_frame (sent_first l ms (length packet)) bytes frame (put S.here.slots (part_of l l.next) packet) done 0 (omega arith) (omega (arith, a.most, a.gate.entered.frame_room, r.d_lo)) in
    let whole : called S (packet_accepted l S.here.slots frame ms packet) S.here.queue (packet ∷ []) []
    ≡ adding S (sent_first l ms (length packet)) (put S.here.slots (part_of l l.next) packet) packet (bytes ∷ []) = rw (sent, append-nil S.here.delivered) in
    let heard-as : heard s.format bytes ≡ Data l.next false ((I.got_here + 3) % 4) (length packet) =
    heard_there s l (λ f. data_frame f l.next (last_correct l) packet) _ I.here.settings
    (data_heard s.format l.next (last_correct l) packet formed.next (omega arith) a.least (omega (arith, a.most, r.d_lo))) ∙ ap (λ (k : ℕ). Data l.next false k (length packet)) said in
    subst (Inv s) (sym whole)
    (inv_added s S packet bytes ms I c
    (sent_first_sound l ms (length S.here.slots) (length frame) (length packet) I.here.sound a)
    a.least a.most a.place (put-length S.here.slots packet (part_of l l.next) fits) heard-as (packet_heard l.settings.format l.next (last_correct l) packet))

submit_kept : (s : Settings) (S : System) (frame packet : List ℕ) (ms : ℕ) → IsClock ms → InRange s → Inv s S → Inv s (submits S frame ms packet)
unfolding submitted
submit_kept s S frame packet ms c r I =
    gated_cases (λ a. Inv s (called S a S.here.queue (taken_by a packet) [])) g l S.here.slots frame (packet_accepted l S.here.slots frame ms packet)
    (λ e. accepted_kept s S frame packet ms c r I (submit_gate_facts l (length S.here.slots) (length frame) (length packet) e)) shut
  where
    l : Link
    l = S.here.state

    g : ℕ
    g = submit_gate l (length S.here.slots) (length frame) (length packet)

    shut : (g ≡ done → ⊥) → Inv s (called S (refused l g S.here.slots frame) S.here.queue (cond (eqb g done) (packet ∷ []) []) [])
    shut n = rw (ne_eqb g done n) (concluded_nothing s S frame S.here.queue g I)

-- ---- look and acknowledge

served_kept : (s : Settings) (S : System) (frame : List ℕ) (j ms : ℕ) → IsClock ms → InRange s → s.format.d ≤ length frame → Inv s S → j < S.here.state.waiting
    → Inv s (called S (served S.here.state S.here.slots frame ms (sent_before S.here.state j)) S.here.queue [] [])
served_kept s S frame j ms c r room I h = go (may_repeat l (sent_before l j)) refl
  where
    l : Link
    l = S.here.state

    go : (t : Bool) → may_repeat l (sent_before l j) ≡ t
        → Inv s (called S (cond t (concluded (sends_repeat l S.here.slots frame ms (sent_before l j)) done 0 S.here.slots) (exhausted l S.here.slots frame)) S.here.queue [] [])
    go true e = concluded-repeat s S j ms frame S.here.queue done c r room I h e
    go false e = concluded-silent s S (with_lost l true) frame S.here.queue link_lost
        (inv_turned s S l.starts l.repeated l.ackstart l.acking l.nakmark true [] I (marked_sound l l.ackstart l.acking l.nakmark true I.here.sound) I.here.timed (rw append-nil I.to_there))

acknowledged_kept : (s : Settings) (S : System) (frame : List ℕ) (owed : Bool) → InRange s → s.format.d ≤ length frame → Inv s S
    → Inv s (called S (acknowledged_if owed S.here.state S.here.slots frame) S.here.queue [] [])
acknowledged_kept s S frame true r room I = concluded_ack s S frame S.here.queue done r (omega (arith, r.d_lo)) I
acknowledged_kept s S frame false r room I = concluded_nothing s S frame S.here.queue done I

looked_open_kept : (s : Settings) (S : System) (frame : List ℕ) (ms : ℕ) → IsClock ms → InRange s → s.format.d ≤ length frame → Inv s S
    → Inv s (called S (looked_open S.here.state S.here.slots frame ms) S.here.queue [] [])
unfolding looked_open
looked_open_kept s S frame ms c r room I = go (packet_due l (after_oldest l) ms) (packet_due l 0 ms) refl refl
  where
    l : Link
    l = S.here.state

    go : (first second : Bool) → packet_due l (after_oldest l) ms ≡ first → packet_due l 0 ms ≡ second
        → Inv s (called S (cond first (served l S.here.slots frame ms (sent_before l (after_oldest l)))
        (cond second (served l S.here.slots frame ms (sent_before l 0)) (acknowledged_if (acknowledge_due l ms) l S.here.slots frame))) S.here.queue [] [])
    go true second e e₁ = served_kept s S frame (after_oldest l) ms c r room I (due-waits l (after_oldest l) ms e)
    go false true e e₁ = served_kept s S frame 0 ms c r room I (due-waits l 0 ms e₁)
    go false false e e₁ = acknowledged_kept s S frame (acknowledge_due l ms) r room I

-- behind the gate 1, 2, 3, with a queue that stays
open_kept : (s : Settings) (S : System) (frame : List ℕ) (inside : After Outcome) → Inv s S
    → (s.format.d ≤ length frame → Inv s (called S inside S.here.queue [] []))
    → Inv s (called S (gated (gate_of S.here.state (length S.here.slots) (length frame)) S.here.state S.here.slots frame inside) S.here.queue [] [])
open_kept s S frame inside I f =
    gated_cases (λ a. Inv s (called S a S.here.queue [] [])) (gate_of l (length S.here.slots) (length frame)) l S.here.slots frame inside
    (λ q. f (subst (λ (x : Settings). x.format.d ≤ length frame) I.here.settings (gate_of_facts l (length S.here.slots) (length frame) q).entered.frame_room))
    (λ n. concluded_nothing s S frame S.here.queue (gate_of l (length S.here.slots) (length frame)) I)
  where
    l : Link
    l = S.here.state

pub look_kept : (s : Settings) (S : System) (frame : List ℕ) (ms : ℕ) → IsClock ms → InRange s → Inv s S → Inv s (looks S frame ms)
unfolding looked
look_kept s S frame ms c r I = open_kept s S frame (looked_open S.here.state S.here.slots frame ms) I (λ room. looked_open_kept s S frame ms c r room I)

acknowledge_kept : (s : Settings) (S : System) (frame : List ℕ) → InRange s → Inv s S → Inv s (acknowledges S frame)
unfolding acknowledged_now
acknowledge_kept s S frame r I =
    open_kept s S frame (acknowledged_if S.here.state.acking S.here.state S.here.slots frame) I (λ room. acknowledged_kept s S frame S.here.state.acking r room I)

-- a resynchronise that is refused
reset_kept : (s : Settings) (S : System) (frame : List ℕ) → ((resynchronised S.here.state S.here.slots frame).told.answer ≡ done → ⊥) → Inv s S
    → Inv s (called S (resynchronised S.here.state S.here.slots frame) S.here.queue [] [])
reset_kept s S frame n I =
    subst (λ (a : After Outcome). Inv s (called S a S.here.queue [] [])) (sym (reset_refused S.here.state S.here.slots frame n))
    (concluded_nothing s S frame S.here.queue (resynchronised S.here.state S.here.slots frame).told.answer I)

-- ---- every move, every moment

-- of the true link, or of one that looks in another way
move_kept : (call : LookCall) (s : Settings) → InRange s → ((S : System) (frame : List ℕ) (ms : ℕ) → IsClock ms → Inv s S → Inv s (AnyLink.looks (with_look call) S frame ms))
    → (S T : System) → AnyLink.Move (with_look call) S T → Inv s S → Inv s T
move_kept call s r f S T (submit frame packet ms c) I = submit_kept s S frame packet ms c r I
move_kept call s r f S T (take_head frame received rest ms c e) I = take_kept s S frame received rest ms c r e I
move_kept call s r f S T (look frame ms c) I = f S frame ms c I
move_kept call s r f S T (acknowledge frame) I = acknowledge_kept s S frame r I
move_kept call s r f S T (resynchronise frame n) I = reset_kept s S frame n I
move_kept call s r f S T (harm queue k) I = inv_harm s S queue (subst (λ (x : Settings). Harm x.format S.here.queue queue) I.here.settings k) I

pub moment_holds_by : (call : LookCall) (s : Settings) (S : System)
    → (InRange s → (S : System) (frame : List ℕ) (ms : ℕ) → IsClock ms → Inv s S → Inv s (AnyLink.looks (with_look call) S frame ms)) → AnyLink.Moment (with_look call) s S → Inv s S
moment_holds_by call s S f m =
    let r : InRange s = moment_range s S m in
    moment_holds (with_look call) s (Inv s) (inv_swap s) (λ slots slots2 h k. inv_start s slots slots2 r h k) (move_kept call s r (f r)) S m

pub moment_kept : (s : Settings) (S : System) → Moment s S → Inv s S
moment_kept s S m = moment_holds_by looked s S (λ r S frame ms c I. look_kept s S frame ms c r I) m

pub first_so_many : FirstSoMany true_calls
first_so_many s S m = inv_first s S (moment_kept s S m)

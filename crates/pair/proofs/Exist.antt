-- Rounds can always be played.
use Rattle.std.proofs.Common.{◌≡◌, refl, sym, ap, subst, Bool, true, false, cond, not, ◌&&◌, List, [], ◌∷◌, ◌++◌, ℕ, zero, suc, ◌%◌, ◌+◌, ◌*◌, ◌≤◌, ◌<◌, arith, eqb-true, length, eqb, ltb}
use Rattle.std.proofs.lemmas.Bool.{eqb-false, cond_both}
use Rattle.base.specs.Answer.{done, out_of_range, link_lost, unexpected, short_buffer}
use Rattle.frame.specs.declared.Format.{Format}
use Rattle.frame.specs.declared.Heard.{Heard}
use Rattle.frame.specs.declared.Heard.TheVariants.{Size, Sum, Code, ControlSize, Length, Reset, Ack, Nak, Data}
use Rattle.frame.specs.Bytes.{ack_frame, nak_frame}
use Rattle.frame.specs.Steps.{heard, acknowledged_in, refusal_of}
use Rattle.frame.proofs.Writing.{frame_of-length}
use Rattle.frame.proofs.Hearing.{ack_heard, nak_heard, number_heard}
use Rattle.state.specs.declared.Settings.{Settings}
use Rattle.state.specs.declared.Link.{Link}
use Rattle.state.specs.declared.Outcome.{Outcome}
use Rattle.state.specs.Bounds.{in_range, slots_need, frame_need}
use Rattle.state.specs.State.{last_correct, sent_before, fresh_of}
use Rattle.state.specs.Gate.{After, only, gated, gate_of}
use Rattle.state.specs.Calls.{zeros, started}
use Rattle.state.specs.Timer.{onward}
use Rattle.state.specs.Formed.{InRange}
use Rattle.state.proofs.Facts.{well_formed_facts}
use Rattle.state.proofs.Keeps.{sound_gate}
use Rattle.send.specs.Repeat.{packet_of}
use Rattle.send.specs.Makers.{silent, concluded, sends, ack_stopped, marked, sends_repeat, sends_nak}
use Rattle.receive.specs.Steps.{freed, repeatable, after_delivery}
use Rattle.receive.specs.Take.{obeyed, frame_taken}
use Rattle.receive.proofs.Facts.{repeatable_holds, data_taken_lem}
use Rattle.pair.specs.System.{swap, IsClock}
use Rattle.pair.specs.Round.{due_at, head, none, here, there, carried_in, nothing, sends-on, round, begin, next}
use Rattle.pair.specs.Demand3.{RoundsExist, Demand3, CarryingEnds}
use Rattle.pair.specs.TrueCalls.{true_calls, StartsFresh, System, sent_by, left_by, takes, look_of, looks, Enough, Carried, Carries, Looks, Round, Rounds}
use Rattle.pair.proofs.Line.{Line, data-next, ack-next, idle-next, Idle, by_size, by_sum, a-nak}
use Rattle.pair.proofs.Invariant.{Inv, inv_swap}
use Rattle.pair.proofs.Calls.{heard_there, sent_frame, repeat_of, repeat_size, repeat-heard}
use Rattle.pair.proofs.Moments.{moment_range}
use Rattle.pair.proofs.Moves.{moment_kept, first_so_many}
use Rattle.pair.proofs.Measure.{bit, weight, CalmLook}
use Rattle.pair.proofs.Timers.{Moved, moved}
use Rattle.pair.proofs.Falls.{carried_falls, look_does, look_falls, onward-clock, within_24}

-- ---- what a frame costs: it is answered by a cheaper one, if at all

abbrev pub cost : Heard → ℕ
cost (Ack k) = 1
cost (Data number nak k len) = 2
cost (Nak k) = 3
cost Size = 4
cost Sum = 4
cost Code = 4
cost ControlSize = 4
cost Length = 4
cost Reset = 4

pub cost_range : (h : Heard) → (1 ≤ cost h) × (cost h ≤ 4)
cost_range (Ack k) = omega arith
cost_range (Data number nak k len) = omega arith
cost_range (Nak k) = omega arith
cost_range Size = omega arith
cost_range Sum = omega arith
cost_range Code = omega arith
cost_range ControlSize = omega arith
cost_range Length = omega arith
cost_range Reset = omega arith

abbrev pub load : Format → List (List ℕ) → ℕ
load format [] = 0
load format (x ∷ q) = cost (heard format x) + load format q

pub load_append : (format : Format) (p q : List (List ℕ)) → load format (p ++ q) ≡ load format p + load format q
load_append format [] q = omega arith
load_append format (x ∷ p) q = omega (arith, load_append format p q)

pub load_most : (format : Format) (q : List (List ℕ)) → load format q ≤ 4 * length q
load_most format [] = omega arith
load_most format (x ∷ q) = omega (arith, (cost_range (heard format x)).1, load_most format q)

-- of both queues
abbrev pub loads : Format → System → ℕ
loads format S = load format S.here.queue + load format S.there.queue

-- a take that used its frame up, and answered with less
pub record Used (format : Format) (h : Heard) (a : After Outcome) : Type 0 where
  pub less : load format (sent_by a) + 1 ≤ cost h
  pub gone : eqb a.told.answer short_buffer ≡ false

pub used_nothing : (format : Format) (h : Heard) (l : Link) (slots frame : List ℕ) (answer delivered : ℕ) → eqb answer short_buffer ≡ false → Used format h (concluded (silent l frame) answer delivered slots)
used_nothing format h l slots frame answer delivered e = record { less = omega (arith, (cost_range h).0); gone = e }

pub used_sent : (format : Format) (h reply : Heard) (l : Link) (bytes slots frame : List ℕ) (answer delivered : ℕ) → eqb answer short_buffer ≡ false → 1 ≤ length bytes → length bytes ≤ length frame
    → heard format bytes ≡ reply → cost reply + 1 ≤ cost h → Used format h (concluded (sends l bytes frame) answer delivered slots)
used_sent format h reply l bytes slots frame answer delivered e lo hi m c =
    record { less = rw (sent_frame l bytes frame slots answer delivered lo hi, m) (omega arith); gone = e }

-- ---- each kind of frame

pub used_nak : (s : Settings) (h : Heard) (l : Link) (slots frame : List ℕ) (answer : ℕ) → InRange s → s.format.d ≤ length frame → l.settings ≡ s → cost h ≡ 4
    → eqb answer short_buffer ≡ false → Used s.format h (concluded (sends_nak l frame) answer 0 slots)
used_nak s h l slots frame answer r room same four e = go l.nakmark
  where
    k : ℕ
    k = (last_correct l + 1) % 4

    small : k ≤ 3
    small = omega arith

    size : length (nak_frame l.settings.format k) ≡ 5
    size = frame_of-length l.settings.format (0xA0 + k) []

    go : (t : Bool) → Used s.format h (concluded (cond t (silent l frame) (sends (marked l) (nak_frame l.settings.format k) frame)) answer 0 slots)
    go true = used_nothing s.format h l slots frame answer 0 e
    go false = used_sent s.format h (Nak k) (marked l) (nak_frame l.settings.format k) slots frame answer 0 e (omega (arith, size)) (omega (arith, size, r.d_lo))
        (heard_there s l (λ f. nak_frame f k) _ same (nak_heard s.format k (omega (arith, small)) (omega (arith, r.d_lo)))) (omega (arith, four))

pub used-idle : (s : Settings) (S : System) (frame : List ℕ) (ms : ℕ) (h : Heard) → InRange s → Inv s S → s.format.d ≤ length frame → acknowledged_in h ≤ 3 → Idle h
    → Used s.format h (obeyed S.here.state S.here.slots frame ms h)
unfolding obeyed
used-idle s S frame ms Size r I room small by_size = used_nak s Size S.here.state S.here.slots frame (refusal_of Size) r room I.here.settings refl refl
used-idle s S frame ms Sum r I room small by_sum = used_nak s Sum S.here.state S.here.slots frame (refusal_of Sum) r room I.here.settings refl refl
used-idle s S frame ms (Nak k) r I room small (a-nak k₁) = go (repeatable l k) refl
  where
    l : Link
    l = S.here.state

    repeated : (j : ℕ) → j < l.waiting → Used s.format (Nak k) (concluded (sends_repeat l S.here.slots frame ms (sent_before l j)) done 0 S.here.slots)
    repeated j wait =
        let packet : List ℕ = packet_of l S.here.slots (sent_before l j) in
        let size : (1 ≤ length (repeat_of S.here j)) × (length (repeat_of S.here j) ≤ s.format.d) =
        repeat_size s S.here S.there.taken I.freed_here I.got_here j r I.here wait in
        used_sent s.format (Nak k) (Data (sent_before l j) false (last_correct l) (length packet)) _ (repeat_of S.here j) S.here.slots frame done 0 refl size.0 (omega (arith, size.1, room))
        (repeat-heard s S.here S.there.taken I.freed_here I.got_here j r I.here wait) (omega arith)

    go : (t : Bool) → repeatable l k ≡ t → Used s.format (Nak k) (concluded (cond t (sends_repeat l S.here.slots frame ms k) (silent l frame)) done 0 S.here.slots)
    go true e =
        repeatable_holds (λ n. Used s.format (Nak k) (concluded (sends_repeat l S.here.slots frame ms n) done 0 S.here.slots)) l k
        (well_formed_facts l I.here.sound.formed).next small e (λ j wait may. repeated j wait)
    go false e = used_nothing s.format (Nak k) l S.here.slots frame done 0 refl
used-idle s S frame ms Code r I room small idle = elim idle [ ]
used-idle s S frame ms ControlSize r I room small idle = elim idle [ ]
used-idle s S frame ms Length r I room small idle = elim idle [ ]
used-idle s S frame ms Reset r I room small idle = elim idle [ ]
used-idle s S frame ms (Ack k) r I room small idle = elim idle [ ]
used-idle s S frame ms (Data n x k len) r I room small idle = elim idle [ ]

pub used_data : (s : Settings) (l : Link) (slots frame : List ℕ) (ms number k len : ℕ) → InRange s → s.format.d ≤ length frame → l.settings ≡ s
    → Used s.format (Data number false k len) (obeyed l slots frame ms (Data number false k len))
used_data s l slots frame ms number k len r room same =
    data_taken_lem (λ a. Used s.format (Data number false k len) a) l slots frame ms number k len
    (λ e. used_nothing s.format (Data number false k len) (after_delivery six ms) slots frame done len refl)
    (λ n. used_sent s.format (Data number false k len) (Ack (last_correct six)) (ack_stopped six) (ack_frame six.settings.format (last_correct six)) slots frame unexpected 0 refl (omega (arith, size)) (omega (arith, size, r.d_lo))
    (heard_there s six (λ f. ack_frame f (last_correct six)) _ same (ack_heard s.format (last_correct six) (omega arith) (omega (arith, r.d_lo)))) (omega arith))
  where
    six : Link
    six = freed l k

    size : length (ack_frame six.settings.format (last_correct six)) ≡ 5
    size = frame_of-length six.settings.format (0x80 + last_correct six) []

pub used_ack : (s : Settings) (l : Link) (slots frame : List ℕ) (ms k : ℕ) → Used s.format (Ack k) (obeyed l slots frame ms (Ack k))
unfolding obeyed
used_ack s l slots frame ms k = used_nothing s.format (Ack k) (freed l k) slots frame done 0 refl

pub used_head : (s : Settings) (S : System) (frame received : List ℕ) (rest : List (List ℕ)) (ms : ℕ) (t : List (List ℕ)) (h b e : ℕ) → InRange s → Inv s S → s.format.d ≤ length frame
    → Line s.format t h b e (received ∷ rest) → Used s.format (heard s.format received) (obeyed S.here.state S.here.slots frame ms (heard s.format received))
used_head s S frame received rest ms t h b e r I room (data-next f x len m p lo u v w) =
    subst (λ y. Used s.format y (obeyed S.here.state S.here.slots frame ms y)) (sym m) (used_data s S.here.state S.here.slots frame ms (f % 4) ((x + 3) % 4) len r room I.here.settings)
used_head s S frame received rest ms t h b e r I room (ack-next x m v w) =
    subst (λ y. Used s.format y (obeyed S.here.state S.here.slots frame ms y)) (sym m) (used_ack s S.here.state S.here.slots frame ms ((x + 3) % 4))
used_head s S frame received rest ms t h b e r I room (idle-next m w) = used-idle s S frame ms (heard s.format received) r I room (number_heard s.format received) m

pub used-take : (s : Settings) (S : System) (frame received : List ℕ) (rest : List (List ℕ)) (ms : ℕ) → InRange s → Inv s S → Enough S frame → S.here.queue ≡ received ∷ rest
    → Used s.format (heard s.format received) (frame_taken S.here.state S.here.slots frame ms received)
unfolding frame_taken
used-take s S frame received rest ms r I enough e =
    subst (λ g. Used s.format (heard s.format received) (gated g l S.here.slots frame (obeyed l S.here.slots frame ms (heard l.settings.format received)))) (sym gate) (go l.lost)
  where
    l : Link
    l = S.here.state

    same : l.settings.format ≡ s.format
    same = ap (λ (x : Settings). x.format) I.here.settings

    slots_room : slots_need l.settings ≤ length S.here.slots
    slots_room = rw I.here.settings I.here.room

    gate : gate_of l (length S.here.slots) (length frame) ≡ cond l.lost link_lost done
    gate = sound_gate l (length S.here.slots) (length frame) I.here.sound slots_room enough

    room : s.format.d ≤ length frame
    room = subst (λ (f : Format). f.d ≤ length frame) same enough

    go : (t : Bool) → Used s.format (heard s.format received) (gated (cond t link_lost done) l S.here.slots frame (obeyed l S.here.slots frame ms (heard l.settings.format received)))
    go true = used_nothing s.format (heard s.format received) l S.here.slots frame link_lost 0 refl
    go false = subst (λ f. Used s.format (heard s.format received) (obeyed l S.here.slots frame ms (heard f received))) (sym same)
        (used_head s S frame received rest ms S.there.taken I.got_here I.freed_here I.got_there r I room (subst (λ z. Line s.format S.there.taken I.got_here I.freed_here I.got_there z) e I.to_here))

-- ---- carrying ends

-- a frame buffer that is long enough
unfoldable pub blank : ℕ → List ℕ
blank zero = []
blank (suc n) = 0 ∷ blank n

pub blank_length : (n : ℕ) → length (blank n) ≡ n
unfolding blank
blank_length zero = refl
blank_length (suc n) = ap suc (blank_length n)

pub enough : (S : System) → Enough S (blank (frame_need S.here.state.settings))
enough S = omega (arith, blank_length (frame_need S.here.state.settings))

pub record Emptied (s : Settings) (ms : ℕ) (S : System) : Type 0 where
  pub end : System
  pub carries : Carries ms S end
  pub inv : Inv s end
  pub no_here : end.here.queue ≡ []
  pub no_there : end.there.queue ≡ []

-- the frame at the head is taken, and the load falls
pub carried_less : (s : Settings) (ms : ℕ) (S T : System) → InRange s → Inv s S → Carried ms S T → loads s.format T + 1 ≤ loads s.format S
carried_less s ms S T r I (head frame received rest room e) =
    let a : After Outcome = frame_taken S.here.state S.here.slots frame ms received in
    let u : Used s.format (heard s.format received) a = used-take s S frame received rest ms r I room e in
    let left : left_by a received rest ≡ rest = rw u.gone in
    omega (arith, u.less, ap (load s.format) left, ap (load s.format) e, load_append s.format S.there.queue (sent_by a))

pub record Stepped (s : Settings) (ms : ℕ) (S : System) : Type 0 where
  pub end : System
  pub carried : Carried ms S end
  pub inv : Inv s end
  pub less : loads s.format end + 1 ≤ loads s.format S

unfoldable pub stepped : (s : Settings) (S : System) (ms : ℕ) (received : List ℕ) (rest : List (List ℕ)) → IsClock ms → InRange s → Inv s S → S.here.queue ≡ received ∷ rest → Stepped s ms S
stepped s S ms received rest c r I e =
    let frame : List ℕ = blank (frame_need S.here.state.settings) in
    let k : Carried ms S (takes S frame ms received rest) = head frame received rest (enough S) e in
    record {
      end = takes S frame ms received rest;
      carried = k;
      inv = (carried_falls s ms S (takes S frame ms received rest) c r I k).inv;
      less = carried_less s ms S (takes S frame ms received rest) r I k;
    }

-- a frame of either queue is carried, if there is one, and then more
unfoldable pub emptied_by : (s : Settings) (ms : ℕ) (S : System) → IsClock ms → InRange s → Inv s S
    → ((T : System) → Inv s T → loads s.format T + 1 ≤ loads s.format S → Emptied s ms T) → Emptied s ms S
emptied_by s ms S c r I more = go S.here.queue S.there.queue refl refl
  where
    go : (p q : List (List ℕ)) → S.here.queue ≡ p → S.there.queue ≡ q → Emptied s ms S
    go [] [] ep eq = record { end = S; carries = none S; inv = I; no_here = ep; no_there = eq }
    go (x ∷ p) q ep eq =
        let k : Stepped s ms S = stepped s S ms x p c r I ep in
        let m : Emptied s ms k.end = more k.end k.inv k.less in
        record { end = m.end; carries = here S k.end m.end k.carried m.carries; inv = m.inv; no_here = m.no_here; no_there = m.no_there }
    go [] (x ∷ q) ep eq =
        let k : Stepped s ms (swap S) = stepped s (swap S) ms x q c r (inv_swap s S I) eq in
        let m : Emptied s ms (swap k.end) = more (swap k.end) (inv_swap s k.end k.inv) (omega (arith, k.less)) in
        record { end = m.end; carries = there S (swap k.end) m.end k.carried m.carries; inv = m.inv; no_here = m.no_here; no_there = m.no_there }

unfoldable pub emptied : (s : Settings) (n ms : ℕ) (S : System) → IsClock ms → InRange s → Inv s S → loads s.format S ≤ n → Emptied s ms S
emptied s zero ms S c r I h = emptied_by s ms S c r I (λ T J less. absurd (omega (arith, less)))
emptied s (suc n) ms S c r I h = emptied_by s ms S c r I (λ T J less. emptied s n ms T c r J (omega (arith, less)))

-- ---- looking ends

pub record Watched (s : Settings) (ms : ℕ) (S : System) : Type 0 where
  pub end : System
  pub looks_so : Looks ms S end
  pub inv : Inv s end

-- one look, and more where it sent
unfoldable pub watched_by : (s : Settings) (ms : ℕ) (S : System) → IsClock ms → InRange s → Inv s S
    → ((T : System) → Inv s T → weight T.here.state + 1 ≤ weight S.here.state → Watched s ms T) → Watched s ms S
watched_by s ms S c r I more = go (eqb (look_of S frame ms).told.sent 0) refl
  where
    frame : List ℕ
    frame = blank (frame_need S.here.state.settings)

    k : CalmLook S.here.state (look_of S frame ms) (due_at S.here.state ms && not S.here.state.lost)
    k = look_does s S frame ms I (enough S)

    J : Inv s (looks S frame ms)
    J = (look_falls s S frame ms c r I (enough S)).inv

    go : (t : Bool) → eqb (look_of S frame ms).told.sent 0 ≡ t → Watched s ms S
    go true e = record { end = looks S frame ms; looks_so = nothing S frame (enough S) (eqb-true (look_of S frame ms).told.sent 0 e); inv = J }
    go false e =
        let m : Watched s ms (looks S frame ms) = more (looks S frame ms) J (omega (arith, k.low, ap (λ (t : Bool). bit (not t)) e)) in
        record { end = m.end; looks_so = sends-on S m.end frame (enough S) (eqb-false (look_of S frame ms).told.sent 0 e) m.looks_so; inv = m.inv }

unfoldable pub watched : (s : Settings) (n ms : ℕ) (S : System) → IsClock ms → InRange s → Inv s S → weight S.here.state ≤ n → Watched s ms S
watched s zero ms S c r I h = watched_by s ms S c r I (λ T J less. absurd (omega (arith, less)))
watched s (suc n) ms S c r I h = watched_by s ms S c r I (λ T J less. watched s n ms T c r J (omega (arith, less)))

-- ---- rounds

pub record ARound (s : Settings) (ms : ℕ) (S : System) : Type 0 where
  pub end : System
  pub passed : ℕ
  pub turn : Round ms S passed end
  pub inv : Inv s end

unfoldable pub a_round : (s : Settings) (S : System) (ms : ℕ) → IsClock ms → InRange s → Inv s S → ARound s ms S
a_round s S ms c r I =
    let k : Emptied s ms S = emptied s (loads s.format S) ms S c r I (omega arith) in
    let t : Moved k.end ms = moved s k.end ms r k.inv c in
    let now : ℕ = onward ms t.passed in
    let a : Watched s now k.end = watched s (weight k.end.here.state) now k.end (onward-clock ms t.passed) r k.inv (omega arith) in
    let b : Watched s now (swap a.end) = watched s (weight a.end.there.state) now (swap a.end) (onward-clock ms t.passed) r (inv_swap s a.end a.inv) (omega arith) in
    record {
      end = swap b.end;
      passed = t.passed;
      turn = round S k.end a.end (swap b.end) t.passed k.carries k.no_here k.no_there t.passes a.looks_so b.looks_so;
      inv = inv_swap s b.end b.inv;
    }

pub record Led (s : Settings) (ms : ℕ) (S : System) (n : ℕ) : Type 0 where
  pub end : System
  pub total : ℕ
  pub rounds : Rounds ms S n total end
  pub inv : Inv s end

unfoldable pub led : (s : Settings) (S : System) (ms n : ℕ) → IsClock ms → InRange s → Inv s S → Led s ms S n
led s S ms zero c r I = record { end = S; total = 0; rounds = begin; inv = I }
led s S ms (suc n) c r I =
    let k : Led s ms S n = led s S ms n c r I in
    let a : ARound s (onward ms k.total) k.end = a_round s k.end (onward ms k.total) (onward-clock ms k.total) r k.inv in
    record { end = a.end; total = k.total + a.passed; rounds = next n k.total a.passed k.end a.end k.rounds a.turn; inv = a.inv }

unfoldable pub rounds_exist : RoundsExist true_calls
rounds_exist s S ms n m c =
    let k : Led s ms S n = led s S ms n c (moment_range s S m) (moment_kept s S m) in
    record { end = k.end; total = k.total; rounds = k.rounds }

-- ---- carrying ends in every mixture

pub carries_load : (s : Settings) (ms : ℕ) (S T : System) → IsClock ms → InRange s → Inv s S → (k : Carries ms S T)
    → carried_in k + loads s.format T ≤ loads s.format S
carries_load s ms S T c r I (none S₁) = omega arith
carries_load s ms S U c r I (here S₁ T U₁ k rest) =
    omega (arith, carried_less s ms S T r I k, carries_load s ms T U c r (carried_falls s ms S T c r I k).inv rest)
carries_load s ms S U c r I (there S₁ T U₁ k rest) =
    let J : Inv s (swap S) = inv_swap s S I in
    omega (arith, carried_less s ms (swap S) (swap T) r J k, carries_load s ms T U c r (inv_swap s (swap T) (carried_falls s ms (swap S) (swap T) c r J k).inv) rest)

pub carrying_ends : CarryingEnds true_calls
carrying_ends s S T ms m c k =
    omega (arith, carries_load s ms S T c (moment_range s S m) (moment_kept s S m) k, load_most s.format S.here.queue, load_most s.format S.there.queue)

pub demand_3 : Demand3 true_calls
demand_3 = record { first = first_so_many; within = within_24; exist = rounds_exist }

pub starts_fresh : StartsFresh
unfolding started
starts_fresh s slots =
    let Fresh : Outcome → Type 0 = λ o. o.answer ≡ done → o.state ≡ fresh_of s in
    cond_both (not (in_range s)) (only zeros out_of_range) _ Fresh (λ e q. absurd (omega (arith, q)))
    (λ e. cond_both (ltb slots (slots_need s)) (only zeros short_buffer) (only (fresh_of s) done) Fresh (λ k q. absurd (omega (arith, q))) (λ k q. refl))

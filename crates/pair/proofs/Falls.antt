-- Twenty-four rounds: a measure that nothing in a quiet continuation raises, and that each served timer lowers.
use Rattle.std.proofs.Common.{◌≡◌, refl, sym, ap, subst, ◌∙◌, Bool, true, false, true≢false, cond, not, ◌&&◌, ◌||◌, List, [], ◌∷◌, ◌⊎◌, inl, inr, ℕ, suc, ◌%◌, ◌+◌, ◌-◌, ◌≤◌, arith, ltb-false, ne_eqb, eq-eqb, length, length-append, take_all, eqb}
use mathlib.Core.Bool.{and-true}
use Rattle.base.specs.Answer.{done}
use Rattle.std.proofs.lemmas.Bool.{and_parts, or_parts}
use Rattle.frame.specs.declared.Heard.{Heard}
use Rattle.frame.specs.declared.Heard.TheVariants.{Size, Sum, Code, ControlSize, Length, Reset, Ack, Nak, Data}
use Rattle.frame.specs.Bytes.{nak_frame}
use Rattle.frame.specs.Steps.{heard, acknowledged_in, refusal_of}
use Rattle.frame.proofs.Hearing.{number_heard}
use Rattle.state.specs.declared.Settings.{Settings}
use Rattle.state.specs.declared.Link.{Link}
use Rattle.state.specs.declared.Outcome.{Outcome}
use Rattle.state.specs.Bounds.{slots_need}
use Rattle.state.specs.State.{last_correct}
use Rattle.state.specs.Gate.{After, refused, gated, gate_of}
use Rattle.state.specs.Timer.{onward}
use Rattle.state.specs.Formed.{InRange, Sound}
use Rattle.state.proofs.Facts.{well_formed_facts, gate_of_facts, gated_cases, gated_open}
use Rattle.state.proofs.Keeps.{sound_open}
use Rattle.send.specs.Makers.{silent, concluded, sends, marked, sends_repeat}
use Rattle.receive.specs.Steps.{repeatable}
use Rattle.receive.specs.Take.{obeyed, frame_taken}
use Rattle.receive.proofs.Facts.{freed_fewer, repeatable_holds, data_taken_lem}
use Rattle.clock.specs.Look.{looked_open, looked}
use Rattle.pair.specs.System.{swap, IsClock}
use Rattle.pair.specs.Round.{head, none, here, there, runs, due_at, some_runs, some_due, Passes, stays, moves, nothing, sends-on, round, other-first, begin, next}
use Rattle.pair.specs.Demand3.{Through, Alive, WithinRounds, Within24}
use Rattle.pair.specs.TrueCalls.{true_calls, System, delivered_by, takes, look_of, looks, Enough, Carried, Carries, Looks, Round, Rounds}
use Rattle.pair.proofs.Line.{Line, data-next, ack-next, idle-next, Idle, by_size, by_sum, a-nak, line_taken, line_freed}
use Rattle.pair.proofs.Invariant.{Inv, inv_swap, window_small}
use Rattle.pair.proofs.Moments.{moment_range}
use Rattle.pair.proofs.Moves.{take_kept, look_kept, moment_kept}
use Rattle.pair.proofs.Measure.{looked_same, bit, bit_small, weight, spare_bound, freed_spare, again_weight, Calm, CalmLook, looked_look}

-- ---- a frame taken

abbrev got : After Outcome → List ℕ → ℕ
got a received = length (delivered_by a received)

calm_same : (l : Link) (slots frame : List ℕ) (answer : ℕ) → Calm l (refused l answer slots frame) 0
calm_same l slots frame answer = record { low = omega arith; few = omega arith; sticks = λ h. h }

calm_nak : (l : Link) (slots frame : List ℕ) (answer : ℕ) (t : Bool)
    → Calm l (concluded (cond t (silent l frame) (sends (marked l) (nak_frame l.settings.format ((last_correct l + 1) % 4)) frame)) answer 0 slots) 0
calm_nak l slots frame answer true = record { low = omega arith; few = omega arith; sticks = λ h. h }
calm_nak l slots frame answer false = record { low = omega arith; few = omega arith; sticks = λ h. h }

calm_idle : (l : Link) (slots frame : List ℕ) (ms : ℕ) (h : Heard) → Sound l → acknowledged_in h ≤ 3 → Idle h → Calm l (obeyed l slots frame ms h) 0
unfolding obeyed
calm_idle l slots frame ms Size s small by_size = calm_nak l slots frame (refusal_of Size) l.nakmark
calm_idle l slots frame ms Sum s small by_sum = calm_nak l slots frame (refusal_of Sum) l.nakmark
calm_idle l slots frame ms (Nak k) s small (a-nak k₁) = go (repeatable l k) refl
  where
    go : (t : Bool) → repeatable l k ≡ t → Calm l (concluded (cond t (sends_repeat l slots frame ms k) (silent l frame)) done 0 slots) 0
    go true e =
        repeatable_holds (λ n. Calm l (concluded (sends_repeat l slots frame ms n) done 0 slots) 0) l k (well_formed_facts l s.formed).next small e
        (λ j wait may. record { low = omega (arith, again_weight l ms j s wait may); few = omega arith; sticks = λ h. h })
    go false e = record { low = omega arith; few = omega arith; sticks = λ h. h }
calm_idle l slots frame ms Code s small idle = elim idle [ ]
calm_idle l slots frame ms ControlSize s small idle = elim idle [ ]
calm_idle l slots frame ms Length s small idle = elim idle [ ]
calm_idle l slots frame ms Reset s small idle = elim idle [ ]
calm_idle l slots frame ms (Ack k) s small idle = elim idle [ ]
calm_idle l slots frame ms (Data n x k len) s small idle = elim idle [ ]

calm_ack : (l : Link) (slots frame : List ℕ) (ms k : ℕ) → Calm l (obeyed l slots frame ms (Ack k)) 0
unfolding obeyed
calm_ack l slots frame ms k = record { low = omega (arith, freed_spare l k); few = freed_fewer l k; sticks = λ h. h }

calm_data : (l : Link) (slots frame received : List ℕ) (ms number k len : ℕ) → 1 ≤ len
    → Calm l (obeyed l slots frame ms (Data number false k len)) (got (obeyed l slots frame ms (Data number false k len)) received)
calm_data l slots frame received ms number k len lo =
    data_taken_lem (λ a. Calm l a (got a received)) l slots frame ms number k len
    (λ e. rw (ne_eqb len 0 (λ q. omega arith)) (record { low = omega (arith, freed_spare l k, bit_small l.acking); few = freed_fewer l k; sticks = λ h. h }))
    (λ n. record { low = omega (arith, freed_spare l k); few = freed_fewer l k; sticks = λ h. h })

calm_more : (l : Link) (a : After Outcome) (n : ℕ) → Calm l a 0 → Calm l a n
calm_more l a n c = record { low = omega (arith, c.low); few = c.few; sticks = c.sticks }

calm_head : (s : Settings) (S : System) (frame received : List ℕ) (rest : List (List ℕ)) (ms : ℕ) (t : List (List ℕ)) (h b e : ℕ) → Sound S.here.state
    → Line s.format t h b e (received ∷ rest)
    → Calm S.here.state (obeyed S.here.state S.here.slots frame ms (heard s.format received)) (got (obeyed S.here.state S.here.slots frame ms (heard s.format received)) received)
calm_head s S frame received rest ms t h b e k (data-next f x len m p lo u v w) =
    subst (λ y. Calm S.here.state (obeyed S.here.state S.here.slots frame ms y) (got (obeyed S.here.state S.here.slots frame ms y) received)) (sym m)
    (calm_data S.here.state S.here.slots frame received ms (f % 4) ((x + 3) % 4) len lo)
calm_head s S frame received rest ms t h b e k (ack-next x m v w) =
    subst (λ y. Calm S.here.state (obeyed S.here.state S.here.slots frame ms y) (got (obeyed S.here.state S.here.slots frame ms y) received)) (sym m)
    (calm_more S.here.state _ _ (calm_ack S.here.state S.here.slots frame ms ((x + 3) % 4)))
calm_head s S frame received rest ms t h b e k (idle-next m w) =
    calm_more S.here.state _ _ (calm_idle S.here.state S.here.slots frame ms (heard s.format received) k (number_heard s.format received) m)

calm_take : (s : Settings) (S : System) (frame received : List ℕ) (rest : List (List ℕ)) (ms : ℕ) → S.here.queue ≡ received ∷ rest → Inv s S
    → Calm S.here.state (frame_taken S.here.state S.here.slots frame ms received) (got (frame_taken S.here.state S.here.slots frame ms received) received)
unfolding frame_taken
calm_take s S frame received rest ms e I =
    gated_cases (λ a. Calm l a (got a received)) (gate_of l (length S.here.slots) (length frame)) l S.here.slots frame (obeyed l S.here.slots frame ms (heard l.settings.format received))
    (λ q. subst (λ (x : Settings). Calm l (obeyed l S.here.slots frame ms (heard x.format received)) (got (obeyed l S.here.slots frame ms (heard x.format received)) received)) (sym I.here.settings)
    (calm_head s S frame received rest ms S.there.taken I.got_here I.freed_here I.got_there I.here.sound
    (subst (λ z. Line s.format S.there.taken I.got_here I.freed_here I.got_there z) e I.to_here)))
    (λ n. calm_same l S.here.slots frame (gate_of l (length S.here.slots) (length frame)))
  where
    l : Link
    l = S.here.state

-- ---- the measure

abbrev pub Φ : System → ℕ
Φ S = weight S.here.state + weight S.there.state + (length S.here.taken - length S.there.delivered) + (length S.there.taken - length S.here.delivered)

-- from S to T nothing grew, and a lost end stayed lost
pub record Falls (s : Settings) (S T : System) : Type 0 where
  pub inv : Inv s T
  pub low : Φ T ≤ Φ S
  pub few_here : T.here.state.waiting ≤ S.here.state.waiting
  pub few_there : T.there.state.waiting ≤ S.there.state.waiting
  pub lost_here : S.here.state.lost ≡ true → T.here.state.lost ≡ true
  pub lost_there : S.there.state.lost ≡ true → T.there.state.lost ≡ true

falls_none : (s : Settings) (S : System) → Inv s S → Falls s S S
falls_none s S I = record { inv = I; low = omega arith; few_here = omega arith; few_there = omega arith; lost_here = λ h. h; lost_there = λ h. h }

pub falls_swap : (s : Settings) (S T : System) → Falls s (swap S) (swap T) → Falls s S T
falls_swap s S T F = record { inv = inv_swap s (swap T) F.inv; low = omega (arith, F.low); few_here = F.few_there; few_there = F.few_here; lost_here = F.lost_there; lost_there = F.lost_here }

pub falls_trans : (s : Settings) (S T U : System) → Falls s S T → Falls s T U → Falls s S U
falls_trans s S T U F G = record {
  inv = G.inv;
  low = omega (arith, F.low, G.low);
  few_here = omega (arith, F.few_here, G.few_here);
  few_there = omega (arith, F.few_there, G.few_there);
  lost_here = λ h. G.lost_here (F.lost_here h);
  lost_there = λ h. G.lost_there (F.lost_there h);
}

-- ---- carrying

pub carried_falls : (s : Settings) (ms : ℕ) (S T : System) → IsClock ms → InRange s → Inv s S → Carried ms S T → Falls s S T
carried_falls s ms S T c r I (head frame received rest enough e) =
    let a : After Outcome = frame_taken S.here.state S.here.slots frame ms received in
    let J : Inv s (takes S frame ms received rest) = take_kept s S frame received rest ms c r e I in
    let k : Calm S.here.state a (got a received) = calm_take s S frame received rest ms e I in
    record {
      inv = J;
      low = omega (arith, k.low, length-append S.here.delivered (delivered_by a received), length-append S.here.taken [], J.here.count, line_taken s.format S.there.taken _ J.to_here);
      few_here = k.few;
      few_there = omega arith;
      lost_here = k.sticks;
      lost_there = λ h. h;
    }

pub carries_falls : (s : Settings) (ms : ℕ) (S T : System) → IsClock ms → InRange s → Inv s S → Carries ms S T → Falls s S T
carries_falls s ms S T c r I (none S₁) = falls_none s S I
carries_falls s ms S U c r I (here S₁ T U₁ k rest) =
    let F : Falls s S T = carried_falls s ms S T c r I k in
    falls_trans s S T U F (carries_falls s ms T U c r F.inv rest)
carries_falls s ms S U c r I (there S₁ T U₁ k rest) =
    let F : Falls s S T = falls_swap s S T (carried_falls s ms (swap S) (swap T) c r (inv_swap s S I) k) in
    falls_trans s S T U F (carries_falls s ms T U c r F.inv rest)

-- ---- looking

-- one look, with a buffer that is long enough
pub look_does : (s : Settings) (S : System) (frame : List ℕ) (ms : ℕ) → Inv s S → Enough S frame → CalmLook S.here.state (look_of S frame ms) (due_at S.here.state ms && not S.here.state.lost)
unfolding looked
look_does s S frame ms I enough = go l.lost refl
  where
    l : Link
    l = S.here.state

    room : slots_need l.settings ≤ length S.here.slots
    room = rw I.here.settings I.here.room

    g : ℕ
    g = gate_of l (length S.here.slots) (length frame)

    go : (t : Bool) → l.lost ≡ t → CalmLook l (gated g l S.here.slots frame (looked_open l S.here.slots frame ms)) (due_at l ms && not t)
    go true e = gated_cases (λ a. CalmLook l a (due_at l ms && false)) g l S.here.slots frame (looked_open l S.here.slots frame ms)
        (λ q. absurd (true≢false (sym e ∙ (gate_of_facts l (length S.here.slots) (length frame) q).alive)))
        (λ n. looked_same l S.here.slots frame g (due_at l ms && false) (λ o. true≢false (sym (and_parts _ _ o).1)))
    go false e =
        let open-gate : g ≡ done = sound_open l (length S.here.slots) (length frame) I.here.sound e room enough in
        subst (λ y. CalmLook l y (due_at l ms && true)) (sym (gated_open g l S.here.slots frame (looked_open l S.here.slots frame ms) open-gate))
        (subst (λ o. CalmLook l (looked_open l S.here.slots frame ms) o) (sym (and-true (due_at l ms))) (looked_look l S.here.slots frame ms I.here.sound e))

pub look_falls : (s : Settings) (S : System) (frame : List ℕ) (ms : ℕ) → IsClock ms → InRange s → Inv s S → Enough S frame → Falls s S (looks S frame ms)
look_falls s S frame ms c r I enough =
    let k = look_does s S frame ms I enough in
    record {
      inv = look_kept s S frame ms c r I;
      low = omega (arith, k.low, length-append S.here.delivered [], length-append S.here.taken []);
      few_here = k.few;
      few_there = omega arith;
      lost_here = k.sticks;
      lost_there = λ h. h;
    }

-- a look that sent lowers the measure
look_sent : (s : Settings) (S : System) (frame : List ℕ) (ms : ℕ) → Inv s S → Enough S frame → ((look_of S frame ms).told.sent ≡ 0 → ⊥) → Φ (looks S frame ms) + 1 ≤ Φ S
look_sent s S frame ms I enough n =
    let k = look_does s S frame ms I enough in
    let one : bit (not (eqb (look_of S frame ms).told.sent 0)) ≡ 1 = ap (λ (t : Bool). bit (not t)) (ne_eqb (look_of S frame ms).told.sent 0 n) in
    omega (arith, k.low, length-append S.here.delivered [], length-append S.here.taken [])

-- what would have stayed lost was not lost
not_lost : (before after : Bool) → after ≡ false → (before ≡ true → after ≡ true) → before ≡ false
not_lost true after e f = absurd (true≢false (sym (f refl) ∙ e))
not_lost false after e f = refl

-- what looking until nothing is sent does
pub record Seen (s : Settings) (ms : ℕ) (S T : System) : Type 0 where
  pub falls : Falls s S T
  pub still : T.there.state ≡ S.there.state
  pub served : due_at S.here.state ms ≡ true → T.here.state.lost ≡ false → Φ T + 1 ≤ Φ S

pub looks_seen : (s : Settings) (ms : ℕ) (S T : System) → IsClock ms → InRange s → Inv s S → Looks ms S T → Seen s ms S T
looks_seen s ms S T c r I (nothing S₁ frame enough z) = record {
  falls = look_falls s S frame ms c r I enough;
  still = refl;
  served = λ d alive. absurd (silent-due d alive);
}
  where
    k : CalmLook S.here.state (look_of S frame ms) (due_at S.here.state ms && not S.here.state.lost)
    k = look_does s S frame ms I enough

    silent-due : due_at S.here.state ms ≡ true → (look_of S frame ms).told.state.lost ≡ false → ⊥
    silent-due d alive =
        let was : S.here.state.lost ≡ false = not_lost S.here.state.lost (look_of S frame ms).told.state.lost alive k.sticks in
        true≢false (sym (eq-eqb (look_of S frame ms).told.sent 0 z) ∙ k.served (rw (d, was)) alive)
looks_seen s ms S T c r I (sends-on S₁ T₁ frame enough n rest) =
    let F : Falls s S (looks S frame ms) = look_falls s S frame ms c r I enough in
    let G : Seen s ms (looks S frame ms) T = looks_seen s ms (looks S frame ms) T c r F.inv rest in
    record {
      falls = falls_trans s S (looks S frame ms) T F G.falls;
      still = G.still;
      served = λ d alive. omega (arith, look_sent s S frame ms I enough n, G.falls.low);
    }

-- ---- rounds

-- both windows are empty
pub record Empty (S : System) : Type 0 where
  pub here : S.here.state.waiting ≡ 0
  pub there : S.there.state.waiting ≡ 0

empty_falls : (s : Settings) (S T : System) → Falls s S T → Empty S → Empty T
empty_falls s S T F e = record { here = omega (arith, F.few_here, e.here); there = omega (arith, F.few_there, e.there) }

-- where no timer runs nothing waits
none_runs : (S : System) → some_runs S ≡ false → Empty S
none_runs S e =
    let h : runs S.here.state ≡ false = (or_parts (runs S.here.state) (runs S.there.state) e).0 in
    let t : runs S.there.state ≡ false = (or_parts (runs S.here.state) (runs S.there.state) e).1 in
    record {
      here = omega (arith, ltb-false 0 S.here.state.waiting (or_parts _ _ h).0);
      there = omega (arith, ltb-false 0 S.there.state.waiting (or_parts _ _ t).0);
    }

-- a round: nothing grew, and either both windows are empty and the clock stood, or the measure fell
pub record Turned (s : Settings) (S T : System) (passed : ℕ) : Type 0 where
  pub falls : Falls s S T
  pub either : Alive T → ((passed ≡ 0) × Empty T) ⊎ (Φ T + 1 ≤ Φ S)

turned-swap : (s : Settings) (S T : System) (passed : ℕ) → Turned s (swap S) (swap T) passed → Turned s S T passed
turned-swap s S T passed k =
    record { falls = falls_swap s S T k.falls; either = λ alive. go (k.either (record { here = alive.there; there = alive.here })) }
  where
    go : ((passed ≡ 0) × Empty (swap T)) ⊎ (Φ (swap T) + 1 ≤ Φ (swap S)) → ((passed ≡ 0) × Empty T) ⊎ (Φ T + 1 ≤ Φ S)
    go (inl e) = inl (e.0, record { here = e.1.there; there = e.1.here })
    go (inr m) = inr (omega arith)

passes_cases : (S : System) (ms passed : ℕ) → Passes S ms passed → ((passed ≡ 0) × (some_runs S ≡ false)) ⊎ (some_due S (onward ms passed) ≡ true)
passes_cases S ms passed (stays e) = inl (refl, e)
passes_cases S ms passed (moves passed₁ e k) = inr e

pub onward-clock : (ms passed : ℕ) → IsClock (onward ms passed)
onward-clock ms passed = omega arith

pub round_turns : (s : Settings) (ms : ℕ) (S T : System) (passed : ℕ) → IsClock ms → InRange s → Inv s S → Round ms S passed T → Turned s S T passed
round_turns s ms S W passed c r I (other-first S₁ W₁ passed₁ k) = turned-swap s S W passed (round_turns s ms (swap S) (swap W) passed c r (inv_swap s S I) k)
round_turns s ms S W passed c r I (round S₁ T U W₁ passed₁ carries no_here no_there p looks_here looks_there) =
    record { falls = all; either = λ alive. go alive (passes_cases T ms passed p) }
  where
    c₁ : IsClock (onward ms passed)
    c₁ = onward-clock ms passed

    F : Falls s S T
    F = carries_falls s ms S T c r I carries

    A : Seen s (onward ms passed) T U
    A = looks_seen s (onward ms passed) T U c₁ r F.inv looks_here

    B : Seen s (onward ms passed) (swap U) (swap W)
    B = looks_seen s (onward ms passed) (swap U) (swap W) c₁ r (inv_swap s U A.falls.inv) looks_there

    G : Falls s U W
    G = falls_swap s U W B.falls

    all : Falls s S W
    all = falls_trans s S T W F (falls_trans s T U W A.falls G)

    -- the end here is due, or else the one there
    due-either : Alive W → (y : Bool) → due_at T.here.state (onward ms passed) ≡ y → (y || due_at T.there.state (onward ms passed)) ≡ true → Φ W + 1 ≤ Φ S
    due-either alive true e q =
        let a : U.here.state.lost ≡ false = not_lost U.here.state.lost W.here.state.lost alive.here G.lost_here in
        omega (arith, A.served e a, G.low, F.low)
    due-either alive false e q =
        let d : due_at U.there.state (onward ms passed) ≡ true = subst (λ (x : Link). due_at x (onward ms passed) ≡ true) (sym A.still) q in
        omega (arith, B.served d alive.there, A.falls.low, F.low)

    go : Alive W → ((passed ≡ 0) × (some_runs T ≡ false)) ⊎ (some_due T (onward ms passed) ≡ true) → ((passed ≡ 0) × Empty W) ⊎ (Φ W + 1 ≤ Φ S)
    go alive (inl e) = inl (e.0, empty_falls s T W (falls_trans s T U W A.falls G) (none_runs T e.1))
    go alive (inr e) = inr (due-either alive (due_at T.here.state (onward ms passed)) refl e)

pub alive_before : (s : Settings) (S T : System) → Falls s S T → Alive T → Alive S
alive_before s S T F a = record {
  here = not_lost S.here.state.lost T.here.state.lost a.here F.lost_here;
  there = not_lost S.there.state.lost T.there.state.lost a.there F.lost_there;
}

pub rounds_fall : (s : Settings) (ms : ℕ) (S T : System) (n total : ℕ) → IsClock ms → InRange s → Inv s S → Rounds ms S n total T → Falls s S T
rounds_fall s ms S T n total c r I begin = falls_none s S I
rounds_fall s ms S U n total c r I (next n₁ total₁ passed T U₁ rounds turn) =
    let F : Falls s S T = rounds_fall s ms S T n₁ total₁ c r I rounds in
    falls_trans s S T U F (round_turns s (onward ms total₁) T U passed (onward-clock ms total₁) r F.inv turn).falls

-- after n rounds both windows are empty, or the measure fell n times
rounds_count : (s : Settings) (ms : ℕ) (S T : System) (n total : ℕ) → IsClock ms → InRange s → Inv s S → Rounds ms S n total T → Alive T → Empty T ⊎ (Φ T + n ≤ Φ S)
rounds_count s ms S T n total c r I begin alive = inr (omega arith)
rounds_count s ms S U n total c r I (next n₁ total₁ passed T U₁ rounds turn) alive =
    let F : Falls s S T = rounds_fall s ms S T n₁ total₁ c r I rounds in
    let K : Turned s T U passed = round_turns s (onward ms total₁) T U passed (onward-clock ms total₁) r F.inv turn in
    go K (rounds_count s ms S T n₁ total₁ c r I rounds (alive_before s T U K.falls alive)) (K.either alive)
  where
    go : Turned s T U passed → Empty T ⊎ (Φ T + n₁ ≤ Φ S) → ((passed ≡ 0) × Empty U) ⊎ (Φ U + 1 ≤ Φ T) → Empty U ⊎ (Φ U + suc n₁ ≤ Φ S)
    go K (inl e) y = inl (empty_falls s T U K.falls e)
    go K (inr m) (inl y) = inl y.1
    go K (inr m) (inr y) = inr (omega arith)

-- the measure is at most 4 × 2 × 2 repeats, 2 acknowledgements and 2 × 2 packets
pub Φ-bound : (s : Settings) (S : System) → InRange s → Inv s S → Φ S ≤ 22
Φ-bound s S r I =
    let x : S.here.state.settings.repeats ≤ 4 = rw I.here.settings r.repeats_hi in
    let y : S.there.state.settings.repeats ≤ 4 = rw I.there.settings r.repeats_hi in
    omega (
      arith,
      spare_bound S.here.state S.here.state.waiting x,
      spare_bound S.there.state S.there.state.waiting y,
      bit_small S.here.state.acking,
      bit_small S.there.state.acking,
      window_small s S.here S.there.taken I.freed_here I.got_here I.here,
      window_small s S.there S.here.taken I.freed_there I.got_there I.there,
      I.here.window,
      I.there.window,
      I.here.count,
      I.there.count,
      line_freed s.format S.there.taken S.here.queue I.to_here,
      line_freed s.format S.here.taken S.there.queue I.to_there,
    )

-- empty windows: everything is through
empty_through : (s : Settings) (S : System) → Inv s S → Empty S → Through S
empty_through s S I e =
    let a : length S.here.taken ≤ I.got_there = omega (arith, I.here.window, e.here, line_freed s.format S.there.taken S.here.queue I.to_here) in
    let b : length S.there.taken ≤ I.got_here = omega (arith, I.there.window, e.there, line_freed s.format S.here.taken S.there.queue I.to_there) in
    record {
      forth = I.there.first ∙ take_all I.got_there S.here.taken a;
      back = I.here.first ∙ take_all I.got_here S.there.taken b;
      window_here = e.here;
      window_there = e.there;
    }

-- after 23 rounds, or more
pub within_23 : WithinRounds 23 true_calls
within_23 s S T ms n total m c h k alive =
    let r : InRange s = moment_range s S m in
    let I : Inv s S = moment_kept s S m in
    go r I (rounds_count s ms S T n total c r I k alive)
  where
    go : InRange s → Inv s S → Empty T ⊎ (Φ T + n ≤ Φ S) → Through T
    go r I (inl e) = empty_through s T (rounds_fall s ms S T n total c r I k).inv e
    go r I (inr w) = absurd (omega (arith, Φ-bound s S r I))

pub within_24 : Within24 true_calls
within_24 s S T ms n total m c h k alive = within_23 s S T ms n total m c (omega arith) k alive

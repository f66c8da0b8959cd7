-- How many milliseconds the rounds take.
use Rattle.std.proofs.Common.{◌≡◌, refl, sym, ◌∙◌, Bool, true, false, true≢false, ◌||◌, ◌⊎◌, inl, inr, ℕ, suc, ◌+◌, ◌*◌, ◌≤◌, mul-le-mul_right, suc-mul, arith, ltb-true, ltb-false, lt-ltb, ltb}
use Rattle.std.proofs.lemmas.Bool.{and_parts, or_left, or_right}
use Rattle.state.specs.declared.Settings.{Settings}
use Rattle.state.specs.declared.Link.{Link}
use Rattle.state.specs.Timer.{onward, packet_due, acknowledge_due}
use Rattle.state.specs.Formed.{InRange}
use Rattle.clock.proofs.Facts.{due-waits}
use Rattle.pair.specs.System.{swap, IsClock}
use Rattle.pair.specs.Round.{runs, due_at, some_runs, some_due, Passes, stays, moves, round, other-first, begin, next}
use Rattle.pair.specs.Demand3.{Alive, InMilliseconds}
use Rattle.pair.specs.TrueCalls.{true_calls, System, Round, Rounds}
use Rattle.pair.proofs.Invariant.{Inv, inv_swap}
use Rattle.pair.proofs.Moments.{moment_range}
use Rattle.pair.proofs.Moves.{moment_kept}
use Rattle.pair.proofs.Timers.{Soon, some_soon}
use Rattle.pair.proofs.Falls.{Falls, Empty, Turned, Φ, Φ-bound, carries_falls, round_turns, rounds_fall, alive_before, onward-clock}

-- a timer that is due runs
due-runs : (l : Link) (ms : ℕ) → due_at l ms ≡ true → runs l ≡ true
due-runs l ms e = go (packet_due l 0 ms) (packet_due l 1 ms) refl refl e
  where
    waits-so : (n : ℕ) → packet_due l n ms ≡ true → runs l ≡ true
    waits-so n q = or_left (ltb 0 l.waiting) l.acking (lt-ltb 0 l.waiting (omega (arith, due-waits l n ms q)))

    go : (a b : Bool) → packet_due l 0 ms ≡ a → packet_due l 1 ms ≡ b → (a || b || acknowledge_due l ms) ≡ true → runs l ≡ true
    go true b p q z = waits-so 0 p
    go false true p q z = waits-so 1 q
    go false false p q z = or_right (ltb 0 l.waiting) l.acking (and_parts _ _ z).0

some_due-runs : (S : System) (ms : ℕ) → some_due S ms ≡ true → some_runs S ≡ true
some_due-runs S ms e = go (due_at S.here.state ms) refl e
  where
    go : (y : Bool) → due_at S.here.state ms ≡ y → (y || due_at S.there.state ms) ≡ true → some_runs S ≡ true
    go true p z = or_left (runs S.here.state) (runs S.there.state) (due-runs S.here.state ms p)
    go false p z = or_right (runs S.here.state) (runs S.there.state) (due-runs S.there.state ms z)

-- the clock is moved by at most TRANS_TIMEOUT
pub passes_short : (s : Settings) (S : System) (ms passed : ℕ) → InRange s → Inv s S → IsClock ms → Passes S ms passed → passed ≤ s.transtimeout
passes_short s S ms passed r I c (stays e) = omega arith
passes_short s S ms passed r I c (moves passed₁ e k) =
    let w : Soon (λ n. some_due S (onward ms n)) s.transtimeout = some_soon s S ms r I c (some_due-runs S (onward ms passed) e) in
    go w (ltb w.after passed) refl
  where
    go : (w : Soon (λ n. some_due S (onward ms n)) s.transtimeout) (t : Bool) → ltb w.after passed ≡ t → passed ≤ s.transtimeout
    go w true q = absurd (true≢false (sym w.holds ∙ k w.after (ltb-true w.after passed q)))
    go w false q = omega (arith, ltb-false w.after passed q, w.within)

round_short : (s : Settings) (ms : ℕ) (S T : System) (passed : ℕ) → IsClock ms → InRange s → Inv s S → Round ms S passed T → passed ≤ s.transtimeout
round_short s ms S W passed c r I (other-first S₁ W₁ passed₁ k) = round_short s ms (swap S) (swap W) passed c r (inv_swap s S I) k
round_short s ms S W passed c r I (round S₁ T U W₁ passed₁ carries no_here no_there p looks_here looks_there) =
    passes_short s T ms passed r (carries_falls s ms S T c r I carries).inv c p

-- each move of the clock is paid for by the measure
paid : (s : Settings) (ms : ℕ) (S T : System) (n total : ℕ) → IsClock ms → InRange s → Inv s S → Rounds ms S n total T → Alive T → Φ T * s.transtimeout + total ≤ Φ S * s.transtimeout
paid s ms S T n total c r I begin alive = omega arith
paid s ms S U n total c r I (next n₁ total₁ passed T U₁ rounds turn) alive =
    let F : Falls s S T = rounds_fall s ms S T n₁ total₁ c r I rounds in
    let K : Turned s T U passed = round_turns s (onward ms total₁) T U passed (onward-clock ms total₁) r F.inv turn in
    let short : passed ≤ s.transtimeout = round_short s (onward ms total₁) T U passed (onward-clock ms total₁) r F.inv turn in
    let before : Φ T * s.transtimeout + total₁ ≤ Φ S * s.transtimeout = paid s ms S T n₁ total₁ c r I rounds (alive_before s T U K.falls alive) in
    go short before K.falls.low (K.either alive)
  where
    go : passed ≤ s.transtimeout → Φ T * s.transtimeout + total₁ ≤ Φ S * s.transtimeout → Φ U ≤ Φ T → ((passed ≡ 0) × Empty U) ⊎ (Φ U + 1 ≤ Φ T) → Φ U * s.transtimeout + (total₁ + passed) ≤ Φ S * s.transtimeout
    go short before low (inl z) = omega (arith, z.0, mul-le-mul_right s.transtimeout low)
    go short before low (inr z) = omega (arith, mul-le-mul_right s.transtimeout (more z), suc-mul (Φ U) s.transtimeout)
      where
        more : Φ U + 1 ≤ Φ T → suc (Φ U) ≤ Φ T
        more q = omega arith

pub in_milliseconds : InMilliseconds true_calls
in_milliseconds s S T ms n total m c k alive =
    let r : InRange s = moment_range s S m in
    let I : Inv s S = moment_kept s S m in
    omega (arith, paid s ms S T n total c r I k alive, mul-le-mul_right s.transtimeout (Φ-bound s S r I))

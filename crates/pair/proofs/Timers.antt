-- The first moment at which a timer is due.
use Rattle.std.proofs.Common.{◌≡◌, refl, sym, ap, subst, Bool, true, false, ◌||◌, ℕ, zero, suc, ◌+◌, ◌≤◌, ◌<◌, arith, eqb-true, eqb, ltb}
use Rattle.std.proofs.lemmas.Bool.{eqb-false, and_from, or_left, or_right}
use Rattle.state.specs.declared.Settings.{Settings}
use Rattle.state.specs.declared.Link.{Link}
use Rattle.state.specs.State.{sent_before, start_of}
use Rattle.state.specs.Timer.{left, due, onward, packet_due, acknowledge_due}
use Rattle.state.specs.Formed.{InRange}
use Rattle.state.proofs.Facts.{left-due}
use Rattle.pair.specs.System.{IsClock}
use Rattle.pair.specs.Round.{runs, due_at, some_runs, some_due, Passes, stays, moves}
use Rattle.pair.specs.TrueCalls.{System}
use Rattle.pair.proofs.Invariant.{Timed, Inv}

-- ---- the least number at which a test holds

pub record Least (test : ℕ → Bool) (bound : ℕ) : Type 0 where
  pub at : ℕ
  pub within : at ≤ bound
  pub holds : test at ≡ true
  pub before : (k : ℕ) → k < at → test k ≡ false

-- from k on, where it fails before k
unfoldable pub search_from : (test : ℕ → Bool) (fuel k bound : ℕ) → k + fuel ≡ bound → test bound ≡ true → ((i : ℕ) → i < k → test i ≡ false) → Least test bound
search_from test zero k bound e h none = record { at = bound; within = omega arith; holds = h; before = λ i lt. none i (omega arith) }
search_from test (suc fuel) k bound e h none = go (λ f. search_from test fuel (suc k) bound (omega arith) h f) (test k) refl
  where
    go : (((i : ℕ) → i < suc k → test i ≡ false) → Least test bound) → (t : Bool) → test k ≡ t → Least test bound
    go more true q = record { at = k; within = omega arith; holds = q; before = none }
    go more false q = more (λ i lt. inner i lt (eqb i k) refl)
      where
        inner : (i : ℕ) → i < suc k → (t : Bool) → eqb i k ≡ t → test i ≡ false
        inner i lt true e₁ = subst (λ n. test n ≡ false) (sym (eqb-true i k e₁)) q
        inner i lt false e₁ = none i (omega (arith, eqb-false i k e₁))

unfoldable pub least : (test : ℕ → Bool) (bound : ℕ) → test bound ≡ true → Least test bound
least test bound h = search_from test bound 0 bound (omega arith) h (λ i lt. absurd (omega arith))

-- ---- an end's timers

-- where a timer of the end runs, one is due after at most TRANS_TIMEOUT
pub record Soon (test : ℕ → Bool) (most : ℕ) : Type 0 where
  pub after : ℕ
  pub within : after ≤ most
  pub holds : test after ≡ true

unfoldable pub end_soon : (s : Settings) (l : Link) (ms : ℕ) → InRange s → l.settings ≡ s → Timed l → IsClock ms → runs l ≡ true → Soon (λ k. due_at l (onward ms k)) s.transtimeout
end_soon s l ms r e t c q = go (ltb 0 l.waiting) refl q
  where
    transtimeout : l.settings.transtimeout ≡ s.transtimeout
    transtimeout = ap (λ (x : Settings). x.transtimeout) e

    acknowledge : l.settings.acktimeout ≡ s.acktimeout
    acknowledge = ap (λ (x : Settings). x.acktimeout) e

    go : (y : Bool) → ltb 0 l.waiting ≡ y → (y || l.acking) ≡ true → Soon (λ k. due_at l (onward ms k)) s.transtimeout
    go true w z =
        let k : ℕ = left l.settings.transtimeout (start_of l (sent_before l 0)) ms in
        let then : ℕ = onward ms k in
        record {
          after = k;
          within = omega (arith, transtimeout);
          holds = or_left (packet_due l 0 then || packet_due l 1 then) (acknowledge_due l then)
              (or_left (packet_due l 0 then) (packet_due l 1 then)
              (and_from (ltb 0 l.waiting) (due l.settings.transtimeout (start_of l (sent_before l 0)) then) w
              (left-due l.settings.transtimeout (start_of l (sent_before l 0)) ms (omega (arith, transtimeout, r.transtimeout_hi)) (t.0 _) c)));
        }
    go false w z =
        let k : ℕ = left l.settings.acktimeout l.ackstart ms in
        let then : ℕ = onward ms k in
        record {
          after = k;
          within = omega (arith, acknowledge, r.acktimeout_hi);
          holds = or_right (packet_due l 0 then || packet_due l 1 then) (acknowledge_due l then)
              (and_from l.acking (due l.settings.acktimeout l.ackstart then) z
              (left-due l.settings.acktimeout l.ackstart ms (omega (arith, acknowledge, r.acktimeout_hi, r.transtimeout_hi)) t.1 c));
        }

-- ---- both ends

unfoldable pub some_soon : (s : Settings) (S : System) (ms : ℕ) → InRange s → Inv s S → IsClock ms → some_runs S ≡ true → Soon (λ k. some_due S (onward ms k)) s.transtimeout
some_soon s S ms r I c q = go (runs S.here.state) refl q
  where
    go : (y : Bool) → runs S.here.state ≡ y → (y || runs S.there.state) ≡ true → Soon (λ k. some_due S (onward ms k)) s.transtimeout
    go true e z =
        let k : Soon (λ k. due_at S.here.state (onward ms k)) s.transtimeout = end_soon s S.here.state ms r I.here.settings I.here.timed c e in
        record { after = k.after; within = k.within; holds = or_left (due_at S.here.state (onward ms k.after)) (due_at S.there.state (onward ms k.after)) k.holds }
    go false e z =
        let k : Soon (λ k. due_at S.there.state (onward ms k)) s.transtimeout = end_soon s S.there.state ms r I.there.settings I.there.timed c z in
        record { after = k.after; within = k.within; holds = or_right (due_at S.here.state (onward ms k.after)) (due_at S.there.state (onward ms k.after)) k.holds }

-- how far the clock is to be moved
pub record Moved (S : System) (ms : ℕ) : Type 0 where
  pub passed : ℕ
  pub passes : Passes S ms passed

unfoldable pub moved : (s : Settings) (S : System) (ms : ℕ) → InRange s → Inv s S → IsClock ms → Moved S ms
moved s S ms r I c = go (some_runs S) refl
  where
    go : (y : Bool) → some_runs S ≡ y → Moved S ms
    go true e =
        let k : Soon (λ k. some_due S (onward ms k)) s.transtimeout = some_soon s S ms r I c e in
        let m : Least (λ k. some_due S (onward ms k)) k.after = least (λ k. some_due S (onward ms k)) k.after k.holds in
        record { passed = m.at; passes = moves m.at m.holds m.before }
    go false e = record { passed = 0; passes = stays e }

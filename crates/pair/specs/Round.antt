-- A timer round: R6.5.
use Rattle.std.specs.Prelude.{ℕ, suc, ◌+◌, ◌<◌, ◌≤◌, Bool, true, false, ◌||◌, List, [], ◌∷◌, ◌≡◌, length, ltb}
use Rattle.state.specs.declared.Link.{Link}
use Rattle.state.specs.Bounds.{frame_need}
use Rattle.state.specs.Timer.{onward, packet_due, acknowledge_due}
use Rattle.pair.specs.System.{Calls, System, swap, seen_both, takes, look_of, looks}

-- R6.5: what is lent is long enough. Here the frame buffer; the slots are, from the start
abbrev pub Enough : {State : Type 0} → Calls State → System State → List ℕ → Type 0
Enough calls S frame = frame_need (calls.seen S.here.state).settings ≤ length frame

-- R6.5, first: one frame is carried; and any number, of either queue in any turn
pub data Carried {State : Type 0} (calls : Calls State) (ms : ℕ) (S : System State) : System State → Type 0 where
  head : (frame received : List ℕ) (rest : List (List ℕ)) → Enough calls S frame → S.here.queue ≡ received ∷ rest → Carried calls ms S (takes calls S frame ms received rest)

pub data Carries {State : Type 0} (calls : Calls State) (ms : ℕ) : System State → System State → Type 0 where
  none : (S : System State) → Carries calls ms S S
  here : (S T U : System State) → Carried calls ms S T → Carries calls ms T U → Carries calls ms S U
  there : (S T U : System State) → Carried calls ms (swap S) (swap T) → Carries calls ms T U → Carries calls ms S U

-- for CarryingEnds: how many frames were carried
abbrev pub carried_in : {State : Type 0} {calls : Calls State} {ms : ℕ} {S T : System State} → Carries calls ms S T → ℕ
carried_in (none S) = 0
carried_in (here S T U k rest) = suc (carried_in rest)
carried_in (there S T U k rest) = suc (carried_in rest)

-- ---- the clock: it goes by the timers of R6.1, as the states are seen, whatever the link itself does

-- a packet's timer runs while it waits. A lost end's timers count too, and once one is due the clock stays: what is said of rounds asks that no
-- link be lost.
abbrev pub runs : Link → Bool
runs l = ltb 0 l.waiting || l.acking

abbrev pub due_at : Link → ℕ → Bool
due_at l ms = packet_due l 0 ms || packet_due l 1 ms || acknowledge_due l ms

abbrev pub some_runs : System Link → Bool
some_runs S = runs S.here.state || runs S.there.state

abbrev pub some_due : System Link → ℕ → Bool
some_due S ms = due_at S.here.state ms || due_at S.there.state ms

-- R6.5, then: how far the clock is moved: to the first moment at which a timer is due, which is now if one is due now
pub data Passes (S : System Link) (ms : ℕ) : ℕ → Type 0 where
  stays : some_runs S ≡ false → Passes S ms 0
  moves : (passed : ℕ) → some_due S (onward ms passed) ≡ true → ((k : ℕ) → k < passed → some_due S (onward ms k) ≡ false) → Passes S ms passed

-- ---- looking

-- R6.5, last: the looks at one end
pub data Looks {State : Type 0} (calls : Calls State) (ms : ℕ) : System State → System State → Type 0 where
  nothing : (S : System State) (frame : List ℕ) → Enough calls S frame → (look_of calls S frame ms).told.sent ≡ 0 → Looks calls ms S (looks calls S frame ms)
  sends-on : (S T : System State) (frame : List ℕ) → Enough calls S frame → ((look_of calls S frame ms).told.sent ≡ 0 → ⊥) → Looks calls ms (looks calls S frame ms) T → Looks calls ms S T

-- ---- rounds

-- R6.5: one round from a clock on, and by how many milliseconds it moves the clock; either end may be the first to be looked at (looks that take turns
-- leave the same: Mixture.antt)
pub data Round {State : Type 0} (calls : Calls State) (ms : ℕ) : System State → ℕ → System State → Type 0 where
  round : (S T U W : System State) (passed : ℕ) → Carries calls ms S T → T.here.queue ≡ [] → T.there.queue ≡ [] → Passes (seen_both calls T) ms passed
      → Looks calls (onward ms passed) T U → Looks calls (onward ms passed) (swap U) (swap W) → Round calls ms S passed W
  other-first : (S W : System State) (passed : ℕ) → Round calls ms (swap S) passed (swap W) → Round calls ms S passed W

-- so many rounds, and by how many milliseconds they move the clock in all
pub data Rounds {State : Type 0} (calls : Calls State) (ms : ℕ) (S : System State) : ℕ → ℕ → System State → Type 0 where
  begin : Rounds calls ms S 0 0 S
  next : (n total passed : ℕ) (T U : System State) → Rounds calls ms S n total T → Round calls (onward ms total) T passed U → Rounds calls ms S (suc n) (total + passed) U

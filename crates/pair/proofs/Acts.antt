-- A history told by its steps leads from moment to moment, whatever the link.
use Rattle.std.proofs.Common.{◌≡◌, refl, sym, subst, List, [], ◌∷◌, ℕ, zero, suc, arith}
use Rattle.state.specs.declared.Settings.{Settings}
use Rattle.state.specs.Timer.{onward}
use Rattle.pair.specs.System.{Calls, System, swap, lost, IsClock, Move, submit, take_head, look, acknowledge, harm, Moment, here, there}
use Rattle.pair.specs.Round.{Round, Rounds, begin, next}
use Rattle.pair.specs.Run.{buffer}
use Rattle.pair.specs.History.{Act, submits-at, takes_at, looks-at, acknowledges-now, loses, Step, desk, chip, clock, takes_head, loses_head, acted, acted_by, told}

-- ---- each act is a move, or none

act_moves : {State : Type 0} (P : System State → Type 0) (calls : Calls State) (S : System State) (a : Act) → P S → ((T : System State) → Move calls S T → P T) → P (acted calls S a)
act_moves P calls S (submits-at ms packet) p f = f _ (submit buffer packet (clock ms) (omega arith))
act_moves P calls S (takes_at ms) p f = go S.here.queue refl
  where
    go : (q : List (List ℕ)) → S.here.queue ≡ q → P (takes_head calls S ms q)
    go [] e = p
    go (x ∷ q) e = f _ (take_head buffer x q (clock ms) (omega arith) e)
act_moves P calls S (looks-at ms) p f = f _ (look buffer (clock ms) (omega arith))
act_moves P calls S acknowledges-now p f = f _ (acknowledge buffer)
act_moves P calls S loses p f = go S.here.queue refl
  where
    go : (q : List (List ℕ)) → S.here.queue ≡ q → P (loses_head S q)
    go [] e = p
    go (x ∷ q) e = f _ (harm q (rw e (lost x q)))

step_moment : {State : Type 0} (calls : Calls State) (s : Settings) (S : System State) (x : Step) → Moment calls s S → Moment calls s (acted_by calls S x)
step_moment calls s S (desk a) m = act_moves (Moment calls s) calls S a m (λ T v. here S T m v)
step_moment calls s S (chip a) m = act_moves (λ T. Moment calls s (swap T)) calls (swap S) a m (λ T v. there S (swap T) m v)

pub told_moment : {State : Type 0} (calls : Calls State) (s : Settings) (S : System State) (steps : List Step) → Moment calls s S → Moment calls s (told calls S steps)
told_moment calls s S [] m = m
told_moment calls s S (x ∷ steps) m = told_moment calls s (acted_by calls S x) steps (step_moment calls s S x m)

-- ---- a round that leaves all as it was can be played again and again

pub still : {State : Type 0} (calls : Calls State) (ms : ℕ) (S : System State) → IsClock ms → Round calls ms S 0 S → (n : ℕ) → Rounds calls ms S n 0 S
still calls ms S c r zero = begin
still calls ms S c r (suc n) =
    let same : onward ms 0 ≡ ms = omega arith in
    next n 0 0 S S (still calls ms S c r n) (subst (λ t. Round calls t S 0 S) (sym same) r)

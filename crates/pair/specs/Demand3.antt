-- The third demand, of any link: R14.3 is FirstSoMany, R14.4 Within24. The first holds past a lost link too. Said of the calls' own definitions
-- (R13.5), and once for every D and both sizes of window (R13.6).
use Rattle.std.specs.Prelude.{ℕ, ◌+◌, ◌*◌, ◌≤◌, false, List, ◌≡◌, length, take}
use Rattle.state.specs.declared.Settings.{Settings}
use Rattle.state.specs.declared.Link.{Link}
use Rattle.pair.specs.System.{Calls, System, seen_both, IsClock, Moment}
use Rattle.pair.specs.Round.{Carries, carried_in, Rounds}

-- R14.3: the one list is the beginning of the other, byte for byte; here in both directions at every moment
abbrev pub FirstSoManyOf : List (List ℕ) → List (List ℕ) → Type 0
FirstSoManyOf delivered taken = delivered ≡ take (length delivered) taken

abbrev pub FirstSoMany : {State : Type 0} → Calls State → Type 0
FirstSoMany {State} calls =
    (s : Settings) (S : System State) → Moment calls s S
    → FirstSoManyOf S.there.delivered S.here.taken × FirstSoManyOf S.here.delivered S.there.taken

-- R14.4, what is to come about
pub record Through (S : System Link) : Type 0 where
  pub forth : S.there.delivered ≡ S.here.taken
  pub back : S.here.delivered ≡ S.there.taken
  pub window_here : S.here.state.waiting ≡ 0
  pub window_there : S.there.state.waiting ≡ 0

-- R14.4: no link is lost. The mark stays once it is set, so it is enough to look at it in the end.
pub record Alive (S : System Link) : Type 0 where
  pub here : S.here.state.lost ≡ false
  pub there : S.there.state.lost ≡ false

-- R14.4: a round holds no submit, no loss and no damage. Through after so many rounds, and after any more.
abbrev pub WithinRounds : {State : Type 0} → ℕ → Calls State → Type 0
WithinRounds {State} bound calls =
    (s : Settings) (S T : System State) (ms n total : ℕ) → Moment calls s S → IsClock ms → bound ≤ n → Rounds calls ms S n total T → Alive (seen_both calls T)
    → Through (seen_both calls T)

abbrev pub Within24 : {State : Type 0} → Calls State → Type 0
Within24 calls = WithinRounds 24 calls

-- R14.4: from any moment and at any clock so many rounds can be played as one likes: without this a link that sends at every look would meet Within24,
-- since none of its rounds ever ends.
pub record Played {State : Type 0} (calls : Calls State) (ms : ℕ) (S : System State) (n : ℕ) : Type 0 where
  pub end : System State
  pub total : ℕ
  pub rounds : Rounds calls ms S n total end

abbrev pub RoundsExist : {State : Type 0} → Calls State → Type 0
RoundsExist {State} calls = (s : Settings) (S : System State) (ms n : ℕ) → Moment calls s S → IsClock ms → Played calls ms S n

-- R13.5, R13.6: the whole, as a predicate of a link
pub record Demand3 {State : Type 0} (calls : Calls State) : Type 0 where
  pub first : FirstSoMany calls
  pub within : Within24 calls
  pub exist : RoundsExist calls

-- ---- beyond the demand: two statements that nobody asked for

-- The carrying of R6.5 ends, in every mixture. 4: a damaged frame costs itself, a NAK, a repeat and an ACK.
abbrev pub CarryingEnds : {State : Type 0} → Calls State → Type 0
CarryingEnds {State} calls =
    (s : Settings) (S T : System State) (ms : ℕ) → Moment calls s S → IsClock ms → (carries : Carries calls ms S T)
    → carried_in carries ≤ 4 * (length S.here.queue + length S.there.queue)

-- How long it takes by the clock. 22: at most 16 repeats that are left, 2 acknowledge timers and 4 packets not delivered, and each costs at most
-- one TRANS_TIMEOUT.
abbrev pub InMilliseconds : {State : Type 0} → Calls State → Type 0
InMilliseconds {State} calls =
    (s : Settings) (S T : System State) (ms n total : ℕ) → Moment calls s S → IsClock ms → Rounds calls ms S n total T → Alive (seen_both calls T)
    → total ≤ 22 * s.transtimeout

-- The wrong time left of specs/FalseTimes.antt, tried at one state that code can hold, by computing.
use Rattle.std.proofs.Common.{ℕ, false, [], ◌∷◌, refl, ap}
use Rattle.std.proofs.lemmas.Bool.{eqb-false}
use Rattle.state.specs.declared.Link.{Link}
use Rattle.state.specs.Timer.{time_left}
use Rattle.state.specs.FalseTimes.{OlderCounts}

-- packets 0 and 1 wait, sent at 0 and at 50
abbrev two : Link
two = record {
  settings = record { format = record { d = 16; order = 0 }; transtimeout = 100; acktimeout = 50; window = 2; repeats = 3 };
  starts = 0 ∷ 50 ∷ [];
  ackstart = 0;
  lengths = 1 ∷ 1 ∷ [];
  repeated = 0 ∷ 0 ∷ [];
  next = 2;
  expected = 0;
  waiting = 2;
  acking = false;
  nakmark = false;
  lost = false;
}

pub older_counts : OlderCounts
unfolding time_left
older_counts same = eqb-false 90 40 refl (ap (λ (f : Link → ℕ → ℕ). f two 60) same)

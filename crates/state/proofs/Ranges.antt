-- The test of the settings, clause by clause, and that the facts pass it. The facts themselves are Facts.antt's, which names no bound here.
use Rattle.std.proofs.Common.{◌≡◌, true, ◌&&◌, ltb, leb, lt-ltb, le-leb}
use Rattle.base.specs.Range.{within}
use Rattle.std.proofs.lemmas.Bool.{and_parts}
use Rattle.frame.specs.Bytes.{high_first}
use Rattle.state.specs.declared.Settings.{Settings}
use Rattle.state.specs.Bounds.{in_range}
use Rattle.state.specs.Formed.{InRange}

-- the clauses of `in_range`, each by itself
pub record Ranges (s : Settings) : Type 0 where
  pub d : within 16 s.format.d 1024 ≡ true
  pub window : within 1 s.window 2 ≡ true
  pub transtimeout : within 2 s.transtimeout 1000 ≡ true
  pub acktimeout : (leb 1 s.acktimeout && ltb s.acktimeout s.transtimeout) ≡ true
  pub repeats : within 1 s.repeats 4 ≡ true
  pub order : leb s.format.order high_first ≡ true

pub ranges : (s : Settings) → in_range s ≡ true → Ranges s
unfolding in_range
ranges s e =
    let e6 = and_parts _ _ e in
    let e5 = and_parts _ _ e6.0 in
    let e4 = and_parts _ _ e5.0 in
    let e3 = and_parts _ _ e4.0 in
    let e2 = and_parts _ _ e3.0 in
    record {
      d = e2.0;
      window = e2.1;
      transtimeout = e3.1;
      acktimeout = e4.1;
      repeats = e5.1;
      order = e6.1;
    }

pub facts_in_range : (s : Settings) → InRange s → in_range s ≡ true
unfolding in_range
facts_in_range s f =
    rw (
      le-leb 16 s.format.d f.d_lo,
      le-leb s.format.d 1024 f.d_hi,
      le-leb 1 s.window f.window_lo,
      le-leb s.window 2 f.window_hi,
      le-leb 2 s.transtimeout f.transtimeout_lo,
      le-leb s.transtimeout 1000 f.transtimeout_hi,
      le-leb 1 s.acktimeout f.acktimeout_lo,
      lt-ltb s.acktimeout s.transtimeout f.acktimeout_hi,
      le-leb 1 s.repeats f.repeats_lo,
      le-leb s.repeats 4 f.repeats_hi,
      le-leb s.format.order high_first f.order_hi,
    )

-- The true link: the calls of R1.3, by their contracts. What System, Round and Demand3 say of any link stands here of this one, under the same names, so
-- that what is proved of it need not name it.
use Rattle.std.specs.Prelude.{ℕ, List, ◌≡◌}
use Rattle.base.specs.Answer.{done}
use Rattle.state.specs.declared.Settings.{Settings}
use Rattle.state.specs.declared.Link.{Link}
use Rattle.state.specs.declared.Outcome.{Outcome}
use Rattle.state.specs.State.{fresh_of}
use Rattle.state.specs.Gate.{After, after}
use Rattle.state.specs.Calls.{started, resynchronised}
use Rattle.send.specs.Submit.{submitted}
use Rattle.receive.specs.Take.{frame_taken}
use Rattle.clock.specs.Look.{looked, acknowledged_now}
use Rattle.link.specs.FalseEnds.{Call, LookCall, Bare, outcome_of}
use Rattle.pair.specs.System as AnyLink
use Rattle.pair.specs.System.{Told, Calls}
use Rattle.pair.specs.Round as AnyRound
use Rattle.pair.specs.Demand3 as AnyDemand

-- what a call of the contracts tells, as a history reads it: how many packets were dropped is not asked, since none is in a history
abbrev pub read : After Outcome → After (Told Link)
read a =
    after (record { state = a.told.state; sent = a.told.sent; delivered = a.told.delivered; answer = a.told.answer }) a.slots a.frame

-- the link of five calls, whose state is what it is seen as
abbrev pub link_of : Call → Call → LookCall → Bare → Bare → Calls Link
link_of submit take look acknowledge resynchronise = record {
  seen = λ l. l;
  fresh = fresh_of;
  submit = λ l slots frame ms packet. read (submit l slots frame ms packet);
  take = λ l slots frame ms received. read (take l slots frame ms received);
  look = λ l slots frame ms. read (outcome_of (look l slots frame ms));
  acknowledge = λ l slots frame. read (acknowledge l slots frame);
  resynchronise = λ l slots frame. read (resynchronise l slots frame);
}

abbrev pub true_calls : Calls Link
true_calls = link_of submitted frame_taken looked acknowledged_now resynchronised

-- the same but for one call
abbrev pub with_submit : Call → Calls Link
with_submit call = link_of call frame_taken looked acknowledged_now resynchronised

abbrev pub with_take : Call → Calls Link
with_take call = link_of submitted call looked acknowledged_now resynchronised

abbrev pub with_look : LookCall → Calls Link
with_look call = link_of submitted frame_taken call acknowledged_now resynchronised

-- R5.2, R14.3: and whose ends begin as start leaves them
abbrev pub StartsFresh : Type 0
StartsFresh = (s : Settings) (slots : ℕ) → (started s slots).answer ≡ done → (started s slots).state ≡ true_calls.fresh s

-- ---- the names

abbrev pub Side : Type 0
Side = AnyLink.Side Link

abbrev pub System : Type 0
System = AnyLink.System Link

abbrev pub sent_by : After Outcome → List (List ℕ)
sent_by a = AnyLink.sent_by (read a)

abbrev pub delivered_by : After Outcome → List ℕ → List (List ℕ)
delivered_by a = AnyLink.delivered_by (read a)

abbrev pub taken_by : After Outcome → List ℕ → List (List ℕ)
taken_by a = AnyLink.taken_by (read a)

abbrev pub left_by : After Outcome → List ℕ → List (List ℕ) → List (List ℕ)
left_by a = AnyLink.left_by (read a)

abbrev pub called : System → After Outcome → List (List ℕ) → List (List ℕ) → List (List ℕ) → System
called S a = AnyLink.called S (read a)

abbrev pub submits : System → List ℕ → ℕ → List ℕ → System
submits = AnyLink.submits true_calls

abbrev pub takes : System → List ℕ → ℕ → List ℕ → List (List ℕ) → System
takes = AnyLink.takes true_calls

abbrev pub look_of : System → List ℕ → ℕ → After Outcome
look_of S frame ms = outcome_of (looked S.here.state S.here.slots frame ms)

abbrev pub looks : System → List ℕ → ℕ → System
looks = AnyLink.looks true_calls

abbrev pub acknowledges : System → List ℕ → System
acknowledges = AnyLink.acknowledges true_calls

abbrev pub fresh_side : Settings → List ℕ → Side
fresh_side = AnyLink.fresh_side true_calls

abbrev pub Move : System → System → Type 0
Move = AnyLink.Move true_calls

abbrev pub Moment : Settings → System → Type 0
Moment = AnyLink.Moment true_calls

abbrev pub Enough : System → List ℕ → Type 0
Enough = AnyRound.Enough true_calls

abbrev pub Carried : ℕ → System → System → Type 0
Carried = AnyRound.Carried true_calls

abbrev pub Carries : ℕ → System → System → Type 0
Carries = AnyRound.Carries true_calls

abbrev pub Looks : ℕ → System → System → Type 0
Looks = AnyRound.Looks true_calls

abbrev pub Round : ℕ → System → ℕ → System → Type 0
Round = AnyRound.Round true_calls

abbrev pub Rounds : ℕ → System → ℕ → ℕ → System → Type 0
Rounds = AnyRound.Rounds true_calls

abbrev pub Played : ℕ → System → ℕ → Type 0
Played = AnyDemand.Played true_calls

-- Wrong links, and what of the third demand (R14.3, R14.4) each breaks: proofs/Refuted.antt shows it by a history of each, computed. Then wrong
-- links that this demand, or a half of it, does not see: proofs/Unseen.antt. An end of one call alone is in FalseEnds.antt (link), where the call's
-- own equation shuts it out.
use Rattle.std.specs.Prelude.{ℕ, ◌+◌, ◌*◌, true, false, cond, List, [], ◌∷◌, ◌++◌, ◌≡◌, take, drop, eqb}
use Rattle.base.specs.Answer.{done}
use Rattle.base.specs.Buffer.{put}
use Rattle.frame.specs.Bytes.{data_frame}
use Rattle.frame.specs.Steps.{fctr_of, is_control, number_of}
use Rattle.state.specs.declared.Link.{Link}
use Rattle.state.specs.declared.Outcome.{Outcome}
use Rattle.state.specs.Bounds.{slots_need}
use Rattle.state.specs.Fields.{with_expected}
use Rattle.state.specs.State.{fresh_of, slot_of}
use Rattle.state.specs.Gate.{After, after}
use Rattle.state.specs.Calls.{resynchronised}
use Rattle.send.specs.Submit.{submitted}
use Rattle.send.specs.Makers.{concluded, sends_ack}
use Rattle.receive.specs.Take.{frame_taken}
use Rattle.clock.specs.Look.{looking, looked, acknowledged_now}
use Rattle.link.specs.FalseEnds.{Call, LookCall, outcome_of, look_but, refuse, refusing, repeating, idle, pretending, inventing, over_gap, never_acks, looked_when, compared_by_size, by_size_wrapped}
use Rattle.pair.specs.System.{Calls, swap, with_queue}
use Rattle.pair.specs.Demand3.{FirstSoManyOf, FirstSoMany, Within24, RoundsExist, Demand3}
use Rattle.pair.specs.TrueCalls.{System, link_of, with_submit, with_take, with_look, true_calls}
use Rattle.pair.specs.Run.{settings, loan_a, loan_b}
use Rattle.pair.specs.History.{Step, desk, chip, submits-at, takes_at, looks-at, acknowledges-now, told, run}

-- ---- R11.1: frames are kept, and sent again as they were

-- a packet's frame is kept behind the slots, which may be lent longer than is needed
abbrev pub kept_at : Link → ℕ → ℕ
kept_at l number = slots_need l.settings + slot_of l number * l.settings.format.d

unfoldable pub keeping : Call
unfolding submitted put
keeping l slots frame ms packet =
    let right : After Outcome = submitted l slots frame ms packet in
    cond (eqb right.told.answer done)
    (after right.told (put right.slots (kept_at l l.next) (take right.told.sent right.frame)) right.frame) right

-- the only data that take and look send is repeated: the kept bytes go out in its place, with the acknowledgement of the first sending
unfoldable pub as_kept : Link → After Outcome → After Outcome
unfolding put
as_kept l right =
    let kept : List ℕ = drop (kept_at l (number_of (fctr_of right.frame))) right.slots in
    cond (eqb right.told.sent 0) right
    (cond (is_control (fctr_of right.frame)) right (after right.told right.slots (put right.frame 0 (take right.told.sent kept))))

unfoldable pub taken_kept : Call
unfolding frame_taken as_kept
taken_kept l slots frame ms received = as_kept l (frame_taken l slots frame ms received)

unfoldable pub looked_kept : LookCall
unfolding looked as_kept
looked_kept l slots frame ms = looking (as_kept l (outcome_of (looked l slots frame ms)))

abbrev pub storing : Calls Link
storing = link_of keeping taken_kept looked_kept acknowledged_now resynchronised

-- ---- an end that does not begin fresh: it expects number 2

abbrev pub late : Calls Link
late = record {
  seen = true_calls.seen;
  fresh = λ s. with_expected (fresh_of s) 2;
  submit = true_calls.submit;
  take = true_calls.take;
  look = true_calls.look;
  acknowledge = true_calls.acknowledge;
  resynchronise = true_calls.resynchronise;
}

-- ---- what each breaks

-- R13.4: the fourth wrong end of R13.3 is `pretends_on`, the third, where it claims a packet, `claims`. R11.5: `skips`. R11.2: `by_size`, of a
-- deadline that does not wrap, and `by_size_wrapped_lem`, of one that does. `owes`: look never sends the ACK that is owed.
pub record Refuted : Type 0 where
  pub repeats : FirstSoMany (with_submit (repeating (data_frame settings.format 0 3 loan_a))) → ⊥
  pub invents : FirstSoMany (with_take (inventing 1 0)) → ⊥
  pub pretends : FirstSoMany (with_submit pretending) → ⊥
  pub pretends_on : Within24 (with_submit pretending) → ⊥
  pub claims : Within24 (with_submit idle) → ⊥
  pub skips : FirstSoMany (with_take over_gap) → ⊥
  pub by_size : Within24 (with_look (looked_when compared_by_size)) → ⊥
  pub by_size_wrapped_lem : Within24 (with_look (looked_when by_size_wrapped)) → ⊥
  pub owes : Within24 (with_look (look_but never_acks)) → ⊥
  pub forgets : Within24 storing → ⊥
  pub confuses : FirstSoMany storing → ⊥
  pub begins_late : FirstSoMany late → ⊥

-- ---- what the line may not do, or the true link itself breaks the first half

-- the queue towards the chip, another one
abbrev pub to_chip : System → (List (List ℕ) → List (List ℕ)) → System
to_chip S other = swap (with_queue (swap S) (other S.there.queue))

-- it forges: in place of the frame of loan A the chip gets a right one of loan B
abbrev pub forged : System
forged =
    told true_calls (to_chip (run true_calls (desk (submits-at 0 loan_a) ∷ [])) (λ queue. data_frame settings.format 0 3 loan_b ∷ [])) (chip (takes_at 1) ∷ [])

-- it does not keep order: the first frame of loan A falls behind its repeat and then behind the next three packets, and comes when the chip
-- expects its number again
abbrev pub behind_all : List (List ℕ) → List (List ℕ)
behind_all [] = []
behind_all (x ∷ q) = q ++ (x ∷ [])

abbrev pub passed_by : List ℕ → System → System
passed_by packet S =
    to_chip (told true_calls S (chip (takes_at 101) ∷ chip acknowledges-now ∷ desk (takes_at 102) ∷ desk (submits-at 103 packet) ∷ [])) behind_all

abbrev pub overtaken : System
overtaken =
    told true_calls
    (passed_by loan_b (passed_by loan_b (passed_by loan_b (to_chip (run true_calls (desk (submits-at 0 loan_a) ∷ desk (looks-at 100) ∷ [])) behind_all))))
    (chip (takes_at 104) ∷ chip (takes_at 105) ∷ [])

pub record LineKept : Type 0 where
  pub forges : FirstSoManyOf forged.there.delivered forged.here.taken → ⊥
  pub reorders : FirstSoManyOf overtaken.there.delivered overtaken.here.taken → ⊥

-- ---- what demand 3 does not see, and the calls' equations do

-- R13.4, the first wrong end: every call refuses, by whatever number but 0, and no packet is taken
abbrev pub refusing_all : ℕ → Calls Link
refusing_all answer =
    link_of (refusing answer) (refusing answer) (look_but (refuse answer)) (refuse answer acknowledged_now) (refuse answer resynchronised)

-- every look sends an ACK: no round ends, so the second half holds of nothing
abbrev pub chatting : LookCall
chatting l slots frame ms = looking (concluded (sends_ack l frame) done 0 slots)

-- A deadline that wraps, compared with the clock by size, fails in a second way beside `by_size_wrapped_lem`: 20 ms before the wrap the timer of a
-- packet just sent is due at once. The repeats are spent within a millisecond, nothing being lost or damaged, and the link is declared lost, which
-- the second half's condition leaves out.
abbrev pub hasty : List Step
hasty = desk (submits-at 4294967276 loan_a) ∷ desk (looks-at 4294967276) ∷ desk (looks-at 4294967276) ∷ desk (looks-at 4294967276) ∷ []

-- `refuses`: R13.4. `drops`: how many packets were dropped is in no history, so a link that invents it is to demand 3 the true one
pub record Unseen : Type 0 where
  pub refuses : (answer : ℕ) → (answer ≡ done → ⊥) → Demand3 (refusing_all answer)
  pub chats : FirstSoMany (with_look chatting) × Within24 (with_look chatting)
  pub chats_on : RoundsExist (with_look chatting) → ⊥
  pub drops : (dropped : ℕ) → with_take (inventing 0 dropped) ≡ true_calls
  pub loses : (run (with_look (looked_when by_size_wrapped)) hasty).here.state.lost ≡ true
  pub keeps : (run true_calls hasty).here.state.lost ≡ false

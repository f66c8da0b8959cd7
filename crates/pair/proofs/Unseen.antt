-- The links of specs/FalseCalls.antt that demand 3, or a half of it, does not see.
use Rattle.std.proofs.Common.{◌≡◌, refl, sym, ap, subst, ◌∙◌, true, false, List, [], ◌∷◌, append-nil, ℕ, ◌+◌, ◌≤◌, add-zero, arith, ne_eqb, length, take, drop, take_at, eqb}
use Rattle.base.specs.Answer.{done}
use Rattle.base.specs.Buffer.{put}
use Rattle.fcs.specs.Checksum.{checksum_of}
use Rattle.frame.specs.declared.Format.{Format}
use Rattle.frame.specs.Bytes.{frame_of, ack_frame}
use Rattle.frame.proofs.Writing.{frame_of-length}
use Rattle.state.specs.declared.Settings.{Settings}
use Rattle.state.specs.Bounds.{in_range, frame_need}
use Rattle.state.specs.State.{last_correct, fresh_of}
use Rattle.state.specs.declared.Outcome.{Outcome}
use Rattle.state.specs.Gate.{After, after, refused}
use Rattle.state.specs.Timer.{onward}
use Rattle.state.specs.Formed.{InRange}
use Rattle.send.specs.Submit.{submitted}
use Rattle.send.specs.Makers.{concluded, sends_ack}
use Rattle.receive.specs.Take.{frame_taken}
use Rattle.clock.specs.Look.{looked}
use Rattle.link.specs.FalseEnds.{inventing, looked_when, by_size_wrapped}
use Rattle.pair.specs.System.{swap, Harm, lost, damaged, later, IsClock, Move, submit, take_head, look, acknowledge, resynchronise, harm, Moment, start}
use Rattle.pair.specs.Round as Rounding
use Rattle.pair.specs.Round.{Carried, head, Carries, none, stays, Looks, nothing, sends-on, Round, round, other-first, Rounds, begin, next}
use Rattle.pair.specs.Demand3.{FirstSoManyOf, Through, Demand3, Played, RoundsExist}
use Rattle.pair.specs.TrueCalls.{System, sent_by, called, fresh_side, with_take, with_look, true_calls}
use Rattle.pair.specs.Run.{settings, slots, moment0}
use Rattle.pair.specs.History.{run}
use Rattle.pair.specs.FalseCalls.{refusing_all, chatting, hasty, Unseen}
use Rattle.pair.proofs.Invariant.{Inv, inv_first}
use Rattle.pair.proofs.Calls.{called-turned, inv_acked}
use Rattle.pair.proofs.Moments.{moment_holds}
use Rattle.pair.proofs.Moves.{moment_holds_by}
use Rattle.pair.proofs.Exist.{blank, blank_length}
use Rattle.pair.proofs.Acts.{still}

-- ---- every look sends

ack_size : (format : Format) (number : ℕ) → length (ack_frame format number) ≡ 5
ack_size format number = frame_of-length format (0x80 + number) []

chat : (ms : ℕ) (S T : System) → Looks (with_look chatting) ms S T → ⊥
chat ms S T (nothing S₁ frame room z) = omega (arith, z, ack_size S.here.state.settings.format (last_correct S.here.state))
chat ms S T (sends-on S₁ T₁ frame room n rest) = chat ms _ T rest

no_round : (ms passed : ℕ) (S T : System) → Round (with_look chatting) ms S passed T → ⊥
no_round ms passed S W (round S₁ T U W₁ passed₁ carries no_here no_there p looks_here looks_there) = chat _ T U looks_here
no_round ms passed S W (other-first S₁ W₁ passed₁ k) = no_round ms passed (swap S) (swap W) k

no_rounds : (ms n total : ℕ) (S T : System) → 1 ≤ n → Rounds (with_look chatting) ms S n total T → ⊥
no_rounds ms n total S T h begin = omega (arith, h)
no_rounds ms n total S U h (next n₁ total₁ passed T U₁ rounds turn) = no_round _ passed T U turn

begun : Moment (with_look chatting) settings moment0
unfolding in_range
begun = start slots slots refl (omega arith) (omega arith)

chats_on : RoundsExist (with_look chatting) → ⊥
chats_on f =
    let p : Played (with_look chatting) 0 moment0 1 = f settings moment0 0 1 begun (omega arith) in
    no_rounds 0 1 p.total moment0 p.end (omega arith) p.rounds

-- in its moments what holds of the true link's holds, too: an ACK may go at any time
chat_sent : (frame bytes : List ℕ) → take (length bytes) (put frame 0 bytes) ≡ bytes
unfolding put
chat_sent frame bytes = take_at bytes (drop (0 + length bytes) frame) (length bytes) refl

chat_look : (s : Settings) (S : System) (frame : List ℕ) → InRange s → Inv s S
    → Inv s (called S (concluded (sends_ack S.here.state frame) done 0 S.here.slots) S.here.queue [] [])
chat_look s S frame r I =
    let bytes : List ℕ = ack_frame S.here.state.settings.format (last_correct S.here.state) in
    let some : eqb (length bytes) 0 ≡ false = ne_eqb (length bytes) 0 (λ q. omega (arith, q, ack_size S.here.state.settings.format (last_correct S.here.state))) in
    let sent : sent_by (concluded (sends_ack S.here.state frame) done 0 S.here.slots) ≡ bytes ∷ [] = rw (some, chat_sent frame bytes) in
    subst (Inv s) (sym (called-turned S (concluded (sends_ack S.here.state frame) done 0 S.here.slots) S.here.queue (bytes ∷ []) sent refl)) (inv_acked s S r I)

chat_moment : (s : Settings) (S : System) → Moment (with_look chatting) s S → Inv s S
chat_moment s S m = moment_holds_by chatting s S (λ r S frame ms c I. chat_look s S frame r I) m

-- ---- every call refuses

-- both ends are as they began, and nothing is on its way
abbrev at_start : Settings → List ℕ → List ℕ → System
at_start s slots slots2 = record { here = fresh_side s slots; there = fresh_side s slots2 }

no_head : (x : List ℕ) (q : List (List ℕ)) → ◌≡◌ {A = List (List ℕ)} [] (x ∷ q) → ⊥
no_head x q e = omega (arith, ap length e)

no_harm : (format : Format) (q r : List (List ℕ)) → q ≡ [] → Harm format q r → ⊥
no_harm format q r e (lost x q₁) = no_head x q₁ (sym e)
no_harm format q r e (damaged x y q₁ h) = no_head x q₁ (sym e)
no_harm format q r e (later x q₁ r₁ h) = no_head x q₁ (sym e)

-- a refusal leaves all as it was
refused_same : (answer : ℕ) (S : System) (frame : List ℕ) → called S (refused S.here.state answer S.here.slots frame) S.here.queue [] [] ≡ S
refused_same answer S frame = rw (append-nil S.here.taken, append-nil S.here.delivered, append-nil S.there.queue)

module _ (answer : ℕ) (no : answer ≡ done → ⊥) where
  move_same : (S T : System) → S.here.queue ≡ [] → Move (refusing_all answer) S T → T ≡ S
  move_same S T no_here (submit frame packet ms c) = rw (ne_eqb answer done no) (refused_same answer S frame)
  move_same S T no_here (take_head frame received rest ms c e) = absurd (no_head received rest (sym no_here ∙ e))
  move_same S T no_here (look frame ms c) = refused_same answer S frame
  move_same S T no_here (acknowledge frame) = refused_same answer S frame
  move_same S T no_here (resynchronise frame n) = refused_same answer S frame
  move_same S T no_here (harm queue k) = absurd (no_harm _ S.here.queue queue no_here k)

  record Begun (s : Settings) (S : System) : Type 0 where
    slots : List ℕ
    slots2 : List ℕ
    same : S ≡ at_start s slots slots2

  begun-move : (s : Settings) (S T : System) → Move (refusing_all answer) S T → Begun s S → Begun s T
  begun-move s S T v b = record { slots = b.slots; slots2 = b.slots2; same = move_same S T (ap (λ (X : System). X.here.queue) b.same) v ∙ b.same }

  begun-moment : (s : Settings) (S : System) → Moment (refusing_all answer) s S → Begun s S
  begun-moment s S m =
      moment_holds (refusing_all answer) s (Begun s) (λ S b. record { slots = b.slots2; slots2 = b.slots; same = ap swap b.same })
      (λ slots slots2 h k. record { slots = slots; slots2 = slots2; same = refl }) (begun-move s) S m

  no-carried : (ms : ℕ) (S T : System) → S.here.queue ≡ [] → Carried (refusing_all answer) ms S T → ⊥
  no-carried ms S T no_here (head frame received rest room e) = no_head received rest (sym no_here ∙ e)

  carries_same : (ms : ℕ) (S T : System) → S.here.queue ≡ [] → S.there.queue ≡ [] → Carries (refusing_all answer) ms S T → T ≡ S
  carries_same ms S T no_here no_there (none S₁) = refl
  carries_same ms S U no_here no_there (Rounding.here S₁ T U₁ k more) = absurd (no-carried ms S T no_here k)
  carries_same ms S U no_here no_there (Rounding.there S₁ T U₁ k more) = absurd (no-carried ms (swap S) (swap T) no_there k)

  looks-same : (ms : ℕ) (S T : System) → Looks (refusing_all answer) ms S T → T ≡ S
  looks-same ms S T (nothing S₁ frame room z) = refused_same answer S frame
  looks-same ms S T (sends-on S₁ T₁ frame room n more) = absurd (n refl)

  round_same : (ms passed : ℕ) (S W : System) → S.here.queue ≡ [] → S.there.queue ≡ [] → Round (refusing_all answer) ms S passed W → W ≡ S
  round_same ms passed S W no_here no_there (round S₁ T U W₁ passed₁ carries _ _ p looks_here looks_there) =
      ap swap (looks-same _ (swap U) (swap W) looks_there) ∙ looks-same _ T U looks_here ∙ carries_same ms S T no_here no_there carries
  round_same ms passed S W no_here no_there (other-first S₁ W₁ passed₁ k) = ap swap (round_same ms passed (swap S) (swap W) no_there no_here k)

  rounds-same : (ms : ℕ) (S : System) (n total : ℕ) (T : System) → S.here.queue ≡ [] → S.there.queue ≡ [] → Rounds (refusing_all answer) ms S n total T → T ≡ S
  rounds-same ms S n total T no_here no_there begin = refl
  rounds-same ms S n total U no_here no_there (next n₁ total₁ passed T U₁ rounds turn) =
      let before : T ≡ S = rounds-same ms S n₁ total₁ T no_here no_there rounds in
      round_same _ passed T U (ap (λ (X : System). X.here.queue) before ∙ no_here) (ap (λ (X : System). X.there.queue) before ∙ no_there) turn ∙ before

  start_first : (s : Settings) (S : System) → Begun s S → FirstSoManyOf S.there.delivered S.here.taken × FirstSoManyOf S.here.delivered S.there.taken
  start_first s S b =
      subst (λ (X : System). FirstSoManyOf X.there.delivered X.here.taken × FirstSoManyOf X.here.delivered X.there.taken) (sym b.same) (refl, refl)

  start-through : (s : Settings) (S : System) → Begun s S → Through S
  unfolding fresh_of
  start-through s S b = subst Through (sym b.same) (record { forth = refl; back = refl; window_here = refl; window_there = refl })

  start-looks : (ms : ℕ) (S : System) → Looks (refusing_all answer) ms S S
  start-looks ms S =
      let frame : List ℕ = blank (frame_need S.here.state.settings) in
      subst (λ T. Looks (refusing_all answer) ms S T) (refused_same answer S frame) (nothing S frame (omega (arith, blank_length (frame_need S.here.state.settings))) refl)

  start-played : (s : Settings) (S : System) (ms n : ℕ) → IsClock ms → Begun s S → Played (refusing_all answer) ms S n
  unfolding fresh_of
  start-played s S ms n c b =
      let X : System = at_start s b.slots b.slots2 in
      let turn : Round (refusing_all answer) ms X 0 X = round X X X X 0 (none X) refl refl (stays refl) (start-looks (onward ms 0) X) (start-looks (onward ms 0) (swap X)) in
      subst (λ (Y : System). Played (refusing_all answer) ms Y n) (sym b.same) (record { end = X; total = 0; rounds = still (refusing_all answer) ms X c turn n })

  refuses : Demand3 (refusing_all answer)
  refuses = record {
    first = λ s S m. start_first s S (begun-moment s S m);
    within = λ s S T ms n total m c h k alive. let b : Begun s S = begun-moment s S m in
        subst Through (sym (rounds-same ms S n total T (ap (λ (X : System). X.here.queue) b.same) (ap (λ (X : System). X.there.queue) b.same) k)) (start-through s S b);
    exist = λ s S ms n m c. start-played s S ms n c (begun-moment s S m);
  }

-- ---- drop counts

drops : (dropped : ℕ) → with_take (inventing 0 dropped) ≡ true_calls
drops dropped = λ i. record {
  seen = true_calls.seen;
  fresh = true_calls.fresh;
  submit = true_calls.submit;
  take = λ l slots frame ms received. let right : After Outcome = frame_taken l slots frame ms received in
      after (record { state = right.told.state; sent = right.told.sent; delivered = add-zero right.told.delivered i; answer = right.told.answer }) right.slots right.frame;
  look = true_calls.look;
  acknowledge = true_calls.acknowledge;
  resynchronise = true_calls.resynchronise;
}

-- ---- a deadline that wraps, compared by size, computed

hasty_lost : (run (with_look (looked_when by_size_wrapped)) hasty).here.state.lost ≡ true
unfolding submitted looked_when fresh_of put frame_of checksum_of
hasty_lost = refl

hasty_alive : (run true_calls hasty).here.state.lost ≡ false
unfolding submitted looked fresh_of put frame_of checksum_of
hasty_alive = refl

pub unseen : Unseen
unseen = record {
  refuses = refuses;
  chats = (λ s S m. inv_first s S (chat_moment s S m), λ s S T ms n total m c h k alive. absurd (no_rounds ms n total S T (omega (arith, h)) k));
  chats_on = chats_on;
  drops = drops;
  loses = hasty_lost;
  keeps = hasty_alive;
}

-- Looks in any mixture leave what looks at one end after the other leave.
use Rattle.std.proofs.Common.{◌≡◌, refl, sym, ap, subst, ◌∙◌, Bool, true, false, List, ℕ, ◌≤◌, length}
use Rattle.state.specs.Bounds.{frame_need}
use Rattle.pair.specs.System.{Calls, System, swap, look_of, looks}
use Rattle.pair.specs.Round.{Enough, Looks, nothing, sends-on}
use Rattle.pair.specs.Mixture.{Mixed, over, here-sends, here-nothing, there-sends, there-nothing, AnyMixture}

module _ {State : Type 0} (calls : Calls State) (ms : ℕ) where
  -- looks at the end here, or none where it has sent nothing already
  abbrev Looked : Bool → System State → System State → Type 0
  Looked true S T = S ≡ T
  Looked false S T = Looks calls ms S T

  -- a look there and then looks here: the same looks here, and then the look there, of the same state and slots
  record After (S T : System State) (done : Bool) (frame : List ℕ) : Type 0 where
    between : System State
    looked : Looked done S between
    then : T ≡ swap (looks calls (swap between) frame ms)
    state : between.there.state ≡ S.there.state
    slots : between.there.slots ≡ S.there.slots

  later : (S X T : System State) (frame : List ℕ) → X ≡ swap (looks calls (swap S) frame ms) → Looks calls ms X T → After S T false frame
  later S X T frame e (nothing X₁ own room z) = record {
    between = looks calls S own ms;
    looked = nothing S own (subst (λ (Y : System State). Enough calls Y own) e room) (subst (λ (Y : System State). (look_of calls Y own ms).told.sent ≡ 0) e z);
    then = ap (λ (Y : System State). looks calls Y own ms) e;
    state = refl;
    slots = refl;
  }
  later S X T frame e (sends-on X₁ T₁ own room n rest) =
      let k : After (looks calls S own ms) T false frame = later (looks calls S own ms) (looks calls X own ms) T frame (ap (λ (Y : System State). looks calls Y own ms) e) rest in
      record {
        between = k.between;
        looked = sends-on S k.between own (subst (λ (Y : System State). Enough calls Y own) e room) (subst (λ (Y : System State). (look_of calls Y own ms).told.sent ≡ 0 → ⊥) e n) k.looked;
        then = k.then;
        state = k.state;
        slots = k.slots;
      }

  moved : (done : Bool) (S T : System State) (frame : List ℕ) → Looked done (swap (looks calls (swap S) frame ms)) T → After S T done frame
  moved true S T frame e = record { between = S; looked = refl; then = sym e; state = refl; slots = refl }
  moved false S T frame k = later S (swap (looks calls (swap S) frame ms)) T frame refl k

  -- looks here and then looks there, each until nothing is sent, or none
  record Halves (here_done there_done : Bool) (S T : System State) : Type 0 where
    between : System State
    here : Looked here_done S between
    there : Looked there_done (swap between) (swap T)

  -- the first look there, put behind the looks here
  record Behind (S T : System State) (done : Bool) (frame : List ℕ) : Type 0 where
    between : System State
    here : Looked done S between
    room : Enough calls (swap between) frame
    same : look_of calls (swap between) frame ms ≡ look_of calls (swap S) frame ms
    then : swap T ≡ looks calls (swap between) frame ms

  behind : (done : Bool) (S T : System State) (frame : List ℕ) → Enough calls (swap S) frame → Looked done (swap (looks calls (swap S) frame ms)) T → Behind S T done frame
  behind done S T frame room k =
      let m : After S T done frame = moved done S T frame k in
      record {
        between = m.between;
        here = m.looked;
        room = subst (λ (x : State). frame_need (calls.seen x).settings ≤ length frame) (sym m.state) room;
        same = λ i. calls.look (m.state i) (m.slots i) frame ms;
        then = ap swap m.then;
      }

  mixed : (here_done there_done : Bool) (S T : System State) → Mixed calls ms here_done there_done S T → Halves here_done there_done S T
  mixed true true S T (over S₁) = record { between = S; here = refl; there = refl }
  mixed false b S T (here-sends S₁ T₁ b₁ frame room n rest) =
      let k : Halves false b (looks calls S frame ms) T = mixed false b (looks calls S frame ms) T rest in
      record { between = k.between; here = sends-on S k.between frame room n k.here; there = k.there }
  mixed false b S T (here-nothing S₁ T₁ b₁ frame room z rest) =
      let k : Halves true b (looks calls S frame ms) T = mixed true b (looks calls S frame ms) T rest in
      record { between = k.between; here = subst (λ U. Looks calls ms S U) k.here (nothing S frame room z); there = k.there }
  mixed a false S T (there-sends S₁ T₁ a₁ frame room n rest) =
      let k : Halves a false (swap (looks calls (swap S) frame ms)) T = mixed a false (swap (looks calls (swap S) frame ms)) T rest in
      let m : Behind S k.between a frame = behind a S k.between frame room k.here in
      record {
        between = m.between;
        here = m.here;
        there = sends-on (swap m.between) (swap T) frame m.room (λ z. n (sym (ap (λ a. a.told.sent) m.same) ∙ z)) (subst (λ U. Looks calls ms U (swap T)) m.then k.there);
      }
  mixed a false S T (there-nothing S₁ T₁ a₁ frame room z rest) =
      let k : Halves a true (swap (looks calls (swap S) frame ms)) T = mixed a true (swap (looks calls (swap S) frame ms)) T rest in
      let m : Behind S k.between a frame = behind a S k.between frame room k.here in
      record {
        between = m.between;
        here = m.here;
        there = subst (λ U. Looks calls ms (swap m.between) U) (sym m.then ∙ k.there) (nothing (swap m.between) frame m.room (ap (λ a. a.told.sent) m.same ∙ z));
      }

pub any_mixture : {State : Type 0} (calls : Calls State) → AnyMixture calls
any_mixture calls ms S T k = let h : Halves calls ms false false S T = mixed calls ms false false S T k in record { between = h.between; here = h.here; there = h.there }

-- Two ends of any link, two queues, and all that can happen to them, for the third demand: R14.3.
use Rattle.std.specs.Prelude.{ℕ, ◌<◌, ◌≤◌, true, cond, List, [], ◌∷◌, ◌++◌, ◌≡◌, ◌⊎◌, length, take, eqb}
use Rattle.base.specs.Answer.{done, short_buffer}
use Rattle.frame.specs.declared.Format.{Format}
use Rattle.frame.specs.declared.Heard.TheVariants.{Size, Sum}
use Rattle.frame.specs.Steps.{heard, packet_in}
use Rattle.state.specs.declared.Settings.{Settings}
use Rattle.state.specs.declared.Link.{Link}
use Rattle.state.specs.Bounds.{in_range, slots_need}
use Rattle.state.specs.Gate.{After}

-- ---- a link

-- R1.5, what a history is read off: the next state, how long the frame sent is and the packet delivered, and the answer
pub record Told (State : Type 0) : Type 0 where
  pub state : State
  pub sent : ℕ
  pub delivered : ℕ
  pub answer : ℕ

-- a link: states of any type, and each seen as one of R5.1; the state that start gives with answer 0; and the calls, each of a state, the
-- slots, the frame buffer, and what else it is given. The demand is said of any such link: of the one that the contracts are about
-- (TrueCalls.antt) it is proved, of wrong ones (FalseCalls.antt) it is refuted. Who shows it of another link must show, too, that `seen` is what
-- its states mean and `fresh` what its start gives: seen as always lost, any link would meet the second half.
pub record Calls (State : Type 0) : Type 0 where
  pub seen : State → Link
  pub fresh : Settings → State
  pub submit : State → List ℕ → List ℕ → ℕ → List ℕ → After (Told State)
  pub take : State → List ℕ → List ℕ → ℕ → List ℕ → After (Told State)
  pub look : State → List ℕ → List ℕ → ℕ → After (Told State)
  pub acknowledge : State → List ℕ → List ℕ → After (Told State)
  pub resynchronise : State → List ℕ → List ℕ → After (Told State)

-- ---- what there is

-- an end, the queue towards it, the first to arrive first, and what its calls have told: the packets that submit took there, and those that
-- take delivered there, in order
pub record Side (State : Type 0) : Type 0 where
  pub state : State
  pub slots : List ℕ
  pub queue : List (List ℕ)
  pub taken : List (List ℕ)
  pub delivered : List (List ℕ)

pub record System (State : Type 0) : Type 0 where
  pub here : Side State
  pub there : Side State

-- the same two ends, looked at from the other one
abbrev pub swap : {State : Type 0} → System State → System State
swap S = record { here = S.there; there = S.here }

-- an end with another queue towards it
abbrev pub requeued : {State : Type 0} → Side State → List (List ℕ) → Side State
requeued x queue = record { state = x.state; slots = x.slots; queue = queue; taken = x.taken; delivered = x.delivered }

-- the same two ends, their states seen as those of R5.1
abbrev pub seen_side : {State : Type 0} → Calls State → Side State → Side Link
seen_side calls x = record { state = calls.seen x.state; slots = x.slots; queue = x.queue; taken = x.taken; delivered = x.delivered }

abbrev pub seen_both : {State : Type 0} → Calls State → System State → System Link
seen_both calls S = record { here = seen_side calls S.here; there = seen_side calls S.there }

-- ---- a call of the end here

-- R1.4: the frame that went out, so many bytes of the frame buffer as it tells
abbrev pub sent_by : {State : Type 0} → After (Told State) → List (List ℕ)
sent_by a = cond (eqb a.told.sent 0) [] (take a.told.sent a.frame ∷ [])

-- R4.7: the packet that it delivered, so many bytes of the received frame, from byte 3 on, as it tells
abbrev pub delivered_by : {State : Type 0} → After (Told State) → List ℕ → List (List ℕ)
delivered_by a received = cond (eqb a.told.delivered 0) [] (packet_in received a.told.delivered ∷ [])

-- R14.3: the packet that submit took: it answered 0
abbrev pub taken_by : {State : Type 0} → After (Told State) → List ℕ → List (List ℕ)
taken_by a packet = cond (eqb a.told.answer done) (packet ∷ []) []

-- R8.2 (DECISIONS D25): what is left of the queue. After 2 the frame is handed over again; any other answer uses it up.
abbrev pub left_by : {State : Type 0} → After (Told State) → List ℕ → List (List ℕ) → List (List ℕ)
left_by a received rest = cond (eqb a.told.answer short_buffer) (received ∷ rest) rest

-- R14.3: what is sent goes behind what is on its way
abbrev pub queued : List (List ℕ) → List (List ℕ) → List (List ℕ)
queued queue sent = queue ++ sent

-- R14.3: the system after a call, with the state and the slots that it left, its queue, and what it took and delivered; no move but a call
-- changes a state or a slot
abbrev pub called : {State : Type 0} → System State → After (Told State) → List (List ℕ) → List (List ℕ) → List (List ℕ) → System State
called S a queue taken delivered = record {
  here = record {
    state = a.told.state;
    slots = a.slots;
    queue = queue;
    taken = S.here.taken ++ taken;
    delivered = S.here.delivered ++ delivered;
  };
  there = requeued S.there (queued S.there.queue (sent_by a));
}

abbrev pub submits : {State : Type 0} → Calls State → System State → List ℕ → ℕ → List ℕ → System State
submits {State} calls S frame ms packet =
    let a : After (Told State) = calls.submit S.here.state S.here.slots frame ms packet in
    called S a S.here.queue (taken_by a packet) []

abbrev pub takes : {State : Type 0} → Calls State → System State → List ℕ → ℕ → List ℕ → List (List ℕ) → System State
takes {State} calls S frame ms received rest =
    let a : After (Told State) = calls.take S.here.state S.here.slots frame ms received in
    called S a (left_by a received rest) [] (delivered_by a received)

-- a call that takes and delivers nothing
abbrev pub turns : {State : Type 0} → System State → After (Told State) → System State
turns S a = called S a S.here.queue [] []

abbrev pub look_of : {State : Type 0} → Calls State → System State → List ℕ → ℕ → After (Told State)
look_of calls S frame ms = calls.look S.here.state S.here.slots frame ms

abbrev pub looks : {State : Type 0} → Calls State → System State → List ℕ → ℕ → System State
looks calls S frame ms = turns S (look_of calls S frame ms)

abbrev pub acknowledges : {State : Type 0} → Calls State → System State → List ℕ → System State
acknowledges calls S frame = turns S (calls.acknowledge S.here.state S.here.slots frame)

abbrev pub reset_of : {State : Type 0} → Calls State → System State → List ℕ → After (Told State)
reset_of calls S frame = calls.resynchronise S.here.state S.here.slots frame

-- ---- the line

-- R14.3: a frame of the queue is lost, or damaged to any bytes that step 1 refuses, by their size (17) or by their checksum (6)
pub data Harm (format : Format) : List (List ℕ) → List (List ℕ) → Type 0 where
  lost : (x : List ℕ) (q : List (List ℕ)) → Harm format (x ∷ q) q
  damaged : (x y : List ℕ) (q : List (List ℕ)) → (heard format y ≡ Size) ⊎ (heard format y ≡ Sum) → Harm format (x ∷ q) (y ∷ q)
  later : (x : List ℕ) (q r : List (List ℕ)) → Harm format q r → Harm format (x ∷ q) (x ∷ r)

abbrev pub with_queue : {State : Type 0} → System State → List (List ℕ) → System State
with_queue S queue = record { here = requeued S.here queue; there = S.there }

-- ---- moves

-- R1.3: a millisecond has 32 bits
abbrev pub IsClock : ℕ → Type 0
IsClock ms = ms < 4294967296

-- R14.3: one move of the end here or of the queue towards it, with any millisecond and a frame buffer of any bytes and any length. A resynchronise that
-- is refused is one; one that is done is none: what the demand speaks of is then over, until both ends are fresh and nothing is on its way.
pub data Move {State : Type 0} (calls : Calls State) (S : System State) : System State → Type 0 where
  submit : (frame packet : List ℕ) (ms : ℕ) → IsClock ms → Move calls S (submits calls S frame ms packet)
  take_head : (frame received : List ℕ) (rest : List (List ℕ)) (ms : ℕ) → IsClock ms → S.here.queue ≡ received ∷ rest → Move calls S (takes calls S frame ms received rest)
  look : (frame : List ℕ) (ms : ℕ) → IsClock ms → Move calls S (looks calls S frame ms)
  acknowledge : (frame : List ℕ) → Move calls S (acknowledges calls S frame)
  resynchronise : (frame : List ℕ) → ((reset_of calls S frame).told.answer ≡ done → ⊥) → Move calls S (turns S (reset_of calls S frame))
  harm : (queue : List (List ℕ)) → Harm (calls.seen S.here.state).settings.format S.here.queue queue → Move calls S (with_queue S queue)

-- ---- moments

-- R14.3: an end as start gives it with answer 0, the queue towards it empty
abbrev pub fresh_side : {State : Type 0} → Calls State → Settings → List ℕ → Side State
fresh_side calls s slots = record { state = calls.fresh s; slots = slots; queue = []; taken = []; delivered = [] }

-- R14.3, and where R14.4 begins: two ends started fresh with equal settings and slots of any bytes, and any moves at either end since
pub data Moment {State : Type 0} (calls : Calls State) (s : Settings) : System State → Type 0 where
  start : (slots slots2 : List ℕ) → in_range s ≡ true → slots_need s ≤ length slots → slots_need s ≤ length slots2
      → Moment calls s (record { here = fresh_side calls s slots; there = fresh_side calls s slots2 })
  here : (S T : System State) → Moment calls s S → Move calls S T → Moment calls s T
  there : (S T : System State) → Moment calls s S → Move calls (swap S) (swap T) → Moment calls s T

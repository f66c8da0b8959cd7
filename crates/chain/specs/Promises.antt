-- What is promised of cutting and joining beyond the calls' contracts: R2.2, R13.1, R13.2, R14.1, R14.2; proofs/Chains.antt and
-- proofs/Rejoining.antt prove it. CutsAll, RejoinsAll and NoneBefore serve demand 2 (R14.2), in which chaining is to be right on both
-- sides: the first ties packets_of to the call cut, the others to the call join. LimitsAgree and PacketsSized are for R1.1, by which
-- chaining stands on the link.
use Rattle.std.specs.Prelude.{ℕ, zero, suc, ◌-◌, ◌<◌, ◌≤◌, true, false, cond, List, [], ◌∷◌, ◌++◌, ◌≡◌, length, take, eqb}
use Rattle.base.specs.Answer.{done}
use Rattle.base.specs.Range.{within}
use Rattle.chain.specs.declared.Joining.{Joining}
use Rattle.chain.specs.declared.Joined.{Joined}
use Rattle.chain.specs.declared.Piece.{Piece}
use Rattle.chain.specs.Pctr.{only_channel}
use Rattle.chain.specs.Cut.{limit_ok, longest, packet_count, packets_to, packets_of, cutting, cut_out}
use Rattle.chain.specs.Join.{fresh_joining, joins, joined}

-- ---- cutting gives exactly the packets of the message

-- the bytes that cut leaves in a packet buffer for packets 0, 1, .., as many as are asked for
abbrev pub cuts_to : ℕ → List ℕ → List ℕ → ℕ → List (List ℕ)
cuts_to m message buffer zero = []
cuts_to m message buffer (suc k) =
    cuts_to m message buffer k ++ (take (cut_out m message k buffer).told.length (cut_out m message k buffer).buffer ∷ [])

-- R14.2
abbrev pub CutsAll : Type 0
CutsAll =
    (m : ℕ) (message buffer : List ℕ) → limit_ok m ≡ true → m ≤ length buffer → 1 ≤ length message → length message ≤ longest
    → cuts_to m message buffer (packet_count m (length message)) ≡ packets_of m only_channel message

-- ---- what is cut can be sent

-- R2.2: its range of m and that of D in R2.1 are one bound: m of a link is an m of chaining
abbrev pub LimitsAgree : Type 0
LimitsAgree = (d : ℕ) → within 16 d 1024 ≡ limit_ok (d - 5)

-- 2 to m bytes each
pub data Sized (m : ℕ) : List (List ℕ) → Type 0 where
  none : Sized m []
  more : (packet : List ℕ) (packets : List (List ℕ)) → 2 ≤ length packet → length packet ≤ m → Sized m packets → Sized m (packet ∷ packets)

-- submit refuses other sizes than 1 to m (R8.4), and join a 000 or 100 that is PCTR alone (R7.5): no packet of a message is such a one
abbrev pub PacketsSized : Type 0
PacketsSized = (m channel : ℕ) (message : List ℕ) → limit_ok m ≡ true → Sized m (packets_of m channel message)

-- ---- joining them gives the message

-- who joins packet by packet, each time with the state and the room that the last joining left; and what the calls have told so far: every
-- answer, and the bytes of each message that was told, as the room then held them
pub record Reader : Type 0 where
  pub state : Joining
  pub room : List ℕ
  pub answers : List ℕ
  pub messages : List (List ℕ)

abbrev pub message_in : ℕ → List ℕ → List (List ℕ)
message_in len room = cond (eqb len 0) [] (take len room ∷ [])

abbrev pub read_one : ℕ → Reader → List ℕ → Reader
read_one m r packet = record {
  state = (joined m r.state packet r.room).told.state;
  room = (joined m r.state packet r.room).room;
  answers = r.answers ++ ((joined m r.state packet r.room).told.answer ∷ []);
  messages = r.messages ++ message_in (joined m r.state packet r.room).told.length (joined m r.state packet r.room).room;
}

abbrev pub read_all : ℕ → Reader → List (List ℕ) → Reader
read_all m r [] = r
read_all m r (packet ∷ packets) = read_all m (read_one m r packet) packets

-- no chain open, a joined length of at most 4,096, and a room that is long enough
pub record Idle (r : Reader) : Type 0 where
  pub closed : r.state.opened ≡ false
  pub small : r.state.length ≤ longest
  pub enough : longest ≤ length r.room

-- so many answers 0
abbrev pub dones : ℕ → List ℕ
dones zero = []
dones (suc k) = dones k ++ (done ∷ [])

-- R14.2: after all packets of a message, in order: 0 to each, this message and no other, none open, and a room as long as before.
pub record Rejoined (m : ℕ) (message : List ℕ) (r s : Reader) : Type 0 where
  pub answers : s.answers ≡ r.answers ++ dones (packet_count m (length message))
  pub messages : s.messages ≡ r.messages ++ (message ∷ [])
  pub state : s.state ≡ fresh_joining
  pub enough : length s.room ≡ length r.room

abbrev pub RejoinsAll : Type 0
RejoinsAll =
    (m : ℕ) (message : List ℕ) (r : Reader) → limit_ok m ≡ true → 1 ≤ length message → length message ≤ longest → Idle r
    → Rejoined m message r (read_all m r (packets_of m only_channel message))

-- R14.2: after fewer of them, the first k: 0 to each, and no message.
pub record Unfinished (k : ℕ) (r s : Reader) : Type 0 where
  pub answers : s.answers ≡ r.answers ++ dones k
  pub messages : s.messages ≡ r.messages

abbrev pub NoneBefore : Type 0
NoneBefore =
    (m : ℕ) (message : List ℕ) (r : Reader) (k : ℕ) → limit_ok m ≡ true → 1 ≤ length message → length message ≤ longest → Idle r
    → k < packet_count m (length message) → Unfinished k r (read_all m r (packets_to m only_channel message k))

-- ---- the calls alone

-- R13.1, R13.2: each has its call's contract twice, on every input
abbrev pub CutSettled : Type 0
CutSettled =
    (m : ℕ) (message : List ℕ) (i : ℕ) (packet : List ℕ) (told other : Piece) (written other_written : List ℕ)
    → cutting told written ≡ cut_out m message i packet → cutting other other_written ≡ cut_out m message i packet
    → (told ≡ other) × (written ≡ other_written)

abbrev pub JoinSettled : Type 0
JoinSettled =
    (m : ℕ) (j : Joining) (packet room : List ℕ) (told other : Joined) (written other_written : List ℕ)
    → joins told written ≡ joined m j packet room → joins other other_written ≡ joined m j packet room
    → (told ≡ other) × (written ≡ other_written)

-- R14.1: serves demand 1, by which no caller has to look first: a state that join left is not refused for its joined length (R8.1).
abbrev pub JoinKept : Type 0
JoinKept = (m : ℕ) (j : Joining) (packet room : List ℕ) → j.length ≤ longest → (joined m j packet room).told.state.length ≤ longest

-- A history of any link (moves of R14.3) written as a list of steps, for the computed runs of wrong links. Desk, chip and loans are the customer's.
use Rattle.std.specs.Prelude.{ℕ, ◌%◌, List, [], ◌∷◌, ◌++◌}
use Rattle.pair.specs.System.{Calls, System, swap, submits, takes, looks, acknowledges, with_queue, fresh_side}
use Rattle.pair.specs.Run.{settings, buffer, slots}

-- an act of one end, with the millisecond of the call: to submit a packet, to take the frame at the head of the queue towards it, to look, to
-- acknowledge now; and the loss of that frame. Where there is none, nothing is done. Each call is lent Run's frame buffer.
pub data Act : Type 0 where
  submits-at : ℕ → List ℕ → Act
  takes_at : ℕ → Act
  looks-at : ℕ → Act
  acknowledges-now : Act
  loses : Act

pub data Step : Type 0 where
  desk : Act → Step
  chip : Act → Step

abbrev pub clock : ℕ → ℕ
clock ms = ms % 4294967296

abbrev pub takes_head : {State : Type 0} → Calls State → System State → ℕ → List (List ℕ) → System State
takes_head calls S ms [] = S
takes_head calls S ms (x ∷ q) = takes calls S buffer (clock ms) x q

abbrev pub loses_head : {State : Type 0} → System State → List (List ℕ) → System State
loses_head S [] = S
loses_head S (x ∷ q) = with_queue S q

abbrev pub acted : {State : Type 0} → Calls State → System State → Act → System State
acted calls S (submits-at ms packet) = submits calls S buffer (clock ms) packet
acted calls S (takes_at ms) = takes_head calls S ms S.here.queue
acted calls S (looks-at ms) = looks calls S buffer (clock ms)
acted calls S acknowledges-now = acknowledges calls S buffer
acted calls S loses = loses_head S S.here.queue

-- the desk is here, the chip there
abbrev pub acted_by : {State : Type 0} → Calls State → System State → Step → System State
acted_by calls S (desk a) = acted calls S a
acted_by calls S (chip a) = swap (acted calls (swap S) a)

abbrev pub told : {State : Type 0} → Calls State → System State → List Step → System State
told calls S [] = S
told calls S (x ∷ steps) = told calls (acted_by calls S x) steps

-- where each begins: Run's settings and slots, and room for two frames behind the slots, which only a link that stores frames uses
abbrev pub room : List ℕ
room = slots ++ (buffer ++ buffer)

abbrev pub fresh : {State : Type 0} → Calls State → System State
fresh calls = record { here = fresh_side calls settings room; there = fresh_side calls settings room }

abbrev pub run : {State : Type 0} → Calls State → List Step → System State
run calls steps = told calls (fresh calls) steps

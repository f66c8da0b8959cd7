-- join, on every input: R1.6, R2.4, R7.4 to R7.8.
use Rattle.std.specs.Prelude.{ℕ, ◌+◌, ◌-◌, Bool, true, false, cond, not, ◌&&◌, ◌||◌, List, length, drop, get_or, eqb, leb, ltb}
use Rattle.base.specs.Answer.{done, out_of_range, short_buffer, packet_size, chain_fault, other_channel, secured_packet, too_long, fault_told, first_refusal}
use Rattle.base.specs.Range.{within}
use Rattle.base.specs.Buffer.{put}
use Rattle.chain.specs.declared.Joining.{Joining}
use Rattle.chain.specs.declared.Joined.{Joined}
use Rattle.chain.specs.Pctr.{only_channel, channel_of, secured_of, chain_of, pctr_of, whole, first, middle, last, fault}
use Rattle.chain.specs.Cut.{limit_ok, longest}

-- R7.4: the state to begin with is the one after a finished or a dropped chain (R7.8). What gives it is no third call (R1.6, DECISIONS D47).
abbrev pub fresh_joining : Joining
fresh_joining = record { length = 0; opened = false }

-- R7.8: what becomes of a joining whose chain ends or is dropped ..
abbrev pub closed : Joining → Joining
closed j = record { length = 0; opened = false }

-- R7.8: .. and of one that goes on, with so many bytes joined
abbrev pub grown : Joining → ℕ → Joining
grown j total = record { length = total; opened = true }

-- what join leaves: what it tells, and every byte of the room
pub record Joins : Type 0 where
  pub told : Joined
  pub room : List ℕ

abbrev pub joins : Joined → List ℕ → Joins
joins told room = record { told = told; room = room }

-- ---- refusals

-- R7.6: the packet that tells the peer, of a channel
abbrev pub fault_packet : ℕ → ℕ
fault_packet channel = pctr_of channel fault

-- R8.10, R8.14, R8.15: the answers that drop the chain; every other refusal leaves it (R9.4)
abbrev pub drops_chain : ℕ → Bool
drops_chain answer = eqb answer chain_fault || (eqb answer too_long || eqb answer fault_told)

-- R7.6: what is told with an answer; 0 where there is nothing to submit (DECISIONS D54)
abbrev pub fault_of : ℕ → ℕ → ℕ
fault_of channel answer = cond (eqb answer chain_fault) (fault_packet channel) 0

-- R7.6, R7.8: what join tells with a refusal
abbrev pub refusal : ℕ → Joining → ℕ → Joined
refusal channel j answer = record {
  state = cond (drops_chain answer) (closed j) j;
  length = 0;
  answer = answer;
  fault = fault_of channel answer;
}

-- ---- the outer checks

-- R7.5, its rows of 4 and 11
unfoldable pub packet_gate : ℕ → List ℕ → ℕ
packet_gate m packet =
    first_refusal (cond (within 1 (length packet) m) done packet_size) (cond (eqb (channel_of (get_or packet 0 0)) only_channel) done other_channel)

-- R7.5, its rows of 1 and 2, then those of 4 and 11; of the length of the room, which must be that of R2.4
unfoldable pub join_gate : ℕ → Joining → List ℕ → ℕ → ℕ
unfolding packet_gate
join_gate m j packet room =
    first_refusal (cond (limit_ok m && leb j.length longest) done out_of_range)
    (first_refusal (cond (ltb room longest) short_buffer done) (packet_gate m packet))

-- ---- the chain: the rows of R7.5 behind that of 11, which will be the same for every channel

-- 000 and 001 begin a message, 010 and 100 go on with one
abbrev pub begins : ℕ → Bool
begins chain = leb chain first

abbrev pub goes_on : ℕ → Bool
goes_on chain = eqb chain middle || eqb chain last

-- 000 and 100 end it
abbrev pub finishes : ℕ → Bool
finishes chain = eqb chain whole || eqb chain last

-- R7.5, its four rows of 10, in their order: of m, whether a chain is open, CHAIN and the packet's length
unfoldable pub faulty : ℕ → Bool → ℕ → ℕ → Bool
faulty m opened chain size =
    not (begins chain || goes_on chain)
    || ((begins chain && opened) || (goes_on chain && not opened))
    || (not (finishes chain) && not (eqb size m))
    || (finishes chain && eqb size 1)

-- R7.7: where in the room the part goes
abbrev pub place_of : Joining → ℕ → ℕ
place_of j chain = cond (begins chain) 0 j.length

-- R7.5, R7.8: the length with this part; of the packet's bytes all but PCTR are the message's
abbrev pub total_of : Joining → ℕ → ℕ → ℕ
total_of j chain size = place_of j chain + (size - 1)

-- R7.5, its rows from 15 on: of m, the joining, PCTR and the packet's length
unfoldable pub chain_gate : ℕ → Joining → ℕ → ℕ → ℕ
unfolding faulty
chain_gate m j pctr size =
    first_refusal (cond (eqb (chain_of pctr) fault && eqb size 1) fault_told done)
    (first_refusal (cond (faulty m j.opened (chain_of pctr) size) chain_fault done)
    (first_refusal (cond (secured_of pctr && begins (chain_of pctr)) secured_packet done)
    (cond (ltb longest (total_of j (chain_of pctr) size)) too_long done)))

-- R7.8: what join tells of a part that it joined
abbrev pub part_told : Joining → ℕ → ℕ → Joined
part_told j chain size = record {
  state = cond (finishes chain) (closed j) (grown j (total_of j chain size));
  length = cond (finishes chain) (total_of j chain size) 0;
  answer = done;
  fault = 0;
}

-- R7.7
abbrev pub part_added : Joining → List ℕ → ℕ → List ℕ → Joins
part_added j packet chain room = joins (part_told j chain (length packet)) (put room (place_of j chain) (drop 1 packet))

-- R7.5, R7.7, behind the row of 11; the channel is the packet's: nothing here reads it from the packet
unfoldable pub part_joined : ℕ → ℕ → Joining → List ℕ → List ℕ → Joins
unfolding chain_gate
part_joined m channel j packet room =
    let answer : ℕ = chain_gate m j (get_or packet 0 0) (length packet) in
    cond (eqb answer done) (part_added j packet (chain_of (get_or packet 0 0)) room) (joins (refusal channel j answer) room)

-- ---- the call

-- R1.6: join, which refuses in the order of R7.5
unfoldable pub joined : ℕ → Joining → List ℕ → List ℕ → Joins
unfolding join_gate part_joined
joined m j packet room =
    let answer : ℕ = join_gate m j packet (length room) in
    cond (eqb answer done) (part_joined m only_channel j packet room) (joins (refusal only_channel j answer) room)

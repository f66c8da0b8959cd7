-- submit, on every input: R1.3, R2.5, R5.4 to R5.6, R9.1.
use Rattle.std.specs.Prelude.{ℕ, ◌+◌, ◌%◌, ◌≤◌, ◌<◌, cond, List, length, set, ltb}
use Rattle.base.specs.Answer.{done, packet_size, window_full, first_refusal}
use Rattle.base.specs.Range.{within}
use Rattle.base.specs.Buffer.{put}
use Rattle.frame.specs.Bytes.{data_frame}
use Rattle.state.specs.declared.Link.{Link}
use Rattle.state.specs.declared.Outcome.{Outcome}
use Rattle.state.specs.Bounds.{limit_of}
use Rattle.state.specs.Fields.{with_lengths, with_next, with_waiting}
use Rattle.state.specs.State.{last_correct, slot_of}
use Rattle.state.specs.Gate.{After, after, gated, gate_of}
use Rattle.send.specs.Repeat.{part_of, data_sent}

-- R8.4, then R8.5: of a packet's length, which may be any (R2.5)
abbrev pub packet_gate : Link → ℕ → ℕ
packet_gate l packet =
    first_refusal (cond (within 1 packet (limit_of l.settings)) done packet_size) (cond (ltb l.waiting l.settings.window) done window_full)

-- R9.1: of a state and the lengths of slot buffer, frame buffer and packet
unfoldable pub submit_gate : Link → ℕ → ℕ → ℕ → ℕ
unfolding gate_of
submit_gate l slots frame packet = first_refusal (gate_of l slots frame) (packet_gate l packet)

-- R5.5: one more packet waits, of this length, under the next number
abbrev pub added : Link → ℕ → Link
added l packet =
    with_waiting (with_next (with_lengths l (set l.lengths (slot_of l l.next) packet)) ((l.next + 1) % 4)) (l.waiting + 1)

-- R5.5: the state that is left, for a packet of this length
abbrev pub sent_first : Link → ℕ → ℕ → Link
sent_first l ms packet = added (data_sent l l.next ms 0) packet

-- R5.5: the packet's frame, with the ACK of R5.6
abbrev pub first_frame : Link → List ℕ → List ℕ
first_frame l packet = data_frame l.settings.format l.next (last_correct l) packet

-- R5.4, R5.5, and R1.4 for the frame: all that is left where nothing refuses
abbrev pub packet_accepted : Link → List ℕ → List ℕ → ℕ → List ℕ → After Outcome
packet_accepted l slots frame ms packet =
    after (record {
      state = sent_first l ms (length packet);
      sent = length (first_frame l packet);
      delivered = 0;
      dropped = 0;
      answer = done;
    })
    (put slots (part_of l l.next) packet)
    (put frame 0 (first_frame l packet))

-- ---- for the contracts of functions inside

-- what taking a packet stands on: a slot, a number and a place for one more; the packet fits the slot's part, which lies in the slot buffer, and
-- its frame fits the frame buffer
abbrev pub Acceptable : Link → ℕ → ℕ → ℕ → Type 0
Acceptable l slots frame packet =
    ((1 ≤ l.settings.window) × (l.settings.window ≤ 2))
    × ((l.next ≤ 3) × (l.waiting < 2))
    × ((packet ≤ limit_of l.settings) × (part_of l l.next + limit_of l.settings ≤ slots))
    × ((packet + 5 ≤ frame) × (packet ≤ 1019))

-- ---- the call

-- R1.3: submit, behind the gate of R9.1
unfoldable pub submitted : Link → List ℕ → List ℕ → ℕ → List ℕ → After Outcome
unfolding submit_gate
submitted l slots frame ms packet =
    gated (submit_gate l (length slots) (length frame) (length packet)) l slots frame (packet_accepted l slots frame ms packet)

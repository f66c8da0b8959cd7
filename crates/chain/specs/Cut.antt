-- cut, on every input: R1.6, R2.2 to R2.4, R7.2, R7.3, R9.2.
use Rattle.std.specs.Prelude.{ℕ, zero, suc, ◌+◌, ◌-◌, ◌*◌, ◌/◌, Bool, cond, List, [], ◌∷◌, ◌++◌, length, take, drop, eqb, ltb}
use Rattle.base.specs.Answer.{done, out_of_range, short_buffer, message_size, no_such_packet, first_refusal}
use Rattle.base.specs.Range.{within}
use Rattle.base.specs.Buffer.{put}
use Rattle.chain.specs.declared.Piece.{Piece}
use Rattle.chain.specs.Pctr.{only_channel, pctr_of, whole, first, middle, last}

-- R2.2: the range of m
abbrev pub limit_ok : ℕ → Bool
limit_ok m = within 11 m 1019

-- R2.3
abbrev pub longest : ℕ
longest = 4096

-- ---- the packets of a message

-- R7.3: how long a part is, since PCTR counts as one of the m bytes (R2.2)
abbrev pub part_size : ℕ → ℕ
part_size m = m - 1

-- R7.3: how many parts a message of so many bytes has, the last one maybe shorter
abbrev pub packet_count : ℕ → ℕ → ℕ
packet_count m message = (message + (part_size m - 1)) / part_size m

-- R7.2, R7.3: CHAIN of packet i, of so many
abbrev pub chain_at : ℕ → ℕ → ℕ
chain_at i count = cond (eqb count 1) whole (cond (eqb i 0) first (cond (eqb (i + 1) count) last middle))

-- R7.3: part i; for the last one, what is left there is less, or just as much
abbrev pub part_at : ℕ → List ℕ → ℕ → List ℕ
part_at m message i = take (part_size m) (drop (i * part_size m) message)

-- R7.3: packet i
abbrev pub packet_at : ℕ → ℕ → List ℕ → ℕ → List ℕ
packet_at m channel message i = pctr_of channel (chain_at i (packet_count m (length message))) ∷ part_at m message i

-- R7.3: by how many, so that the promises can speak of the first k packets as well as of all
abbrev pub packets_to : ℕ → ℕ → List ℕ → ℕ → List (List ℕ)
packets_to m channel message zero = []
packets_to m channel message (suc k) = packets_to m channel message k ++ (packet_at m channel message k ∷ [])

abbrev pub packets_of : ℕ → ℕ → List ℕ → List (List ℕ)
packets_of m channel message = packets_to m channel message (packet_count m (length message))

-- ---- the call

-- R9.2: 13 (R2.3, R8.13) and 16 (R8.16), of m, the length of the message, which may be any (R2.5), and i
unfoldable pub message_gate : ℕ → ℕ → ℕ → ℕ
message_gate m message i =
    first_refusal (cond (within 1 message longest) done message_size) (cond (ltb i (packet_count m message)) done no_such_packet)

-- R9.2, with R2.4 for the packet buffer: of m, the length of that buffer, that of the message, and i
unfoldable pub cut_gate : ℕ → ℕ → ℕ → ℕ → ℕ
unfolding message_gate
cut_gate m buffer message i =
    first_refusal (cond (limit_ok m) done out_of_range) (first_refusal (cond (ltb buffer m) short_buffer done) (message_gate m message i))

-- what cut leaves: what it tells, and every byte of the packet buffer
pub record Cutting : Type 0 where
  pub told : Piece
  pub buffer : List ℕ

abbrev pub cutting : Piece → List ℕ → Cutting
cutting told buffer = record { told = told; buffer = buffer }

-- R1.6: where nothing refuses
abbrev pub given : ℕ → ℕ → List ℕ → ℕ → List ℕ → Cutting
given m channel message i buffer =
    cutting (record { count = packet_count m (length message); length = length (packet_at m channel message i); answer = done })
    (put buffer 0 (packet_at m channel message i))

-- R1.6: cut, behind the gate of R9.2
unfoldable pub cut_out : ℕ → List ℕ → ℕ → List ℕ → Cutting
unfolding cut_gate
cut_out m message i buffer =
    let answer : ℕ = cut_gate m (length buffer) (length message) i in
    cond (eqb answer done) (given m only_channel message i buffer) (cutting (record { count = 0; length = 0; answer = answer }) buffer)

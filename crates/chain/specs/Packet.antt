-- The bytes of a packet that is taken apart: R7.1.
use Rattle.std.specs.Prelude.{ℕ, List, ◌∷◌}
use Rattle.chain.specs.declared.packet.Packet.{Packet}

abbrev pub bytes_of : Packet → List ℕ
bytes_of packet = packet.pctr ∷ packet.part.now

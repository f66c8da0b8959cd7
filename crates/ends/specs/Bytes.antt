-- The bytes of a frame or a packet.
use Rattle.std.specs.Prelude.{ℕ, List, take}
use Rattle.ends.specs.declared.bytes.Bytes.{Bytes}

abbrev pub bytes_of : Bytes → List ℕ
bytes_of laid = take laid.count laid.bytes

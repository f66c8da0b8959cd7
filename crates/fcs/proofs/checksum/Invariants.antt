-- `fcs::checksum` meets its contract. The invariant: what is left of the slice, from where the loop stands, gives the whole.
use Rattle.std.proofs.Common.{◌≡◌, ◌≤◌, length, drop}
use Rattle.fcs.specs.Checksum.{checksum_from, checksum_of, Agrees}
use Rattle.fcs.proofs.checksum.Given as goal

abbrev pub invariant-loop-byte : goal.invariant-loop-byte
invariant-loop-byte l =
    (l.byte-index ≤ length l.bytes) × (checksum_from l.crc (drop l.byte-index l.bytes) ≡ checksum_of l.bytes) × Agrees l.entries

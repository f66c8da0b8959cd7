-- `fcs::bit_rule` meets its contract. The invariant: the bits that are left, from where the loop stands, give the whole step.
use Rattle.std.proofs.Common.{◌≡◌, ◌≤◌, ◌-◌}
use Rattle.fcs.specs.Checksum.{bit_steps, byte_step}
use Rattle.fcs.proofs.bit_rule.Given as goal

abbrev pub invariant-loop : goal.invariant-loop
invariant-loop l = (l.counter ≤ 8) × (bit_steps (8 - l.counter) l.crc l.bits ≡ byte_step l.seed l.byte)

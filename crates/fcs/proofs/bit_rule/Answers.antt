-- `fcs::bit_rule` meets its contract. The invariant: the bits that are left, from where the loop stands, give the whole step.
use Rattle.std.proofs.Common.{◌≡◌, refl, sym, ◌∙◌, ℕ, suc, ◌<◌, ◌+◌, ◌-◌, ◌/◌, ◌%◌, eq-eqb, ne_eqb, bit_and, bit_xor, arith}
use lib.Bits.{and_mask}
use Rattle.fcs.specs.Checksum.{bit_step, bit_steps, byte_step}
use Rattle.fcs.proofs.bit_rule.Goals as goal
use Rattle.fcs.proofs.bit_rule.Goals.{then-crc-bits, else-crc-bits}

-- one turn of the loop is one step of the rule
next : (k seed bits whole : ℕ) → k < 8 → bit_steps (8 - k) seed bits ≡ whole
    → bit_steps (8 - (k + 1)) (bit_step seed (bits % 2)) (bits / 2) ≡ whole
unfolding bit_steps
next k seed bits whole h e = let s : 8 - k ≡ suc (8 - (k + 1)) = omega arith in rw s at e

same : (seed bits : ℕ) → bit_and seed 1 ≡ bit_and bits 1 → bit_step seed (bits % 2) ≡ seed / 2
unfolding bit_step
same seed bits e = rw (eq-eqb (seed % 2) (bits % 2) (sym (and_mask seed 1) ∙ e ∙ and_mask bits 1))

other : (seed bits : ℕ) → (bit_and seed 1 ≡ bit_and bits 1 → ⊥) → bit_step seed (bits % 2) ≡ bit_xor (seed / 2) 0x8408
unfolding bit_step
other seed bits f = rw (ne_eqb (seed % 2) (bits % 2) (λ e. f (and_mask seed 1 ∙ e ∙ sym (and_mask bits 1))))

pub loop-init : goal.loop-init
unfolding byte_step
loop-init c = (omega arith, refl)

pub loop-preserved : goal.loop-preserved
loop-preserved c =
    let l = c.loop in
    let e = next l.counter l.crc l.bits _ (omega arith) l.invariant.1 in
    elim c.if-crc-bits.branch [
      | then-crc-bits w ↦ (omega arith, rw (w.crc-is, ← same l.crc l.bits w.if-crc-bits.true) e)
      | else-crc-bits w ↦ (omega arith, rw (w.crc-is, ← other l.crc l.bits w.if-crc-bits.false) e)
    ]

pub returns : goal.returns
unfolding bit_steps
returns c = let e : 8 - c.loop.counter ≡ 0 = omega arith in rw e at c.loop.invariant.1

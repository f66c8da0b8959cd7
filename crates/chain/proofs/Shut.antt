-- The wrong calls of specs/FalseCalls.antt, each tried at one input or two, of numbers and bytes that code can hold, by computing.
use Rattle.std.proofs.Common.{◌≡◌, refl, ap, ◌≢◌, true, false, List, [], ◌∷◌, ℕ, suc, ◌+◌, ◌-◌, ◌%◌, arith, length, get_or, replicate}
use Rattle.std.proofs.lemmas.Bool.{eqb-false}
use Rattle.base.specs.Buffer.{put}
use Rattle.chain.specs.declared.Joining.{Joining}
use Rattle.chain.specs.Cut.{cut_out}
use Rattle.chain.specs.Join.{fresh_joining, joined}
use Rattle.chain.specs.FalseCalls.{CutCall, CutShut, JoinCall, JoinShut, ShutOut}

-- two packets, of 11 bytes and of 2
abbrev message : List ℕ
message = replicate 11 1

abbrev buffer : List ℕ
buffer = replicate 11 0

-- a joining of so many bytes, with a chain open
abbrev begun : ℕ → Joining
begun bytes = record { length = bytes; opened = true }

abbrev room : List ℕ
room = replicate 4096 0

-- another byte than this
abbrev other : ℕ → ℕ
other byte = (byte + 1) % 256

other_differs : (byte : ℕ) → byte ≢ other byte
other_differs byte e = omega (arith, e)

same_less_same : (n k : ℕ) → n - n ≢ suc k
same_less_same n k e = omega (arith, e)

cut_shut : CutShut
unfolding cut_out put
cut_shut = record {
  refuses = λ answer differs same. differs (ap (λ (f : CutCall). (f 11 message 0 buffer).told.answer) same);
  repeats = λ packet same.
      same_less_same (length packet) 8 (ap (λ (f : CutCall). (f 11 message 0 buffer).told.length - (f 11 message 1 buffer).told.length) same);
  idles = λ same. eqb-false 0 11 refl (ap (λ (f : CutCall). (f 11 message 0 buffer).told.length) same);
  pretends = λ same. eqb-false 0 4 refl (ap (λ (f : CutCall). get_or (f 11 message 1 buffer).buffer 0 0) same);
  invents = λ count bytes more same.
      let e : 2 + count + (11 + bytes) ≡ 13 = ap (λ (f : CutCall). (f 11 message 0 buffer).told.count + (f 11 message 0 buffer).told.length) same in
      omega (arith, more, e);
  short_buffer = λ same. eqb-false 0 2 refl (ap (λ (f : CutCall). (f 11 message 0 (replicate 10 0)).told.answer) same);
  past_the_last = λ same. eqb-false 0 16 refl (ap (λ (f : CutCall). (f 11 message 2 buffer).told.answer) same);
  empty_message = λ same. eqb-false 0 13 refl (ap (λ (f : CutCall). (f 11 [] 0 buffer).told.answer) same);
  behind_the_packet = λ byte same. other_differs byte (ap (λ (f : CutCall). get_or (f 11 message 1 (replicate 11 (other byte))).buffer 2 0) same);
  on_refusal = λ byte same. other_differs byte (ap (λ (f : CutCall). get_or (f 11 message 0 (other byte ∷ [])).buffer 0 0) same);
  one_byte_less = λ same. eqb-false 10 11 refl (ap (λ (f : CutCall). (f 11 message 0 buffer).told.length) same);
  empty_counted = λ same. eqb-false 2 1 refl (ap (λ (f : CutCall). (f 11 (replicate 10 1) 0 buffer).told.count) same);
  last_too_early = λ same. eqb-false 4 2 refl (ap (λ (f : CutCall). get_or (f 11 (replicate 21 1) 1 buffer).buffer 0 0) same);
  wrong_part = λ same. eqb-false 1 2 refl (ap (λ (f : CutCall). (f 11 message 1 buffer).told.length) same);
}

join_shut : JoinShut
unfolding joined put
join_shut = record {
  refuses = λ answer differs same. differs (ap (λ (f : JoinCall). (f 11 fresh_joining (0 ∷ 1 ∷ []) room).told.answer) same);
  repeats = λ packet same.
      same_less_same (length packet) 0
      (ap (λ (f : JoinCall). (f 11 fresh_joining (0 ∷ 1 ∷ 1 ∷ []) room).told.length - (f 11 fresh_joining (0 ∷ 1 ∷ []) room).told.length) same);
  idles = λ same. eqb-false 0 1 refl (ap (λ (f : JoinCall). (f 11 fresh_joining (0 ∷ 1 ∷ []) room).told.length) same);
  pretends = λ same. eqb-false 0 1 refl (ap (λ (f : JoinCall). get_or (f 11 (begun 10) (4 ∷ 1 ∷ []) room).room 10 0) same);
  invents = λ bytes more same.
      let e : 1 + bytes ≡ 1 = ap (λ (f : JoinCall). (f 11 fresh_joining (0 ∷ 1 ∷ []) room).told.length) same in
      omega (arith, more, e);
  short_room = λ same. eqb-false 0 2 refl (ap (λ (f : JoinCall). (f 11 fresh_joining (0 ∷ 1 ∷ []) (replicate 4095 0)).told.answer) same);
  secured_drops = λ same. eqb-false 0 1 refl (ap (λ (f : JoinCall). (f 11 (record { length = 1; opened = false }) (8 ∷ 1 ∷ []) room).told.state.length) same);
  channel_drops = λ same. eqb-false 0 1 refl (ap (λ (f : JoinCall). (f 11 (begun 1) (16 ∷ 1 ∷ []) room).told.state.length) same);
  too_long_keeps = λ same.
      eqb-false 4096 0 refl (ap (λ (f : JoinCall). (f 11 (begun 4096) (4 ∷ 1 ∷ []) room).told.state.length) same);
  fault_keeps = λ same. eqb-false 1 0 refl (ap (λ (f : JoinCall). (f 11 (begun 1) (0 ∷ 1 ∷ []) room).told.state.length) same);
  fault_told_keeps = λ same. eqb-false 1 0 refl (ap (λ (f : JoinCall). (f 11 (begun 1) (7 ∷ []) room).told.state.length) same);
  fault_with_11 = λ same. eqb-false 7 0 refl (ap (λ (f : JoinCall). (f 11 fresh_joining (16 ∷ 1 ∷ []) room).told.fault) same);
  fault_with_12 = λ same. eqb-false 7 0 refl (ap (λ (f : JoinCall). (f 11 fresh_joining (8 ∷ 1 ∷ []) room).told.fault) same);
  fault_with_14 = λ same. eqb-false 7 0 refl (ap (λ (f : JoinCall). (f 11 (begun 4096) (4 ∷ 1 ∷ []) room).told.fault) same);
  fault_with_15 = λ same. eqb-false 7 0 refl (ap (λ (f : JoinCall). (f 11 fresh_joining (7 ∷ []) room).told.fault) same);
  begun_twice = λ same. eqb-false 0 10 refl (ap (λ (f : JoinCall). (f 11 (begun 1) (0 ∷ 1 ∷ []) room).told.answer) same);
  orphan = λ same. eqb-false 0 10 refl (ap (λ (f : JoinCall). (f 11 fresh_joining (4 ∷ 1 ∷ []) room).told.answer) same);
  behind_the_joined = λ same.
      eqb-false 11 10 refl (ap (λ (f : JoinCall). (f 11 (record { length = 1; opened = false }) (1 ∷ replicate 10 1) room).told.state.length) same);
  one_too_many = λ same. eqb-false 4097 0 refl (ap (λ (f : JoinCall). (f 11 (begun 4096) (4 ∷ 1 ∷ []) (replicate 4097 0)).told.length) same);
  secured_at_middle = λ same. eqb-false 12 0 refl (ap (λ (f : JoinCall). (f 11 (begun 10) (10 ∷ replicate 10 1) room).told.answer) same);
  channel_mistaken = λ same. eqb-false 0 11 refl (ap (λ (f : JoinCall). (f 11 fresh_joining (16 ∷ 1 ∷ []) room).told.answer) same);
  behind_the_part = λ byte same. other_differs byte (ap (λ (f : JoinCall). get_or (f 11 fresh_joining (0 ∷ 1 ∷ []) (replicate 4096 (other byte))).room 1 0) same);
  on_refusal = λ byte same. other_differs byte (ap (λ (f : JoinCall). get_or (f 11 fresh_joining [] (other byte ∷ [])).room 0 0) same);
}

pub shut_out : ShutOut
shut_out = record { cut = cut_shut; join = join_shut }

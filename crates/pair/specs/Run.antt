-- One run of R14.4, played out: a frame lost, one damaged, a NAK, and a clock that wraps; then rounds until everything is through. Nobody asked for it; it
-- shows that the statements of Demand3.antt speak of something: such moments, rounds and ends exist. Desk, chip and loans are the customer's.
use Rattle.std.specs.Prelude.{ℕ, List, [], ◌∷◌, ◌≡◌}
use Rattle.frame.specs.Bytes.{nak_frame, data_frame}
use Rattle.state.specs.declared.Settings.{Settings}
use Rattle.pair.specs.System.{swap, with_queue}
use Rattle.pair.specs.Demand3.{Through, Alive}
use Rattle.pair.specs.TrueCalls.{System, submits, takes, fresh_side, Moment, Played}

abbrev pub settings : Settings
settings = record { format = record { d = 16; order = 0 }; transtimeout = 100; acktimeout = 50; window = 2; repeats = 2 }

abbrev pub buffer : List ℕ
buffer = 0 ∷ 0 ∷ 0 ∷ 0 ∷ 0 ∷ 0 ∷ 0 ∷ 0 ∷ 0 ∷ 0 ∷ 0 ∷ 0 ∷ 0 ∷ 0 ∷ 0 ∷ 0 ∷ []

abbrev pub slots : List ℕ
slots = 0 ∷ 0 ∷ 0 ∷ 0 ∷ 0 ∷ 0 ∷ 0 ∷ 0 ∷ 0 ∷ 0 ∷ 0 ∷ 0 ∷ 0 ∷ 0 ∷ 0 ∷ 0 ∷ 0 ∷ 0 ∷ 0 ∷ 0 ∷ 0 ∷ 0 ∷ []

abbrev pub loan_a : List ℕ
loan_a = 0x00 ∷ 0xA1 ∷ []

abbrev pub loan_b : List ℕ
loan_b = 0x00 ∷ 0xB2 ∷ []

-- the desk is here, the chip there; 20 ms before its end the clock is at 4,294,967,276
abbrev pub moment0 : System
moment0 = record { here = fresh_side settings slots; there = fresh_side settings slots }

-- the desk submits loan A; its frame is lost
abbrev pub moment1 : System
moment1 = submits moment0 buffer 4294967276 loan_a

abbrev pub moment2 : System
moment2 = swap (with_queue (swap moment1) [])

-- the desk submits loan B; the chip, which expects number 0, answers 9, and its ACK is damaged on the way
abbrev pub moment3 : System
moment3 = submits moment2 buffer 4294967277 loan_b

abbrev pub moment4 : System
moment4 = swap (takes (swap moment3) buffer 4294967278 (data_frame settings.format 1 3 loan_b) [])

abbrev pub moment5 : System
moment5 = with_queue moment4 ((0xFF ∷ []) ∷ [])

-- the desk answers 17, and its NAK is on the way
abbrev pub moment6 : System
moment6 = takes moment5 buffer 4294967279 (0xFF ∷ []) []

-- it is such a moment as the statements speak of, and all that Within24 asks is there: from clock 4,294,967,290 on 24 rounds are played, 136 ms in
-- all, and no link is lost. Both loans are through.
pub record WorkedRun : Type 0 where
  pub moment : Moment settings moment6
  pub nak : moment6.there.queue ≡ nak_frame settings.format 0 ∷ []
  pub played : Played 4294967290 moment6 24
  pub total : played.total ≡ 136
  pub alive : Alive played.end
  pub through : Through played.end
  pub delivered : played.end.there.delivered ≡ loan_a ∷ loan_b ∷ []

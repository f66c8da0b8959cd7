-- Settings and sizes: R2.1, R2.2, R2.4.
use Rattle.std.specs.Prelude.{ℕ, ◌-◌, ◌*◌, Bool, ◌&&◌, nat_le, nat_lt}
use Rattle.base.specs.Range.{within}
use Rattle.frame.specs.Bytes.{high_first}
use Rattle.state.specs.declared.Settings.{Settings}

-- R2.2: m
abbrev pub limit_of : Settings → ℕ
limit_of s = s.format.d - 5

-- R2.1, row by row. That the acknowledge timeout is below TRANS_TIMEOUT belongs to its range (DECISIONS D18).
unfoldable pub in_range : Settings → Bool
in_range s =
    within 16 s.format.d 1024
    && within 1 s.window 2
    && within 2 s.transtimeout 1000
    && (nat_le 1 s.acktimeout && nat_lt s.acktimeout s.transtimeout)
    && within 1 s.repeats 4
    && nat_le s.format.order high_first

-- R2.4, the slot buffer and the frame buffer
abbrev pub slots_need : Settings → ℕ
slots_need s = s.window * limit_of s

abbrev pub frame_need : Settings → ℕ
frame_need s = s.format.d

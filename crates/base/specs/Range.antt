-- Numbers compared, for ranges (R2.1, R3.6, R8.1) and for time left (state).
use Rattle.std.specs.Prelude.{ℕ, Bool, cond, ◌&&◌, nat_le, nat_lt}

-- a range with both its ends, as R2.1 counts them
abbrev pub within : ℕ → ℕ → ℕ → Bool
within low x high = nat_le low x && nat_le x high

-- for R6.6
abbrev pub least_of : ℕ → ℕ → ℕ
least_of a b = cond (nat_lt a b) a b

-- What a call writes into a lent buffer, and what stays: R9.3.
use Rattle.std.specs.Prelude.{ℕ, ◌+◌, List, ◌++◌, length, take, drop}

-- R9.3: the buffer with the bytes laid over it from index `at`
unfoldable pub put : List ℕ → ℕ → List ℕ → List ℕ
put buffer at bytes = take at buffer ++ (bytes ++ drop (at + length bytes) buffer)

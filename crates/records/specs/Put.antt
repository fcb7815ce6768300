-- What a function that writes bytes promises of every call: they stand at the front of out and the rest is as it was, or the slice is
-- too short and nothing is touched. Which of the two it is, is decided by the lengths, so the promise allows one outcome.
use Rattle.std.specs.Prelude.{ℕ, ◌≤◌, ◌<◌, ◌≡◌, List, ◌++◌, length, drop}
use Rattle.records.specs.Told.{Written}

-- "it fills the front and leaves the rest"
abbrev pub over : {A : Type 0} → List A → List A → List A
over xs lent = xs ++ drop (length xs) lent

-- "A refused writer returns the number and length 0."
abbrev pub not_written : ℕ → Written
not_written n = record { code = n; len = 0 }

-- `out` are the bytes before the call, `out'` after it
pub record Put (bytes out : List ℕ) (r : Written) (out' : List ℕ) : Type 0 where
  pub row_14 : length out < length bytes → (r ≡ not_written 14) × (out' ≡ out)
  pub success : length bytes ≤ length out → (r ≡ record { code = 0; len = length bytes }) × (out' ≡ over bytes out)

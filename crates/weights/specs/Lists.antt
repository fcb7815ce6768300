-- Weight lists (document 01, "A job in numbers"): which weights a list holds, and the list that comes of taking one out or of
-- putting a sum in its place. Every list and every place is answered.
use Rattle.std.specs.Prelude.{ℕ, ◌+◌, ◌-◌, ◌^◌, Bool, cond, ◌&&◌, List, ◌∷◌, ◌++◌, length, take, drop, get_or, replicate, ltb, leb, ℤ, pos, ◌+ℤ◌}
use Rattle.std.proofs.Math.Seq.{slice}
use Rattle.std.specs.Int.Signed.{mag}
use Rattle.limits.specs.Limits.{capacity}
use Rattle.placements.specs.Places.{with_sum}
use Rattle.weights.specs.declared.Weights.{Weights}

-- the list of given weights: those that have a place, and 0 in each place behind the last; r is how many there are
unfoldable pub of_slice : List ℤ → Weights
of_slice w = record { places = take capacity w ++ drop (length w) (replicate capacity (pos 0)); len = length w }

-- the weights are the first r places, or all where r is above the capacity; "places after the r-th count for nothing"
unfoldable pub listed : Weights → List ℤ
listed s = take s.len s.places

-- the place is among the first r, and r is not above the capacity; the first place is 0
unfoldable pub among : Weights → ℕ → Bool
among s at = leb s.len capacity && ltb at s.len

-- a weight's word of 32 bits holds -2^31 to 2^31 - 1; `mag` is n for n and for -(n + 1)
abbrev pub fits : ℤ → Bool
fits z = ltb (mag z) (2 ^ 31)

-- "when a weight is taken out the later ones move up one place, in order, and the place freed holds 0"; r falls by one
unfoldable pub taken_out : Weights → ℕ → Weights
taken_out s at = record { places = take at s.places ++ slice (at + 1) s.len s.places ++ pos 0 ∷ drop s.len s.places; len = s.len - 1 }

-- "putting a sum in changes that place only"
unfoldable pub put_in : Weights → ℕ → ℤ → Weights
put_in s at e = record { places = with_sum s.places at e; len = s.len }

-- "if the place isn't among the first r, or r is above 6, or the sum doesn't fit its word, the list comes back as it was"
unfoldable pub without_at : Weights → ℕ → Weights
without_at s at = cond (among s at) (taken_out s at) s

unfoldable pub with_sum_at : Weights → ℕ → ℤ → Weights
with_sum_at s at e = cond (among s at && fits (get_or s.places at (pos 0) +ℤ e)) (put_in s at e) s

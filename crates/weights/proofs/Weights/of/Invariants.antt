-- `of` meets its contract: each turn copies one number into its place, as long as there is one, and the places behind it hold 0 as at the start.
-- With more numbers than places no 0 is left, with fewer all numbers are copied.
use Rattle.std.proofs.Common.{◌≡◌, ◌++◌, ℕ, List, ℤ, pos, length, take, drop, replicate, min}
use Rattle.limits.specs.Limits.{capacity}
use Rattle.weights.proofs.Weights.of.Given as goal

-- what the places hold when so many numbers are copied
abbrev pub so_far : List ℤ → ℕ → List ℤ
so_far w n = take n w ++ drop n (replicate capacity (pos 0))

abbrev pub invariant-loop-at : goal.invariant-loop-at
invariant-loop-at l = l.places ≡ so_far l.weights (min l.at (length l.weights))

-- The two ways to put d + e in the place of a weight d: at a place, as rule 2 of document 01 does, and at the first weight equal
-- to d, as request 13 does where equal collisions are worked once. Nothing is proved here.
use Rattle.std.proofs.Math.Logic.{ite}
use Rattle.std.specs.Prelude.{List, [], ◌∷◌, ℕ, get_or, set, ℤ, pos, ◌+ℤ◌}

-- M with the weight d at place j replaced by d + e; the first place is 0
unfoldable pub with_sum : List ℤ → ℕ → ℤ → List ℤ
with_sum M j e = set M j (get_or M j (pos 0) +ℤ e)

-- a list with its first d replaced by x
unfoldable pub replaced : {W : Type 0} (eq : Discrete W) → W → W → List W → List W
replaced eq d x [] = []
replaced eq d x (y ∷ M) = ite (eq d y) (x ∷ M) (y ∷ replaced eq d x M)

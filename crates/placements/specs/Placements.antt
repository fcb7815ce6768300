-- N and the placements of a list of weights, in document 01's words ("A job in numbers", "The definition"). Nothing is proved here:
-- `Number` has that N is the number of placements, `AllPlacements` that `placements` lists exactly the placements, each once, and
-- `Multiplicity` the laws of the product of m!.
-- Weights are of any type W with decided equality `eq`; a job's are whole numbers, with `ℤ_eq`.
use Rattle.std.proofs.Math.Logic.{ite}
use Rattle.std.specs.Prelude.{◌≡◌, ℕ, zero, suc, ◌*◌, ◌/◌, length, ℤ}
use mathlib.Core.List.{List, [], ◌∷◌, ◌++◌, map, flat_map, Permᴰ}
use Rattle.std.proofs.Math.Option.{Option, none, some}
use Rattle.algebra.specs.Ring.{Ops}
use Rattle.algebra.specs.Binomial.{fact, falling}
use Rattle.algebra.specs.Integer.{ℤ_eq}

-- ---- "N, the number of placements, is n(n-1)..(n-r+1) divided by the product of m! over the different weights, m being how often
-- each occurs"

-- the product of the numbers f x over the members x of a list
unfoldable pub prod : {X : Type 0} → List X → (X → ℕ) → ℕ
prod [] f = 1
prod (x ∷ xs) f = f x * prod xs f

module _ {W : Type 0} (eq : Discrete W) where
  -- how often w occurs in a list
  unfoldable pub count : W → List W → ℕ
  count w [] = 0
  count w (x ∷ L) = ite (eq w x) (suc (count w L)) (count w L)

  -- a list without any w
  unfoldable pub except : W → List W → List W
  except w [] = []
  except w (x ∷ L) = ite (eq w x) (except w L) (x ∷ except w L)

  -- each different weight of a list once
  unfoldable pub different : List W → List W
  different [] = []
  different (w ∷ L) = w ∷ except w (different L)

  -- the product of m! over the different weights
  unfoldable pub factorials : List W → ℕ
  factorials L = prod (different L) (λ w. fact (count w L))

-- N
unfoldable pub placed : ℕ → List ℤ → ℕ
placed n L = falling n (length L) / factorials ℤ_eq L

-- ---- "A placement gives each of n positions a weight or nothing, using the list up exactly. Two are the same when each position
-- gets the same": they are lists, one entry for each position, and equal as lists

-- the weights that are used, in the order of their positions
unfoldable pub used : {W : Type 0} → List (Option W) → List W
used [] = []
used (none ∷ π) = used π
used (some w ∷ π) = w ∷ used π

pub record Placement {W : Type 0} (n : ℕ) (L : List W) (π : List (Option W)) : Type 0 where
  pub positions : length π ≡ n
  pub used_up : Permᴰ (used π) L

module _ {W : Type 0} (eq : Discrete W) where
  -- a list without its first w
  unfoldable pub without : W → List W → List W
  without w [] = []
  without w (x ∷ L) = ite (eq w x) L (x ∷ without w L)

  -- all placements: the first position gets nothing, or one of the different weights, and the rest go to the others
  unfoldable pub placements : ℕ → List W → List (List (Option W))
  placements zero [] = [] ∷ []
  placements zero (w ∷ L) = []
  placements (suc n) L = map (λ π. none ∷ π) (placements n L) ++ flat_map (λ w. map (λ π. some w ∷ π) (placements n (without w L))) (different eq L)

-- the weighted sum of a placement: the sum of the roots at its positions, each times the weight there
unfoldable pub value : {A : Type 0} (o : Ops A) {W : Type 0} (cast : W → A) → List A → List (Option W) → A
value o cast [] π = o.zero
value o cast (a ∷ rs) [] = o.zero
value o cast (a ∷ rs) (none ∷ π) = value o cast rs π
value o cast (a ∷ rs) (some w ∷ π) = o.add (o.mul (cast w) a) (value o cast rs π)

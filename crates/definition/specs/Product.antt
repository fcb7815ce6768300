-- What "the product of x minus each" is: x^n + c1 x^(n-1) + .. + cn by the list of c1 to cn, as document 01 lists f and the resolvent.
-- And the weighted sums of all placements, over which the resolvent is such a product where f is one (demand 3). Nothing is proved here:
-- `Products` has that with the leading 1 these are the coefficients of the product of all x - a, multiplied as polynomials are where
-- `Divides` and the mark are defined.
use Rattle.std.specs.Prelude.{length, ℤ}
use mathlib.Core.List.{List, [], ◌∷◌, map}
use Prim.Native.Nat.{ℕ, zero, suc}
use Rattle.algebra.specs.Ring.{Ops}
use Rattle.algebra.specs.Power.{int}
use Rattle.algebra.specs.Series.{series, monomial}
use Rattle.algebra.specs.Newton.{coeff}
use Rattle.algebra.specs.Integer.{ℤ_eq}
use Rattle.placements.specs.Placements.{placements, value}

-- g 1, .., g n
unfoldable pub listed : {A : Type 0} → ℕ → (ℕ → A) → List A
listed zero g = []
listed (suc n) g = g 1 ∷ listed n (λ i. g (suc i))

module _ {A : Type 0} (o : Ops A) where
  -- the coefficients of the product of x - a over the listed a, less the leading 1
  unfoldable pub product : List A → List A
  product rs = listed (length rs) (coeff o rs)

  -- the weighted sums of all placements of the weights L on the listed roots
  unfoldable pub values : List A → List ℤ → List A
  values rs L = map (value o (int o) rs) (placements ℤ_eq (length rs) L)

  -- x - a, as a polynomial
  abbrev pub x_minus : A → ℕ → A
  x_minus a = (series o).add (monomial o o.one 1) (monomial o (o.neg a) 0)

  -- the product of x - a over the listed a, as a polynomial
  unfoldable pub multiplied : List A → ℕ → A
  multiplied [] = (series o).one
  multiplied (a ∷ rs) = (series o).mul (x_minus a) (multiplied rs)

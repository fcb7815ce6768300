-- `placements` meets its contract: N is the quotient of the two products by definition, and the divisor, a product of factorials, is
-- not 0.
use Rattle.algebra.specs.Integer.{ℤ_eq}
use Rattle.placements.specs.Placements.{placed}
use Rattle.placements.proofs.Multiplicity.{factorials_positive}
use Rattle.weights.specs.Lists.{listed}
use Rattle.weights.proofs.Weights.placements.Goals as goal

pub nonzero_div-result : goal.nonzero_div-result
nonzero_div-result c = rw c.factorials.ensures (factorials_positive ℤ_eq (listed _))

pub returns : goal.returns
unfolding placed
returns c = rw (c.falling_product.ensures, c.factorials.ensures, c.listed.ensures.first_r)

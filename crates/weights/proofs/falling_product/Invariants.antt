-- `falling_product` meets its contract: with fewer than r numbers the product has a factor 0; else it is multiplied up from n - r + 1, and
-- every product on the way fits (`Factors`).
use Rattle.weights.proofs.Falling.{Factors}
use Rattle.weights.proofs.falling_product.Given as goal

abbrev pub invariant-loop-factor : goal.invariant-loop-factor
invariant-loop-factor l = Factors l.n l.r l.product l.factor

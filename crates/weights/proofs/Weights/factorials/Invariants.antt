-- `factorials` meets its contract: from the last weight to the first, one more weight multiplies by one more than its copies behind it. The
-- product is at most the factorial of the capacity, so it fits.
use Rattle.weights.specs.Lists.{listed}
use Rattle.weights.proofs.Counting.{Multiplied}
use Rattle.weights.proofs.Weights.factorials.Given as goal

abbrev pub invariant-loop-at : goal.invariant-loop-at
invariant-loop-at l = Multiplied (listed l.self) l.product l.at

-- `without` meets its contract: the loop moves the later weights up one place (`Moving`), and the last store frees the r-th place. Where the
-- place is not among the weights the list comes back.
use Rattle.weights.proofs.Moving.{Moving}
use Rattle.weights.proofs.Weights.without.Given as goal

abbrev pub invariant-loop-i : goal.invariant-loop-i
invariant-loop-i l = Moving l.fn.self l.at l.places l.i

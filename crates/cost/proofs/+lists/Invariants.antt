-- The number of weights falls. A list without weights is one list. For another the walk over the places of its rest adds one number where a
-- weight stands for the first time, that is where as many equal ones stand from there on as in the whole rest; at the end it has met
-- every different weight once.
use Rattle.std.proofs.Common.{◌≡◌}
use Rattle.weights.specs.Lists.{listed}
use Rattle.cost.specs.Walk.{walked}
use Rattle.cost.proofs.+lists.Given as goal

abbrev pub decreases-lists : goal.decreases-lists
decreases-lists l = l.list.len

abbrev pub invariant-loop-j : goal.invariant-loop-j
invariant-loop-j l = l.number ≡ walked l.first (listed l.rest) l.j

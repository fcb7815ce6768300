-- What is told of the list of a slice's first weights is told of the slice (`told_moved`).
use Rattle.weights.specs.Laws.{of_slice_holds}
use Rattle.resolvents.specs.Slices.{told_moved}
use Rattle.resolvents.proofs.lists_for.Goals as goal

pub returns : goal.returns
returns c = let s = of_slice_holds _ c.of.ensures in told_moved _ _ s.0 s.1 _ c.lists.ensures

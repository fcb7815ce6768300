-- The entry keeps its promise for the list of a slice's first weights, so for the slice (`promise_moved`).
use Rattle.weights.specs.Laws.{of_slice_holds}
use Rattle.resolvents.specs.Slices.{promise_moved}
use Rattle.resolvents.proofs.resolvent_for.Goals as goal

pub returns : goal.returns
returns c =
    let a = c.args in
    let s = of_slice_holds a.weights.now c.of.ensures in
    promise_moved a.p a.f.now a.weights.now a.out.now a.work.now _ s.0 s.1 _ c.resolvent.ensures

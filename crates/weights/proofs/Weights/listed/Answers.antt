-- `listed` meets its contract: the array has as many places as the capacity, so its first r are the same as where r is cut to that.
use Rattle.std.proofs.Common.{◌≡◌, length, arith}
use Rattle.std.proofs.lemmas.List.{take_min}
use Rattle.limits.specs.Limits.{capacity}
use Rattle.weights.specs.Lists.{listed}
use Rattle.weights.proofs.Weights.listed.Goals as goal

pub returns-clause-first_r : goal.returns-clause-first_r
unfolding listed
returns-clause-first_r c =
    let s = c.args.self.now in
    let full : length s.places ≡ capacity = omega arith in
    rw (c.min.ensures, ← full) (take_min s.len s.places)

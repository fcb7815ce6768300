-- Past the tests of the two counts, a job can hold the values exactly where each weight is small; where a test fails it cannot.
use Rattle.std.proofs.Common.{◌<◌, ◌≤◌, length, rules, arith}
use Rattle.limits.specs.Limits.{most_numbers}
use Rattle.records.proofs.Values as values
use Rattle.records.proofs.job_holds.Goals as goal
use Rattle.records.proofs.job_holds.Goals.{then-contains, else-contains}

pub returns-then-contains-2 : goal.returns-then-contains-2
returns-then-contains-2 c = elim c.if-contains.branch [
  | then-contains w ↦
      let cs : (0 < length c.args.coeffs.now) × (length c.args.coeffs.now ≤ most_numbers) = search rules in
      let ws : (0 < length c.args.weights.now) × (length c.args.weights.now ≤ most_numbers) = grind arith in
      values.each_weight _ _ _ (omega arith) c.type_inv.coeffs cs.0 cs.1 ws.0 ws.1 _ c.each_small.ensures
  | else-contains w ↦ grind arith
]

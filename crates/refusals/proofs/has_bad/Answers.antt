-- The first places of the list are searched, and the table's test asks of each weight: a weight that is found stands at a place that
-- passes, and where none is found no place does.
use Rattle.std.proofs.Common.{◌≡◌, rules, ℕ, true, false, ◌<◌, length, get_or}
use Rattle.std.specs.Prelude.{pos}
use Rattle.std.proofs.iter.runs.Made.{chains}
use Rattle.weights.specs.Lists.{listed}
use Rattle.refusals.specs.Refusals.{bad_weight}
use Rattle.refusals.proofs.Search.{searched}
use Rattle.refusals.proofs.has_bad.Goals as goal

pub returns : goal.returns
unfolding listed
returns c =
    let L = listed c.args.list in
    let some : c.any.result ≡ true → (k : ℕ) × (k < length L) × (bad_weight (get_or L k (pos 0)) ≡ true) = search (rules, chains) in
    let none : c.any.result ≡ false → (k : ℕ) → k < length L → bad_weight (get_or L k (pos 0)) ≡ false = search (rules, chains) in
    searched _ _ _ some none

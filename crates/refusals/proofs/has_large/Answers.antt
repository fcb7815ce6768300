-- The coefficients are searched from the first, and the table's test asks of each place below their number: a coefficient that is found
-- stands at a place that passes, and where none is found no place does.
use Rattle.std.proofs.Common.{◌≡◌, rules, ℕ, true, false, leb, ◌<◌, length, get_or}
use Rattle.std.proofs.iter.runs.Made.{chains}
use Rattle.refusals.proofs.Search.{searched}
use Rattle.refusals.proofs.has_large.Goals as goal

pub returns : goal.returns
returns c =
    let f = c.args.f.now in
    let some : c.any.result ≡ true → (k : ℕ) × (k < length f) × (leb c.args.p (get_or f k 0) ≡ true) = search (rules, chains) in
    let none : c.any.result ≡ false → (k : ℕ) → k < length f → leb c.args.p (get_or f k 0) ≡ false = search (rules, chains) in
    searched _ _ _ some none

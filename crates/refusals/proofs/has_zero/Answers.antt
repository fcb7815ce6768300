-- The numbers from 1 to n are searched, and the table's test asks of each place below n: at the place k it tests the number k + 1, so a
-- number that is found stands at a place that passes, and where none is found no place does.
use Rattle.std.proofs.Common.{◌≡◌, rules, arith, refl, ℕ, List, [], suc, true, false, eqb, ◌%◌, ◌<◌, ◌≤◌, get_or}
use Rattle.std.proofs.iter.runs.Sources.{ranges}
use Rattle.refusals.proofs.Search.{searched}
use Rattle.refusals.proofs.has_zero.Goals as goal

-- each number failed the test: `ranges` tells of the number k where a list is read at k, whatever the list
none : (c : goal.After-any) → c.any.result ≡ false → (k : ℕ) → 1 ≤ k → k ≤ c.args.n → (xs : List ℕ) → get_or xs k 0 ≡ get_or xs k 0 → eqb (k % c.args.p.value) 0 ≡ false
none c e k low high xs read = search (rules, ranges)

pub returns : goal.returns
returns c =
    let some : c.any.result ≡ true → (k : ℕ) × (k < c.args.n) × (eqb (suc k % c.args.p.value) 0 ≡ true) = search (rules, ranges) in
    searched _ _ _ some (λ e k h. none c e (suc k) (omega arith) (omega arith) [] refl)

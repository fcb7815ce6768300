-- What a search answers is the table's test of the places below n: it finds a place that passes, or it says that none does. In what order
-- the places are tested makes no difference.
use Rattle.std.specs.Prelude.{◌≡◌, Bool, true, false, ℕ, ◌<◌}
use Rattle.std.proofs.Common.{sym, refl}
use Rattle.checks.specs.Checks.{some_below}
use Rattle.checks.specs.Laws.{below_none, some_here}

pub searched : (t : ℕ → Bool) (n : ℕ) (found : Bool) → (found ≡ true → (k : ℕ) × (k < n) × (t k ≡ true))
    → (found ≡ false → (k : ℕ) → k < n → t k ≡ false) → found ≡ some_below t n
searched t n true some none = let (k, h, e) = some refl in sym (some_here t n k h e)
searched t n false some none = sym (below_none t n (none refl))

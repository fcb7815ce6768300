-- The head is two number lines, one behind the other, and what is read is within its text. The scanners of the lines are variables here:
-- what they compute to would be opened at each rewriting.
use Rattle.std.proofs.Common.{◌≡◌, sym, ℕ, ◌+◌, ◌≤◌, List, length}
use Rattle.decimal.specs.Scan.{Got, bad, got}
use Rattle.decimal.proofs.ListSteps.{rest, rest_is}
use Rattle.lines.specs.Laws.{Exact, within}
use Rattle.lines.specs.Scan.{both}

-- ---- two lines, from what was found of each
module _ (f g : List ℕ → Got ℕ) (t : List ℕ) where
  pub no_first : bad ≡ f t → bad ≡ both f g t
  no_first h = rw (← h)

  module _ (m i : ℕ) (h : got m i ≡ f t) where
    pub no_second : bad ≡ g (rest t i) → bad ≡ both f g t
    no_second k = rw (← h, ← rest_is t i, ← k)

    pub both_there : (n j : ℕ) → got n j ≡ g (rest t i) → got (m, n) (i + j) ≡ both f g t
    both_there n j k = rw (← h, ← rest_is t i, ← k)

-- the place behind a line is within its text
pub line_fits : {f : List ℕ → Got ℕ} {Ok : ℕ → Type 0} {render : ℕ → List ℕ} → Exact Ok render f → (t : List ℕ) {m i : ℕ} → got m i ≡ f t → i ≤ length t
line_fits E t {m} {i} h = within E t m i (sym h)

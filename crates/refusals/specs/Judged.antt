-- What is known of a call when its checks are made: the number of the first of rows 2 to 12 that applies and, where none does, N and
-- the product of m!.
use Rattle.std.specs.Prelude.{◌≡◌, List, ℕ, Result, IfOk}
use Rattle.checks.specs.Checks.{first}
use Rattle.checks.specs.Refusal.{code}
use Rattle.checks.specs.declared.Refusal.{Refusal}
use Rattle.algebra.specs.Integer.{ℤ_eq}
use Rattle.placements.specs.Placements.{factorials}
use Rattle.weights.specs.declared.Weights.{Weights}
use Rattle.refusals.specs.declared.Judgement.{Judgement}
use Rattle.refusals.specs.Refusals.{Call, weights, N, call_checks}

-- the arguments of a call, with the words of the slices that are lent
abbrev pub given : ℕ → List ℕ → Weights → List ℕ → List ℕ → Call
given p f list output work = record { p = p; f = f; places = list.places; r = list.len; output = output; work = work }

pub record Judged (c : Call) (r : Result Judgement Refusal) : Type 0 where
  pub code : code r ≡ first (call_checks c)
  pub count : IfOk r (λ j. j.count ≡ N c)
  pub product : IfOk r (λ j. j.product ≡ factorials ℤ_eq (weights c))

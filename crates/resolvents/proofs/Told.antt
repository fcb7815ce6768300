-- What a result tells, tells the result: an answer and a refusal have different numbers, a number tells its row, and an answer tells
-- all its fields. So what the promise decides of an exit or of a cost, it decides of the result that the call returns.
use Rattle.std.specs.Prelude.{◌≡◌, ℕ, Result, Ok, Err}
use Rattle.std.proofs.Common.{sym, ap, arith}
use Rattle.checks.specs.declared.Refusal.{Refusal}
use Rattle.checks.specs.Refusal.{number, number_positive, number_tells}
use Rattle.resolvents.specs.declared.Summary.{Summary}
use Rattle.resolvents.specs.Results.{Outcome, outcome, Cost, cost}

never_zero : {A : Type 0} (r : Refusal) → number r ≡ 0 → A
never_zero r e = absurd (omega (arith, number_positive r, e))

pub outcome_tells : (r s : Result Summary Refusal) → outcome r ≡ outcome s → r ≡ s
outcome_tells (Ok a) (Ok b) e = let same : a ≡ b = λ i. record { count = (e i).count; simple = (e i).simple; lists = (e i).lists } in ap Ok same
outcome_tells (Ok a) (Err s) e = never_zero s (sym (ap (λ (o : Outcome). o.code) e))
outcome_tells (Err r) (Ok b) e = never_zero r (ap (λ (o : Outcome). o.code) e)
outcome_tells (Err r) (Err s) e = ap Err (number_tells r s (ap (λ (o : Outcome). o.code) e))

pub cost_tells : (r s : Result ℕ Refusal) → cost r ≡ cost s → r ≡ s
cost_tells (Ok m) (Ok n) e = ap Ok (ap (λ (c : Cost). c.lists) e)
cost_tells (Ok m) (Err s) e = never_zero s (sym (ap (λ (c : Cost). c.code) e))
cost_tells (Err r) (Ok n) e = never_zero r (ap (λ (c : Cost). c.code) e)
cost_tells (Err r) (Err s) e = ap Err (number_tells r s (ap (λ (c : Cost). c.code) e))

-- The rows of the list alone are those of weights in as many positions (`alone`), and a list that breaks none of them has the list's
-- rule, which is all that the number asks for.
use Rattle.std.proofs.Common.{◌≡◌, refl, sym, ◌∙◌, rules, arith, length, ℕ, List, Err}
use Rattle.std.specs.Prelude.{ℤ, Result}
use Rattle.limits.specs.Limits.{capacity}
use Rattle.checks.specs.Checks.{first}
use Rattle.checks.specs.declared.Refusal.{Refusal}
use Rattle.checks.specs.Refusal.{number, number_positive}
use Rattle.weights.specs.Sizes.{job_bounded}
use Rattle.refusals.specs.Refusals.{weight_checks}
use Rattle.refusals.proofs.Reading.{weight_good}
use Rattle.resolvents.specs.Results.{cost}
use Rattle.resolvents.specs.Cost.{Told}
use Rattle.resolvents.proofs.Costs.{alone}
use Rattle.resolvents.proofs.lists.Goals as goal

-- a list that one of its rows refuses
refused : (r : ℕ) (L : List ℤ) (x : Refusal) {t : Result ℕ Refusal} → t ≡ Err x → number x ≡ first (weight_checks r r L) → Told r L (cost t)
refused r L x same e =
    let told = e ∙ alone r L in
    rw same (record { code = told; refused = λ n. refl; done = λ z. absurd (omega (arith, number_positive x, told, z)) })

pub returns-in_err-check_weights : goal.returns-in_err-check_weights
returns-in_err-check_weights c = refused _ _ _ (search rules) c.in_err-check_weights.ensures

pub lists-requires : goal.lists-requires
lists-requires c =
    let full : length c.args.list.places ≡ capacity = search rules in
    let good = (weight_good _ _ _).0 (sym c.in_ok-check_weights.ensures) in
    job_bounded c.args.list full good.high (λ i h. (good.each i h).1)

pub returns : goal.returns
returns c =
    let told = c.in_ok-check_weights.ensures ∙ alone _ _ in
    record { code = told; refused = λ n. absurd (n (sym told)); done = λ y. c.lists.ensures }

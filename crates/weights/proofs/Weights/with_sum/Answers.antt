-- `with_sum` meets its contract: the sum is stored where it fits its word, and the list comes back where it does not.
use Rattle.std.proofs.Common.{◌≡◌, true, sym, ◌∙◌, arith}
use Rattle.std.proofs.lemmas.Grind.{common_steps}
use Rattle.std.proofs.lemmas.Int.{ints}
use Rattle.weights.specs.Lists.{among}
use Rattle.weights.specs.Laws.{with_sum_kept}
use Rattle.weights.proofs.Sum.{coded, read, stored, unfit}
use Rattle.weights.proofs.Weights.with_sum.Goals as goal
use Rattle.weights.proofs.Weights.with_sum.Goals.{Else-not-has_place}

there : (c : Else-not-has_place) → among c.args.self c.args.at ≡ true
there c = sym c.has_place.ensures ∙ c.if-not-has_place.false

pub returns-then-not-has_place : goal.returns-then-not-has_place
returns-then-not-has_place c = sym (with_sum_kept _ _ _ (sym c.has_place.ensures ∙ c.if-not-has_place.true))

pub returns-then-fits : goal.returns-then-fits
returns-then-fits c =
    let exact : coded c.from.result c.from-2.result ≡ read c.args.self c.args.at c.args.e = omega (arith, ints, c.from.ensures, c.from-2.ensures) in
    stored _ _ _ (record { sfits = omega arith }) c.ranges.e (there (goal.at.returns-then-fits c).Else-not-has_place) (record { sfits = grind (arith, common_steps) }, exact)

pub returns-else-fits : goal.returns-else-fits
returns-else-fits c = unfit _ _ _ (record { sfits = omega arith }) c.ranges.e (λ f. grind (arith, common_steps))

-- A minus sign leads to the case of the scanner that refuses zero, any other byte to the plain one; each return is one case.
use Rattle.std.proofs.Common.{◌≡◌, ◌∙◌, ap, ◌+◌, ◌<◌, ◌≤◌, ◌⊎◌, arith, rules}
use Rattle.std.proofs.lemmas.Grind.{common_steps}
use Rattle.limits.specs.Limits.{largest_written}
use Rattle.std.proofs.lemmas.Int.{ints}
use Rattle.std.specs.Prelude.{pos, neg_ℤ, ◌-ℤ◌}
use mir.Syntax.{w32}
use mir.Val.{to_z, of_z}
use Rattle.decimal.specs.Scan.{got}
use Rattle.decimal.proofs.SignedSteps as steps
use Rattle.decimal.proofs.read_signed.Goals as goal

pub returns-in_err-n : goal.returns-in_err-n
returns-in_err-n c = let sign = c.in-Some.ensures.cases in rw c.from_residual.ensures (steps.minus_bad _ _ sign.0 sign.1 c.in_err-n.ensures)

pub returns-then-not-contains : goal.returns-then-not-contains
returns-then-not-contains c =
    let sign = c.in-Some.ensures.cases in
    let outside : (c.in_ok-n.n ≡ 0) ⊎ (largest_written < c.in_ok-n.n) = grind (arith, common_steps) in
    steps.minus_outside _ _ sign.0 sign.1 _ _ c.in_ok-n.ensures outside

pub overflow_add-result : goal.overflow_add-result
overflow_add-result c = omega (arith, steps.number_within c.in-Some.behind.now _ _ c.in_ok-n.ensures, c.in-Some.ensures.cases.2)

pub returns-in-Some : goal.returns-in-Some
returns-in-Some c =
    let sign = c.in-Some.ensures.cases in
    let n = c.in_ok-n.n in
    let size : (0 < n) × (n ≤ largest_written) = search rules in
    let value : to_z w32 (of_z w32 (pos 0 -ℤ to_z w32 n)) ≡ neg_ℤ (pos n) = omega (arith, ints) in
    ap (λ z. got z (c.in_ok-n.end + 1)) value ∙ steps.minus_good _ _ sign.0 sign.1 _ _ c.in_ok-n.ensures size.0 size.1

pub returns-in_err-v : goal.returns-in_err-v
returns-in_err-v c = rw c.from_residual-in_err-v.ensures (steps.plus_bad _ c.in_default.ensures.cases c.in_err-v.ensures)

pub returns-then-v-gt-LARGEST_SIZE : goal.returns-then-v-gt-LARGEST_SIZE
returns-then-v-gt-LARGEST_SIZE c = steps.plus_large _ c.in_default.ensures.cases _ _ c.in_ok-v.ensures c.if-v-gt-LARGEST_SIZE.true

pub returns : goal.returns
returns c =
    let value : to_z w32 c.in_ok-v.v ≡ pos c.in_ok-v.v = omega (arith, ints) in
    ap (λ z. got z c.in_ok-v.end) value ∙ steps.plus_good _ c.in_default.ensures.cases _ _ c.in_ok-v.ensures c.if-v-gt-LARGEST_SIZE.false

use Rattle.std.proofs.Common.{sym, arith}
use Rattle.weights.specs.Numbers.{falling_past}
use Rattle.weights.proofs.Falling.{factors_none, factors_more, factors_fit, factors_all}
use Rattle.weights.proofs.falling_product.Goals as goal

pub returns-then-n-r : goal.returns-then-n-r
returns-then-n-r c = sym (falling_past _ _ c.if-n-r.true)

pub loop-factor-init : goal.loop-factor-init
loop-factor-init c = factors_none c.if-n-r.false

pub overflow_mul-product : goal.overflow_mul-product
overflow_mul-product c = omega (arith, factors_fit c.loop-factor.invariant c.loop-factor-test.true c.requires.n_bound c.requires.r_le_capacity)

pub loop-factor-preserved : goal.loop-factor-preserved
loop-factor-preserved c = factors_more c.loop-factor.invariant c.loop-factor-test.true

pub returns-else-n-r-2 : goal.returns-else-n-r-2
returns-else-n-r-2 c = factors_all (factors_more c.loop-factor.invariant c.loop-factor-test.true) (omega arith)

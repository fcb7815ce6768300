use Rattle.std.proofs.Common.{arith}
use Rattle.decimal.proofs.Steps as steps
use Rattle.decimal.proofs.read_u32.Goals as goal

pub loop-i-init : goal.loop-i-init
loop-i-init c = (omega arith, steps.start _ _ _ _ c.in_ok-first.ensures.cases.0 c.in_ok-v.ensures.0 c.in_ok-v.ensures.1)

pub returns-in_default : goal.returns-in_default
returns-in_default c = steps.other _ _ _ _ c.loop-i.invariant.1 c.loop-i-test.true c.in_default.ensures

pub returns : goal.returns
returns c = steps.at_end _ _ _ _ c.loop-i.invariant.1 _ c.loop-i-test.false (omega (arith, c.in_ok-first.ensures.cases))

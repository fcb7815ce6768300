use Rattle.std.proofs.Common.{arith, rules}
use Rattle.weights.proofs.Counting.{multiplied_none, copies_few, multiplied_more, multiplied_fits}
use Rattle.weights.proofs.Weights.factorials.Goals as goal

pub loop-at-init : goal.loop-at-init
loop-at-init c = multiplied_none c.listed-at.ensures.first_r c.listed-at.ensures.few

pub overflow_add-product : goal.overflow_add-product
overflow_add-product c = omega (arith, copies_few c.loop-at.invariant (search rules) c.copies.ensures)

pub overflow_mul-product : goal.overflow_mul-product
overflow_mul-product c = omega (arith, multiplied_fits c.loop-at.invariant (search rules) c.copies.ensures)

pub loop-at-preserved : goal.loop-at-preserved
loop-at-preserved c = multiplied_more c.loop-at.invariant (search rules) c.copies.ensures

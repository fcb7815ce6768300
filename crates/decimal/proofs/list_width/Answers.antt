use Rattle.std.proofs.Common.{arith}
use Rattle.limits.specs.Limits.{most_placements}
use Rattle.decimal.proofs.ListWrites as writes
use Rattle.decimal.proofs.list_width.Goals as goal

pub loop-x-init : goal.loop-x-init
loop-x-init g c = writes.measured_none g.T.Spelled.spell g.T.Spelled.most _

pub overflow_add-n-in-loop-x : goal.overflow_add-n-in-loop-x
overflow_add-n-in-loop-x g c = omega (
  arith,
  writes.measured_bound c.loop-x.invariant most_placements (omega arith),
  c.width.ensures,
  g.met.T.Spelled.most_is_small,
)

pub loop-x-preserved : goal.loop-x-preserved
loop-x-preserved g c = writes.measured_more c.loop-x.invariant (writes.item_of _ _ _ c.loop-x-test.true c.x-item.is) c.width.ensures.0 c.width.ensures.1

pub returns : goal.returns
returns g c = (writes.measured_end c.loop-x.invariant c.loop-x-test.false, writes.measured_bound c.loop-x.invariant most_placements (omega arith))

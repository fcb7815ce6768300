use Rattle.std.proofs.Common.{length, arith, rules}
use Rattle.decimal.proofs.ListSteps as steps
use Rattle.decimal.proofs.read_list.Given.{Over}
use Rattle.decimal.proofs.read_list.Goals as goal
use Rattle.decimal.proofs.read_list.Goals.{After-byte_at-b}

-- the number and the byte behind it
item : (g : Over) (c : After-byte_at-b g) → let l = c.loop-n in let f = c.in-Some.found in
    steps.ItemRead g.T.Spelled.scan c.args.part.now (length c.args.out.now) l.out l.n l.at f.0 f.1 c.byte_at-b.result
item g c = record {
  reading = c.loop-n.invariant;
  size = c.loop-n.auto.out;
  room = c.loop-n-test.true;
  found = c.in-Some.ensures;
  byte = c.byte_at-b.ensures;
}

pub loop-n-init : goal.loop-n-init
loop-n-init g c = steps.reading_none g.T.Spelled.scan _ _ _

pub returns-in_default : goal.returns-in_default
returns-in_default g c = steps.no_item c.loop-n.invariant c.loop-n-test.true c.in_default.ensures _

pub overflow_add-at : goal.overflow_add-at
overflow_add-at g c = omega (arith, steps.item_fits (item g c) g.met.T.Spelled.laws)

pub overflow_add-at-in-loop-n : goal.overflow_add-at-in-loop-n
overflow_add-at-in-loop-n g c = omega (arith, steps.item_fits (item g c) g.met.T.Spelled.laws)

pub returns-in-10 : goal.returns-in-10
returns-in-10 g c = steps.ended (item g (goal.at.returns-in-10 g c).After-byte_at-b) c.in-10.is

pub returns-in_default-b : goal.returns-in_default-b
returns-in_default-b g c = steps.other (item g (goal.at.returns-in_default-b g c).After-byte_at-b) (search rules) (search rules)

pub loop-n-preserved : goal.loop-n-preserved
loop-n-preserved g c = steps.more (item g (goal.at.loop-n-preserved g c).After-byte_at-b) c.in-44.is

pub returns : goal.returns
returns g c = steps.full c.loop-n.invariant c.loop-n-test.false

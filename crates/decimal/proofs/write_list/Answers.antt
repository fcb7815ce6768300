use Rattle.std.proofs.Common.{◌+◌, ◌<◌, length, arith}
use Rattle.decimal.proofs.ListWrites as writes
use Rattle.decimal.proofs.write_list.Given.{Over}
use Rattle.decimal.proofs.write_list.Goals as goal
use Rattle.decimal.proofs.write_list.Goals.{After-index-xs-i}

item : (g : Over) (c : After-index-xs-i g) → writes.Item c.args.xs.now c.loop-i.i c.index-xs-i.result
item g c = writes.item_of _ _ _ c.loop-i-test.true c.index-xs-i.is

room : (g : Over) (c : After-index-xs-i g) → c.loop-i.p + length (g.T.Spelled.spell c.index-xs-i.result) < length c.loop-i.out
room g c = writes.writing_room c.loop-i.invariant (item g c) c.requires.1 c.loop-i.auto.out

pub loop-i-init : goal.loop-i-init
loop-i-init g c = writes.writing_none g.T.Spelled.spell _ _ _

pub write-p-requires : goal.write-p-requires
write-p-requires g c =
    let at = (goal.at.write-p-requires g c).After-index-xs-i in
    (writes.each_item g.T.Spelled.Fits c.requires.0 (item g at), omega (arith, room g at))

pub write_byte-p-requires : goal.write_byte-p-requires
write_byte-p-requires g c = omega (arith, room g (goal.at.write_byte-p-requires g c).After-index-xs-i, c.write-p.ensures.place)

pub loop-i-preserved : goal.loop-i-preserved
loop-i-preserved g c =
    writes.writing_more c.loop-i.invariant (item g (goal.at.loop-i-preserved g c).After-index-xs-i) c.write-p.ensures c.separator.ensures c.write_byte-p.ensures

pub returns : goal.returns
returns g c = writes.writing_end c.loop-i.invariant c.loop-i-test.false

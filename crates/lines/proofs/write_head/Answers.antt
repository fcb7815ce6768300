-- The two lines are written one behind the other, and the room for both is room for each.
use Rattle.decimal.proofs.Writes.{wrote_then}
use Rattle.lines.specs.Lines.{bytes, head_text}
use Rattle.lines.proofs.write_head.Goals as goal

pub returns : goal.returns
unfolding head_text bytes
returns c = search wrote_then

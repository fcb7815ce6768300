-- The key, the number and the line feed are written one behind the other.
use Rattle.decimal.proofs.Writes.{wrote_three}
use Rattle.lines.proofs.write_number_line.Goals as goal

pub returns : goal.returns
returns c = search wrote_three

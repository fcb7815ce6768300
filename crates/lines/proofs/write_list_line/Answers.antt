-- The key and the list are written one behind the other.
use Rattle.decimal.proofs.Writes.{wrote_then}
use Rattle.lines.proofs.write_list_line.Goals as goal

pub returns : goal.returns
returns g c = wrote_then c.write_bytes-a.ensures c.write_list.ensures

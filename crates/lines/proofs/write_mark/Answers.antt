-- The mark's line is one of two, and each is written as it stands.
use Rattle.lines.specs.Lines.{bytes, mark_text}
use Rattle.lines.proofs.write_mark.Goals as goal

pub returns-then-simple : goal.returns-then-simple
unfolding mark_text bytes
returns-then-simple c = rw c.if-simple.true c.write_bytes.ensures

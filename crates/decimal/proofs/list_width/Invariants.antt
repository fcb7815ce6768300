-- The loop's invariant, `Measured`: what was added and the length of what is left make the whole length. Each item adds its own width
-- and one separator.
use Rattle.decimal.proofs.ListWrites as writes
use Rattle.decimal.proofs.list_width.Given as goal

abbrev pub invariant-loop-x : goal.invariant-loop-x
invariant-loop-x g l = writes.Measured g.T.Spelled.spell g.T.Spelled.most l.xs l.n l.x-index

-- The loop's invariant, `Writing`: what is left to write, over what was written, is the whole line. A turn writes an item and the byte
-- behind it; at the end nothing is left.
use Rattle.decimal.proofs.ListWrites as writes
use Rattle.decimal.proofs.write_list.Given as goal

abbrev pub invariant-loop-i : goal.invariant-loop-i
invariant-loop-i g l = writes.Writing g.T.Spelled.spell l.xs l.initial.out l.at l.out l.p l.i

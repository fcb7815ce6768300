-- The loop's invariant, `Reading`: reading the whole is going on from place `at`, with the first n of out as the numbers so far. Each
-- way out is one step of the list's scanner.
use Rattle.std.proofs.Common.{length}
use Rattle.decimal.proofs.ListSteps as steps
use Rattle.decimal.proofs.read_list.Given as goal

abbrev pub invariant-loop-n : goal.invariant-loop-n
invariant-loop-n g l = steps.Reading g.T.Spelled.scan l.part (length l.initial.out) l.out l.n l.at

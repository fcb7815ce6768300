-- The bytes read so far stand at the front of the text, and each read adds at most as many as are lent to it, so what comes back lies
-- within the text. A read that passes no byte ends the loop, so each turn leaves fewer places.
use Rattle.std.proofs.Common.{length, ◌-◌, ◌≤◌}
use Rattle.linres.proofs.read_whole.Given as goal

abbrev pub invariant-loop-n : goal.invariant-loop-n
invariant-loop-n l = l.n ≤ length l.text

abbrev pub decreases-loop-n : goal.decreases-loop-n
decreases-loop-n l = length l.initial.text - l.n

-- The loop's invariant: reading the whole is going on behind the digits so far with their value. So each way out is one step of the
-- scanner.
use Rattle.std.proofs.Common.{◌≡◌, ◌+◌, drop}
use Rattle.decimal.specs.Spelling.{Word}
use Rattle.decimal.specs.Scan.{more_digits, number}
use Rattle.decimal.proofs.read_u32.Given as goal

abbrev pub invariant-loop-i : goal.invariant-loop-i
invariant-loop-i l = Word l.v × (number l.part ≡ more_digits (drop l.i l.more) l.v (l.i + 1))

-- The spelling of v is that of v / 10 and then the digit v % 10: one call writes the front, the other the last digit. The measure
-- is v.
use Rattle.decimal.proofs.+write_u32.Given as goal

abbrev pub decreases-write_u32 : goal.decreases-write_u32
decreases-write_u32 l = l.v

-- The spelling of v is that of v / 10 and one digit more, so the width is one more; the measure is v. A word has at most ten digits.
use Rattle.decimal.proofs.+width.Given as goal

abbrev pub decreases-width : goal.decreases-width
decreases-width l = l.v

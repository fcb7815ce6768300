-- The record is the head, the mark and the coefficients one behind the other, so its length is the sum of theirs. Each has a bound, so
-- no sum wraps.
use Rattle.std.proofs.Common.{arith}
use Rattle.records.proofs.Values as values
use Rattle.records.proofs.answer_len.Goals as goal

pub returns : goal.returns
returns c = let a = c.args in omega (arith, values.answer_length a.modulus a.simple a.coeffs.now)

-- Each return is one row of the promise: values that an answer cannot hold, no room, or the record. The length is measured before anything
-- is written, so a refusal touches nothing.
use Rattle.std.proofs.Common.{arith}
use Rattle.records.specs.Promises.{answer_kind}
use Rattle.records.proofs.Values as values
use Rattle.records.proofs.Puts.{put_there}
use Rattle.records.proofs.Outcomes as outcomes
use Rattle.records.proofs.write_answer.Goals as goal

pub returns : goal.returns
returns c = outcomes.put_held answer_kind (values.answer_held _ _ _ (omega arith) c.type_inv.coeffs (grind arith) (grind arith)) (put_there _ _ _ _ (omega arith) c.put_answer.ensures)

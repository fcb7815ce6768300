-- Each return is one row of the promise: values that a job cannot hold, no room, or the record. The length is measured before anything
-- is written, so a refusal touches nothing.
use Rattle.std.proofs.Common.{arith, rules}
use Rattle.records.specs.Promises.{job_kind}
use Rattle.records.proofs.Puts.{put_there}
use Rattle.records.proofs.Outcomes as outcomes
use Rattle.records.proofs.write_job.Goals as goal

pub returns : goal.returns
returns c = outcomes.put_held job_kind (search rules) (put_there _ _ _ _ (omega arith) c.put_job.ensures)

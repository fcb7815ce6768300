-- Two slices are tested, then the text is read into arrays of the function's own. What is found there goes to the fronts of the slices;
-- where no job is found the counts are 0, and nothing does.
use Rattle.std.proofs.Common.{◌≤◌, length, arith}
use Rattle.records.proofs.Outcomes as outcomes
use Rattle.records.proofs.read_job.Goals as goal
use Rattle.records.proofs.read_job.Goals.{After-unwrap_or_default-n}

-- the arrays hold as many numbers as the head says
counts : (c : After-unwrap_or_default-n) → (c.unwrap_or_default-n.result.degree ≤ length c.parse_job-found.new.cs) × (c.unwrap_or_default-n.result.weights ≤ length c.parse_job-found.new.ws)
counts c = outcomes.job_counted c.args.text.now c.parse_job-found.result c.unwrap_or_default-n.result _ (λ z. z.1) c.unwrap_or_default-n.ensures c.parse_job-found.ensures

pub copy_over-requires : goal.copy_over-requires
copy_over-requires c = omega (arith, counts (goal.at.copy_over-requires c).After-unwrap_or_default-n)

pub copy_over-requires-2 : goal.copy_over-requires-2
copy_over-requires-2 c = omega (arith, counts (goal.at.copy_over-requires-2 c).After-unwrap_or_default-n)

pub returns : goal.returns
returns c =
    outcomes.job_done c.args.text.now c.parse_job-found.result c.unwrap_or_default-n.result _ (λ z. z.1) c.unwrap_or_default-n.ensures c.parse_job-found.ensures
    c.ok_or.ensures.value (omega arith) c.copy_over.ensures c.copy_over-2.ensures

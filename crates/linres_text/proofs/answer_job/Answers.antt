-- The entry was called with the job and with room for every N; its number or its answer was written (`Answering`).
use Rattle.std.proofs.Common.{refl, arith, rules}
use Rattle.checks.specs.Refusal.{number_positive}
use Rattle.records.specs.Records.{job}
use Rattle.resolvents.specs.Results.{outcome}
use Rattle.std.specs.declared.result.Result.TheVariants.{Ok, Err}
use Rattle.linres_text.proofs.Answering.{Called, job_refused, few, job_answered}
use Rattle.linres_text.proofs.answer_job.Goals as goal
use Rattle.linres_text.proofs.answer_job.Goals.{In-Ok, In-Err}

answered : (c : In-Ok) → Called (job c.args.p c.args.f.now c.args.weights.now) (outcome (Ok c.in-Ok.summary))
answered c = record { output = _; work = _; words = _; rest = _; kept = c.in-Ok.ensures; output_long = search rules; work_long = search rules }

refused : (c : In-Err) → Called (job c.args.p c.args.f.now c.args.weights.now) (outcome (Err c.in-Err.row))
refused c = record { output = _; work = _; words = _; rest = _; kept = c.in-Err.ensures; output_long = search rules; work_long = search rules }

pub slice_bounds-output-end : goal.slice_bounds-output-end
slice_bounds-output-end c = omega (arith, few (answered (goal.at.slice_bounds-output-end c).In-Ok) refl)

pub returns-in-Ok : goal.returns-in-Ok
unfolding answered
returns-in-Ok c = job_answered (answered (goal.at.returns-in-Ok c).In-Ok) refl _ _ _ c.write_answer.ensures

pub returns-in-Err : goal.returns-in-Err
returns-in-Err c = job_refused (refused (goal.at.returns-in-Err c).In-Err) _ _ _ (λ e. omega (arith, number_positive c.in-Err.row)) c.refuse.ensures

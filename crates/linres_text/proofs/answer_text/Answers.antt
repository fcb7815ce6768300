-- A text is too long, or is no job, or is the job that is answered (`Answering`): a job has one spelling, so it is no other job.
use Rattle.std.proofs.Common.{◌≡◌, refl, arith, rules}
use Rattle.checks.specs.Refusal.{number, number_positive}
use Rattle.records.specs.Told.{job_told}
use Rattle.std.specs.declared.result.Result.TheVariants.{Ok, Err}
use Rattle.linres_text.proofs.Answering.{Read, too_long, row_1, no_job, counts, a_job}
use Rattle.linres_text.proofs.answer_text.Goals as goal
use Rattle.linres_text.proofs.answer_text.Goals.{In-Ok, In-Err}

read : (c : In-Ok) → Read c.args.text.now (job_told (Ok c.in-Ok.job))
read c = record { coeffs = _; weights = _; cs = _; ws = _; read = c.in-Ok.ensures; coeffs_long = search rules; weights_long = search rules }

refused : (c : In-Err) → Read c.args.text.now (job_told (Err c.in-Err.refusal))
refused c = record { coeffs = _; weights = _; cs = _; ws = _; read = c.in-Err.ensures; coeffs_long = search rules; weights_long = search rules }

pub returns-then-long : goal.returns-then-long
returns-then-long c = too_long c.args.text.now _ _ _ c.if-long.true c.refuse.ensures

pub returns-in-Err : goal.returns-in-Err
returns-in-Err c =
    let told = refused (goal.at.returns-in-Err c).In-Err in
    let other : number c.in-Err.refusal ≡ 0 → ⊥ = λ e. omega (arith, number_positive c.in-Err.refusal) in
    no_job c.args.text.now told other _ _ _ (omega (arith, row_1 c.args.text.now told other)) c.refuse-in-Err.ensures

pub slice_bounds-coeffs-end : goal.slice_bounds-coeffs-end
slice_bounds-coeffs-end c = omega (arith, (counts _ (read (goal.at.slice_bounds-coeffs-end c).In-Ok) refl).0)

pub slice_bounds-weights-end : goal.slice_bounds-weights-end
slice_bounds-weights-end c = omega (arith, (counts _ (read (goal.at.slice_bounds-weights-end c).In-Ok) refl).1)

pub returns-in-Ok : goal.returns-in-Ok
unfolding read
returns-in-Ok c = a_job c.args.text.now (read (goal.at.returns-in-Ok c).In-Ok) refl _ _ _ c.if-long.false c.answer_job.ensures

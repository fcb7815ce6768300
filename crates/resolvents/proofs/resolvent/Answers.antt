-- A call is judged, and what is left of it is answered: `Kept` says why. Nothing lent is written before row 16 is past, so a refusal
-- leaves it as it was.
use Rattle.std.proofs.Common.{◌≡◌, ◌≤◌, mod-lt, arith, rules, length, length-take}
use Rattle.std.proofs.Math.Nat.{pos_of_ne-zero}
use Rattle.limits.specs.Limits.{capacity}
use Rattle.refusals.specs.Refusals.{Call}
use Rattle.refusals.specs.Judged.{given}
use Rattle.resolvents.proofs.Kept.{refused_kept, judged_refused, Passed, good, positive, few, divisor_refused, bounded, counted, lent, divisor}
use Rattle.resolvents.proofs.Kept.{output_room, work_room, product_apart, done_kept}
use Rattle.resolvents.proofs.resolvent.Goals as goal
use Rattle.resolvents.proofs.resolvent.Goals.{Start, In_ok-job}

abbrev call : Start → Call
call c = let a = c.args in given a.p a.f.now a.list a.out.now a.work.now

-- none of rows 2 to 12 refuses it
passed : (c : In_ok-job) → let a = c.args in Passed a.p a.f.now a.list a.out.now a.work.now c.in_ok-job.job
passed c = record { judged = c.in_ok-job.ensures }

pub returns-in_err-job : goal.returns-in_err-job
returns-in_err-job c = refused_kept (call (goal.at.returns-in_err-job c).Start) _ (search rules) (judged_refused _ _ c.in_err-job.ensures.code)

pub invariant_of-modulus : goal.invariant_of-modulus
invariant_of-modulus c = record { positive = positive (passed (goal.at.invariant_of-modulus c).In_ok-job) }

pub check_divisors-requires : goal.check_divisors-requires
check_divisors-requires c = few (passed (goal.at.check_divisors-requires c).In_ok-job)

pub returns-in_err-check_divisors : goal.returns-in_err-check_divisors
returns-in_err-check_divisors c =
    let at = goal.at.returns-in_err-check_divisors c in
    refused_kept (call at.Start) _ (search rules) (divisor_refused (passed at.In_ok-job) c.in_err-check_divisors.ensures)

-- what the mark, the table and the engine ask
pub simple-simple-requires : goal.simple-simple-requires
simple-simple-requires c =
    let g = (good (passed (goal.at.simple-simple-requires c).In_ok-job)).job in
    record { prime = g.modulus.prime; c_len_bound = omega (arith, g.degree.high); c_in_bounds = omega (arith, g.degree.high); words = g.words }

pub slice_bounds-places-end : goal.slice_bounds-places-end
slice_bounds-places-end c = omega (arith, few (passed (goal.at.slice_bounds-places-end c).In_ok-job))

pub slice_bounds-table-end : goal.slice_bounds-table-end
slice_bounds-table-end c = let small : c.in_ok-job.job.count ≤ 1024 = omega (arith, few (passed (goal.at.slice_bounds-table-end c).In_ok-job)) in search rules

pub inverses-requires : goal.inverses-requires
inverses-requires c =
    let p = passed (goal.at.inverses-requires c).In_ok-job in
    record { prime = (good p).job.modulus.prime; n_lt_p = simp length-take (omega (arith, (counted p).below)) }

pub nonzero_rem-job : goal.nonzero_rem-job
nonzero_rem-job c = positive (passed (goal.at.nonzero_rem-job c).In_ok-job)

pub inverse-inverse-requires : goal.inverse-inverse-requires
inverse-inverse-requires c =
    let p = passed (goal.at.inverse-inverse-requires c).In_ok-job in
    record {
      prime = (good p).job.modulus.prime;
      k_nonzero = (pos_of_ne-zero (product_apart p c.in_ok-check_divisors.ensures), mod-lt _ (positive p));
    }

pub answer-lists-requires : goal.answer-lists-requires
answer-lists-requires c =
    let p = passed (goal.at.answer-lists-requires c).In_ok-job in
    let g = (good p).job in
    let full : length c.args.list.places ≡ capacity = search rules in
    record {
      prime = g.modulus.prime;
      polynomial = (g.degree.high, omega (arith, g.degree.high, g.modulus.low), g.words);
      weights = (g.list.some, bounded p full, g.list.fits);
      counts = counted p;
      inverses = (lent p _ (omega (arith, few p)) c.inverses.ensures, divisor p c.inverse-inverse.ensures);
      room = (output_room p, work_room p);
    }

pub overflow_add-n : goal.overflow_add-n
overflow_add-n c = omega (arith, few (passed (goal.at.overflow_add-n c).In_ok-job))

pub overflow_mul-n : goal.overflow_mul-n
overflow_mul-n c = omega (arith, few (passed (goal.at.overflow_mul-n c).In_ok-job))

pub clear-requires : goal.clear-requires
clear-requires c = omega (arith, c.answer-lists.ensures.1.work_same, work_room (passed (goal.at.clear-requires c).In_ok-job))

pub returns : goal.returns
returns c =
    done_kept (passed (goal.at.returns c).In_ok-job) c.in_ok-check_divisors.ensures _ _ _ _ _
    c.simple-simple.ensures.variant c.answer-lists.ensures.0 c.answer-lists.ensures.1 c.clear.ensures

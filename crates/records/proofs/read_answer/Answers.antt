-- The slice is tested, then the text is read into an array of the function's own. What is found there goes to the front of the slice;
-- where no answer is found, nothing does.
use Rattle.std.proofs.Common.{◌≤◌, length, arith}
use Rattle.std.proofs.lemmas.Result.{err_from_is_err_and}
use Rattle.records.proofs.Outcomes as outcomes
use Rattle.records.proofs.read_answer.Goals as goal
use Rattle.records.proofs.read_answer.Goals.{In_ok-head}

-- the array holds as many numbers as the answer says
count : (c : In_ok-head) → c.in_ok-head.head.degree ≤ length c.parse_answer-found.new.cs
count c = outcomes.answer_count c.args.text.now c.ok_or.ensures.value c.in_ok-head.was c.parse_answer-found.ensures

pub returns-in_err-head : goal.returns-in_err-head
returns-in_err-head c =
    let (x, e, f) = err_from_is_err_and c.from_residual.result c.from_residual.ensures.1 in
    outcomes.answer_refused c.args.text.now c.ok_or.ensures.value c.in_err-head.was e f (omega arith) c.parse_answer-found.ensures

pub copy_over-requires : goal.copy_over-requires
copy_over-requires c = omega (arith, count (goal.at.copy_over-requires c).In_ok-head)

pub returns : goal.returns
returns c = outcomes.answer_copied c.args.text.now c.ok_or.ensures.value c.in_ok-head.was c.parse_answer-found.ensures (omega arith) c.copy_over.ensures

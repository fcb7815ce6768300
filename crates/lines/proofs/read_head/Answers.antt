-- Each return is one step of the scanner of two lines: no first line, no second one, or both, and then the head. What is read is within
-- its text, so the place behind both is within the whole.
use Rattle.std.proofs.Common.{ℕ, List, ◌≤◌, length, arith}
use Rattle.decimal.proofs.ListSteps.{rest, rest_length}
use Rattle.lines.specs.Lines.{bytes}
use Rattle.lines.specs.Laws.{number_lines}
use Rattle.lines.specs.Scan.{head, keyed, one_line}
use Rattle.decimal.specs.Scan.{Got, number}
use Rattle.lines.proofs.Heads as heads
use Rattle.lines.proofs.read_head.Goals as goal
use Rattle.lines.proofs.read_head.Goals.{In_ok-modulus}

-- the scanners of the lines
abbrev first : List ℕ → Got ℕ
first = keyed (bytes "modulus=") (one_line number)

abbrev second : List ℕ → Got ℕ
second = keyed (bytes "degree=") (one_line number)

-- the place behind the first line is within the text
first_fits : (c : In_ok-modulus) → c.in_ok-modulus.at ≤ length c.args.text.now
unfolding bytes
first_fits c = heads.line_fits (number_lines (bytes "modulus=")) c.args.text.now c.in_ok-modulus.ensures

pub returns-in_err-modulus : goal.returns-in_err-modulus
unfolding head bytes
returns-in_err-modulus c = rw c.from_residual.ensures (heads.no_first first second c.args.text.now c.in_err-modulus.ensures)

pub returns-in_err-degree : goal.returns-in_err-degree
unfolding head bytes
returns-in_err-degree c = rw c.from_residual-in_err-degree.ensures (heads.no_second first second c.args.text.now _ _ c.in_ok-modulus.ensures c.in_err-degree.ensures)

pub overflow_add-result : goal.overflow_add-result
unfolding bytes
overflow_add-result c =
    let t = c.args.text.now in
    let at = c.in_ok-modulus.at in
    let within = heads.line_fits (number_lines (bytes "degree=")) (rest t at) c.in_ok-degree.ensures in
    omega (arith, first_fits (goal.at.overflow_add-result c).In_ok-modulus, within, rest_length t at)

pub returns : goal.returns
unfolding head bytes
returns c = heads.both_there first second c.args.text.now _ _ c.in_ok-modulus.ensures _ _ c.in_ok-degree.ensures

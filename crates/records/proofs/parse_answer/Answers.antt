-- As for a job, three lines are read, each in the part behind the one before: the head, the mark and the coefficients.
use Rattle.std.proofs.Common.{◌≡◌, refl, ◌∙◌, sym, arith, length, take, None}
use Rattle.limits.specs.Limits.{most_placements}
use Rattle.decimal.proofs.ListSteps.{rest}
use Rattle.lines.specs.Lines.{bytes}
use Rattle.lines.specs.Scan.{head, mark}
use Rattle.lines.specs.Laws.{heads, marks}
use Rattle.records.specs.Scan.{answer_format, coeffs_line}
use Rattle.records.specs.Laws.{coeffs_lines}
use Rattle.records.proofs.Parses.{LineRead}
use Rattle.records.proofs.Parses as parses
use Rattle.records.proofs.parse_answer.Goals as goal
use Rattle.records.proofs.parse_answer.Goals.{In_ok-head, In_ok-simple, In_ok-count, then-end-second-via-then-end-second, then-end-second-via-else-end-second+then-head-count}

-- ---- the lines that were read
head_line : (c : In_ok-head) → let h = c.in_ok-head.head in LineRead head c.args.text.now (h.modulus, h.degree) h.end
head_line c = parses.line_read heads c.args.text.now (sym c.in_ok-head.ensures)

mark_line : (c : In_ok-simple) → LineRead mark (rest c.args.text.now c.in_ok-head.head.end) c.in_ok-simple.simple c.in_ok-simple.behind
mark_line c = parses.line_read marks (rest c.args.text.now c.in_ok-head.head.end) (sym c.in_ok-simple.ensures)

coeffs : (c : In_ok-count) → let f = c.in_ok-count in
    LineRead (coeffs_line most_placements) (rest (rest c.args.text.now c.in_ok-head.head.end) c.in_ok-simple.behind) (take f.count c.read_list_line.new.out) f.end
unfolding bytes
coeffs c =
    let t = rest (rest c.args.text.now c.in_ok-head.head.end) c.in_ok-simple.behind in
    parses.list_there (parses.coeffs_read most_placements t c.requires c.read_list_line.ensures) (coeffs_lines most_placements) c.in_ok-count.was

coeffs_count : (c : In_ok-count) → length (take c.in_ok-count.count c.read_list_line.new.out) ≡ c.in_ok-count.count
coeffs_count c = parses.counted c.read_list_line.ensures c.in_ok-count.was

pub returns-in_err-head : goal.returns-in_err-head
returns-in_err-head c =
    let t = c.args.text.now in
    parses.answer_none t (parses.no_head answer_format t (sym c.in_err-head.ensures)) c.from_residual.ensures

pub slice_bounds-first-count : goal.slice_bounds-first-count
slice_bounds-first-count c = (head_line c).fits

pub slice_bounds-first-start : goal.slice_bounds-first-start
slice_bounds-first-start c = omega (arith, (head_line c).fits)

pub returns-in_err-simple : goal.returns-in_err-simple
returns-in_err-simple c =
    let t = c.args.text.now in
    let at = goal.at.returns-in_err-simple c in
    parses.answer_none t (parses.no_first answer_format t (head_line at.In_ok-head) (sym c.in_err-simple.ensures)) c.from_residual-in_err-simple.ensures

pub slice_bounds-second-count : goal.slice_bounds-second-count
slice_bounds-second-count c = (mark_line c).fits

pub slice_bounds-second-start : goal.slice_bounds-second-start
slice_bounds-second-start c = omega (arith, (mark_line c).fits)

pub returns-in_err-count : goal.returns-in_err-count
unfolding bytes
returns-in_err-count c =
    let t = c.args.text.now in
    let at = goal.at.returns-in_err-count c in
    let read = parses.coeffs_read most_placements (rest (rest t c.in_ok-head.head.end) c.in_ok-simple.behind) c.requires c.read_list_line.ensures in
    parses.answer_none t (parses.no_second answer_format t (head_line at.In_ok-head) (mark_line at.In_ok-simple) (parses.no_list read c.in_err-count.was))
    c.from_residual-in_err-count.ensures

pub returns-then-end-second : goal.returns-then-end-second
returns-then-end-second c =
    let t = c.args.text.now in
    let at = goal.at.returns-then-end-second c in
    parses.answer_none t {o = None} (elim c.then-end-second.branch [
      | then-end-second-via-then-end-second w ↦ parses.more_behind answer_format t (head_line at.In_ok-head) (mark_line at.In_ok-simple) (coeffs at.In_ok-count) w.if-end-second.true
      | then-end-second-via-else-end-second+then-head-count w ↦
          parses.other_degree answer_format t (head_line at.In_ok-head) (mark_line at.In_ok-simple) (coeffs at.In_ok-count) w.if-end-second.false
          (λ q. w.if-head-count.true (q ∙ coeffs_count at.In_ok-count))
    ]) refl

pub returns : goal.returns
returns c =
    let t = c.args.text.now in
    let at = goal.at.returns c in
    let f = at.In_ok-count in
    parses.answer_some t
    (parses.record_read answer_format t (head_line at.In_ok-head) (mark_line at.In_ok-simple) (coeffs f) c.if-end-second.false (omega (arith, coeffs_count f)))
    (coeffs_count f)

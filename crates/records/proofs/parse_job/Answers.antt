-- Three lines are read, each in the part behind the one before. Each return is one step of `Parses`: a line that is missing, something
-- behind the last one, another degree, or the job.
use Rattle.std.proofs.Common.{◌≡◌, refl, ◌∙◌, sym, arith, length, take, None}
use Rattle.limits.specs.Limits.{most_numbers}
use Rattle.decimal.proofs.ListSteps.{rest}
use Rattle.lines.specs.Lines.{bytes}
use Rattle.lines.specs.Scan.{head}
use Rattle.lines.specs.Laws.{heads}
use Rattle.records.specs.Scan.{coeffs_line, job_format, weights_line}
use Rattle.records.specs.Laws.{coeffs_lines, weights_lines}
use Rattle.records.proofs.Parses.{LineRead}
use Rattle.records.proofs.Parses as parses
use Rattle.records.proofs.parse_job.Goals as goal
use Rattle.records.proofs.parse_job.Goals.{In_ok-head, In_ok-n, In_ok-m, then-end-second-via-then-end-second, then-end-second-via-else-end-second+then-head-n}

-- ---- the lines that were read
head_line : (c : In_ok-head) → let h = c.in_ok-head.head in LineRead head c.args.text.now (h.modulus, h.degree) h.end
head_line c = parses.line_read heads c.args.text.now (sym c.in_ok-head.ensures)

coeffs : (c : In_ok-n) → let f = c.in_ok-n in
    LineRead (coeffs_line most_numbers) (rest c.args.text.now c.in_ok-head.head.end) (take f.n c.read_list_line.new.out) f.behind
unfolding bytes
coeffs c =
    let t = rest c.args.text.now c.in_ok-head.head.end in
    parses.list_there (parses.coeffs_read most_numbers t c.requires.0 c.read_list_line.ensures) (coeffs_lines most_numbers) c.in_ok-n.was

weights : (c : In_ok-m) → let f = c.in_ok-m in
    LineRead weights_line (rest (rest c.args.text.now c.in_ok-head.head.end) c.in_ok-n.behind) (take f.m c.read_list_line-2.new.out) f.end
unfolding bytes
weights c =
    let t = rest (rest c.args.text.now c.in_ok-head.head.end) c.in_ok-n.behind in
    parses.list_there (parses.weights_read t c.requires.1 c.read_list_line-2.ensures) weights_lines c.in_ok-m.was

coeffs_count : (c : In_ok-n) → length (take c.in_ok-n.n c.read_list_line.new.out) ≡ c.in_ok-n.n
coeffs_count c = parses.counted c.read_list_line.ensures c.in_ok-n.was

pub returns-in_err-head : goal.returns-in_err-head
returns-in_err-head c =
    let t = c.args.text.now in
    parses.job_none t (parses.no_head job_format t (sym c.in_err-head.ensures)) c.from_residual.ensures

pub slice_bounds-first-count : goal.slice_bounds-first-count
slice_bounds-first-count c = (head_line c).fits

pub slice_bounds-first-start : goal.slice_bounds-first-start
slice_bounds-first-start c = omega (arith, (head_line c).fits)

pub returns-in_err-n : goal.returns-in_err-n
unfolding bytes
returns-in_err-n c =
    let t = c.args.text.now in
    let at = goal.at.returns-in_err-n c in
    let read = parses.coeffs_read most_numbers (rest t c.in_ok-head.head.end) c.requires.0 c.read_list_line.ensures in
    parses.job_none t (parses.no_first job_format t (head_line at.In_ok-head) (parses.no_list read c.in_err-n.was)) c.from_residual-in_err-n.ensures

pub slice_bounds-second-count : goal.slice_bounds-second-count
slice_bounds-second-count c = (coeffs c).fits

pub slice_bounds-second-start : goal.slice_bounds-second-start
slice_bounds-second-start c = omega (arith, (coeffs c).fits)

pub returns-in_err-m : goal.returns-in_err-m
unfolding bytes
returns-in_err-m c =
    let t = c.args.text.now in
    let at = goal.at.returns-in_err-m c in
    let read = parses.weights_read (rest (rest t c.in_ok-head.head.end) c.in_ok-n.behind) c.requires.1 c.read_list_line-2.ensures in
    parses.job_none t (parses.no_second job_format t (head_line at.In_ok-head) (coeffs at.In_ok-n) (parses.no_list read c.in_err-m.was)) c.from_residual-in_err-m.ensures

pub returns-then-end-second : goal.returns-then-end-second
returns-then-end-second c =
    let t = c.args.text.now in
    let at = goal.at.returns-then-end-second c in
    parses.job_none t {o = None} (elim c.then-end-second.branch [
      | then-end-second-via-then-end-second w ↦ parses.more_behind job_format t (head_line at.In_ok-head) (coeffs at.In_ok-n) (weights at.In_ok-m) w.if-end-second.true
      | then-end-second-via-else-end-second+then-head-n w ↦
          parses.other_degree job_format t (head_line at.In_ok-head) (coeffs at.In_ok-n) (weights at.In_ok-m) w.if-end-second.false
          (λ q. w.if-head-n.true (q ∙ coeffs_count at.In_ok-n))
    ]) refl

pub returns : goal.returns
returns c =
    let t = c.args.text.now in
    let at = goal.at.returns c in
    let n = at.In_ok-n in
    parses.job_some t
    (parses.record_read job_format t (head_line at.In_ok-head) (coeffs n) (weights at.In_ok-m) c.if-end-second.false (omega (arith, coeffs_count n)))
    (coeffs_count n) (parses.counted c.read_list_line-2.ensures c.in_ok-m.was)

-- Each return is one case of the scanner: no key, no number, no line feed, or the number.
use Rattle.std.proofs.Common.{◌≡◌, ◌+◌, sym, ◌∙◌, arith}
use Rattle.decimal.specs.Scan.{got, number}
use Rattle.lines.specs.Scan.{one_line}
use Rattle.lines.proofs.Steps as steps
use Rattle.lines.proofs.read_number_line.Goals as goal

pub returns-in_err-rest : goal.returns-in_err-rest
returns-in_err-rest c = rw c.from_residual.ensures (steps.no_key (one_line number) c.args.key.now c.args.text.now c.in_err-rest.ensures.cases)

pub returns : goal.returns
returns c =
    let key = c.in_ok-rest.ensures.cases in
    let n = c.in_ok-v in
    let end : c.byte_at.result ≡ 10 = omega arith in
    let line : got n.v (n.at + 1) ≡ one_line number c.in_ok-rest.rest.now = steps.ended number _ n.ensures (sym c.byte_at.ensures ∙ end) in
    steps.found (one_line number) c.args.key.now c.args.text.now key.0 _ key.1 _ _ _ line (omega arith)

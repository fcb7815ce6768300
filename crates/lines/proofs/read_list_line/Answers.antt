-- What the list reader found in the part behind the key is what the line holds, its place moved by the key's length.
use Rattle.std.proofs.Common.{◌≤◌, length, arith}
use Rattle.decimal.specs.Scan.{read_list}
use Rattle.lines.proofs.Steps as steps
use Rattle.lines.proofs.read_list_line.Goals as goal

pub returns-in_err-rest : goal.returns-in_err-rest
returns-in_err-rest g c =
    steps.none_listed _ (steps.no_key (read_list g.T.Spelled.scan (length c.args.out.now)) c.args.key.now c.args.text.now c.in_err-rest.ensures.cases) c.from_residual.ensures

pub overflow_add-result : goal.overflow_add-result
overflow_add-result g c =
    let within : c.in_ok-n.at ≤ length c.in_ok-rest.rest.now = steps.list_fits g.T.Spelled.scan (length c.args.out.now) c.in_ok-rest.rest.now c.in_ok-n.ensures g.met.T.Spelled.laws in
    omega (arith, c.in_ok-rest.ensures.cases)

pub returns : goal.returns
returns g c =
    let key = c.in_ok-rest.ensures.cases in
    steps.listed g.T.Spelled.scan (length c.args.out.now) c.in_ok-rest.rest.now c.in_ok-n.ensures c.args.key.now c.args.text.now key.0 key.1

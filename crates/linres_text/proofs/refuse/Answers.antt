-- The line has nine bytes beside the number's digits, so what is compared is its length. The number is the refusal's (`from-row`).
use Rattle.std.proofs.Common.{arith}
use Rattle.lines.specs.Lines.{refused_line}
use Rattle.records.proofs.Puts.{no_room, put_there}
use Rattle.linres_text.proofs.Lengths.{refused_length}
use Rattle.linres_text.proofs.refuse.Goals as goal

pub returns-then-out-width : goal.returns-then-out-width
returns-then-out-width c =
    let short = no_room (refused_line c.from-row.result) c.args.out.now (omega (arith, refused_length c.from-row.result, c.width.ensures, c.if-out-width.true)) in
    rw c.from-row.ensures at short

pub write_refused-requires : goal.write_refused-requires
write_refused-requires c = omega (arith, refused_length c.from-row.result, c.width.ensures, c.if-out-width.false)

pub returns : goal.returns
returns c =
    let enough = put_there (refused_line c.from-row.result) c.args.out.now _ _
    (omega (arith, refused_length c.from-row.result, c.width.ensures, c.if-out-width.false)) c.write_refused.ensures in
    rw c.from-row.ensures at enough

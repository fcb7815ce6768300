-- `linres_write_answer` keeps the promise of `write_answer`: a word above 1 is no mark and is refused before the call; else the
-- test `simple == 1` is the mark that the word stands for.
use Rattle.std.specs.Prelude.{refl}
use Rattle.std.proofs.Common.{◌∙◌, arith, rules}
use Rattle.records.specs.Put.{not_written}
use Rattle.records.specs.Told.{written, length_told}
use Rattle.exports.proofs.Marks.{a_mark, no_mark}
use Rattle.exports.proofs.linres_write_answer.Goals as goal

pub returns-then-simple-gt1 : goal.returns-then-simple-gt1
returns-then-simple-gt1 c = record { written = not_written 15; right = no_mark (omega arith) refl refl; code_is = c.from.ensures; length_is = refl }

pub returns : goal.returns
returns c =
    let r = c.write_answer-answer in
    record { written = written r.result; right = a_mark (omega arith) r.ensures; code_is = search rules; length_is = c.unwrap_or.ensures ∙ length_told r.result }

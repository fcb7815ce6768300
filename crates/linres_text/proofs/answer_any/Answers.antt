-- `answer_any` meets its contract: the bytes lent are as many as the longest answer has, so `answer_text` finds room for every one.
use Rattle.std.proofs.Common.{◌∙◌, arith}
use Rattle.records.specs.Told.{length_told}
use Rattle.linres_text.proofs.AnyTexts.{room_for_any}
use Rattle.linres_text.proofs.answer_any.Goals as goal

pub returns : goal.returns
returns c = rw (c.unwrap_or.ensures ∙ length_told c.answer_text.result) (room_for_any _ _ _ _ (omega arith) c.answer_text.ensures).1

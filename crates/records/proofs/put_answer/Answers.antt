-- The head and two lines are written one behind the other; the room for all is room for each.
use Rattle.std.proofs.Common.{arith}
use Rattle.decimal.proofs.Writes.{room_first, room_second, room_third, wrote_three}
use Rattle.lines.specs.Lines.{bytes}
use Rattle.records.specs.Records.{answer_text}
use Rattle.records.proofs.put_answer.Goals as goal

pub write_head-a-requires : goal.write_head-a-requires
unfolding answer_text bytes
write_head-a-requires c = (omega (arith, c.requires.0.coeffs.at_most), search room_first)

pub write_mark-b-requires : goal.write_mark-b-requires
unfolding answer_text bytes
write_mark-b-requires c = search room_second

pub write_list_line-requires : goal.write_list_line-requires
unfolding answer_text bytes
write_list_line-requires c = search room_third

pub returns : goal.returns
unfolding answer_text bytes
returns c = search wrote_three

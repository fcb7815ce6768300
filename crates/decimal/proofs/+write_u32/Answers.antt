use Rattle.decimal.proofs.Writes as writes
use Rattle.decimal.proofs.+write_u32.Goals as goal

pub returns-then-v-lt10 : goal.returns-then-v-lt10
returns-then-v-lt10 t c = writes.wrote_digit _ c.if-v-lt10.true c.write_byte.ensures

pub returns : goal.returns
returns t c = writes.wrote_digits _ c.if-v-lt10.false c.write_u32-p.ensures c.write_byte-2.ensures

-- What a function promises that writes a text of which several may be right: one of them stands at the front of out, or row 14 applies
-- and nothing is touched.
use Rattle.std.specs.Prelude.{List, ℕ}
use Rattle.records.specs.Told.{Written}
use Rattle.records.specs.Put.{Put}

-- `out` are the bytes before the call, `out'` after it
pub record Puts (Right : List ℕ → Type 0) (out : List ℕ) (r : Written) (out' : List ℕ) : Type 0 where
  pub bytes : List ℕ
  pub right : Right bytes
  pub put : Put bytes out r out'

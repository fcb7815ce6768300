-- What a function promises that is lent room for the longest answer: it writes the text that answers the text, whatever it is. No
-- number comes back with the length, since 11,313 bytes are enough (`fits`) and so row 14 never applies.
use Rattle.std.specs.Prelude.{◌≡◌, List, ℕ, length}
use Rattle.records.specs.Put.{over}
use Rattle.linres_text.specs.Texts.{TextOf}

-- `out` are the bytes before the call, `out'` after it
pub record AnswersAny (text out : List ℕ) (len : ℕ) (out' : List ℕ) : Type 0 where
  pub bytes : List ℕ
  pub right : TextOf text bytes
  pub size : len ≡ length bytes
  pub put : out' ≡ over bytes out

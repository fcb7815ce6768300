-- Bytes copied over a part of the text are the bytes written there. The first two lines are as long as their numbers and what stands around
-- these.
use Rattle.std.proofs.Common.{◌≡◌, ℕ, ◌+◌, ◌≤◌, List, [], ◌∷◌, length, append_assoc, arith, length-append, drop-drop}
use Rattle.std.proofs.lemmas.List.Edits.{sets, sets-eq}
use borrow.Rule.Slice.PartMut.{put_mid}
use Rattle.decimal.specs.Spelling.{decimal}
use Rattle.lines.specs.Lines.{bytes, head_text, number_line}

pub copied : (out s part : List ℕ) (at k : ℕ) → at + length s ≤ length out → k ≡ length s → part ≡ s → put_mid at k out part ≡ sets out at s
copied out s part at k r e f = rw (e, f, sets-eq s out at r, append_assoc, drop-drop)

-- ---- the first two lines
pub head_length : (m d : ℕ) → length (head_text m d) ≡ 17 + length (decimal m) + length (decimal d)
unfolding head_text bytes
head_length m d = omega (
  arith,
  length-append (number_line (bytes "modulus=") m) (number_line (bytes "degree=") d),
  length-append (decimal m) (10 ∷ []),
  length-append (decimal d) (10 ∷ []),
)

-- What reading a line, and then another, finds at the front of a text.
use Rattle.std.specs.Prelude.{ℕ, ◌+◌, Bool, true, false, cond, List, [], ◌∷◌, eqb, length, get_or, drop, Option, Some, None}
use Rattle.decimal.specs.Scan.{Got, and_then, bad, got, number}
use Rattle.lines.specs.declared.Head.{Head}
use Rattle.lines.specs.Lines.{bytes, mark_text}

abbrev pub starts : List ℕ → List ℕ → Bool
starts [] t = true
starts (k ∷ key) [] = false
starts (k ∷ key) (b ∷ t) = cond (eqb k b) (starts key t) false

-- an item with a line feed behind it
module _ {A : Type 0} (item : List ℕ → Got A) where
  abbrev pub one_line : List ℕ → Got A
  one_line t = and_then (item t) λ v i. cond (eqb (get_or t i 0) 10) (got v (i + 1)) bad

-- a key in front
module _ {A : Type 0} (key : List ℕ) (scan : List ℕ → Got A) where
  abbrev pub keyed : List ℕ → Got A
  keyed t = cond (starts key t) (and_then (scan (drop (length key) t)) λ v i. got v (length key + i)) bad

-- one behind the other
module _ {A B : Type 0} (first : List ℕ → Got A) (second : List ℕ → Got B) where
  abbrev pub both : List ℕ → Got (A × B)
  both t = and_then (first t) λ a i. and_then (second (drop i t)) λ b j. got (a, b) (i + j)

-- ---- the first two lines of either record, and the mark
unfoldable pub head : List ℕ → Got (ℕ × ℕ)
head = both (keyed (bytes "modulus=") (one_line number)) (keyed (bytes "degree=") (one_line number))

unfoldable pub mark : List ℕ → Got Bool
mark t =
    cond (starts (mark_text true) t) (got true (length (mark_text true)))
    (cond (starts (mark_text false) t) (got false (length (mark_text false))) bad)

-- what the code's answer says: the values and the place behind them, or row 1
abbrev pub head_of : Option Head → Got (ℕ × ℕ)
head_of (Some h) = got (h.modulus, h.degree) h.end
head_of None = bad

-- The lines of document 01's records: "Lines end with one line feed".
use Rattle.std.specs.Prelude.{ℕ, ◌≤◌, ◌<◌, Bool, true, false, List, [], ◌∷◌, ◌++◌, length}
use Prim.Native.Char.{code}
use Prim.Native.String.{String, [] as empty, ◌∷◌ as ◌then◌}
use Rattle.decimal.specs.Spelling.{Each, decimal, line}

-- a text's characters as bytes
unfoldable pub bytes : String → List ℕ
bytes empty = []
bytes (c then s) = code c ∷ bytes s

-- a key, a number and a line feed
abbrev pub number_line : List ℕ → ℕ → List ℕ
number_line key n = key ++ (decimal n ++ (10 ∷ []))

-- a key, and a list with its line feed
abbrev pub list_line : {A : Type 0} → (A → List ℕ) → List ℕ → List A → List ℕ
list_line spell key xs = key ++ line spell xs

-- the first two of either record
unfoldable pub head_text : ℕ → ℕ → List ℕ
head_text modulus degree = number_line (bytes "modulus=") modulus ++ number_line (bytes "degree=") degree

-- `simple=` (yes or no)
unfoldable pub mark_text : Bool → List ℕ
mark_text true = bytes "simple=yes\n"
mark_text false = bytes "simple=no\n"

-- "1 to most numbers", each of which may stand in the list
pub record OneTo {A : Type 0} (most : ℕ) (Ok : A → Type 0) (xs : List A) : Type 0 where
  pub each : Each Ok xs
  pub at_least : 0 < length xs
  pub at_most : length xs ≤ most

-- "the one line `refused=` with the number"
unfoldable pub refused_line : ℕ → List ℕ
refused_line n = number_line (bytes "refused=") n

-- A table of checks: rows of a test and a number, and the number of the first row whose test holds, 0 if none does (document 01,
-- "The numbers we send back"). And what every entry promises whose calls are judged by such a table.
use Rattle.std.specs.Prelude.{◌≡◌, Bool, false, ◌||◌, cond, List, [], ◌∷◌, ℕ, zero, suc, ◌<◌, get_or}

abbrev pub Table : Type 0
Table = List (Bool × ℕ)

-- the number of the first row that applies: "no earlier check of its entry applying"
unfoldable pub first : Table → ℕ
first [] = 0
first ((t, k) ∷ rest) = cond t k (first rest)

-- the row at place j: its test and its number
abbrev pub row : Table → ℕ → Bool × ℕ
row rows j = get_or rows j (false, 0)

-- no row has the number k
abbrev pub Free : ℕ → Table → Type 0
Free k [] = Unit {0}
Free k ((t, n) ∷ rest) = (n ≡ k → ⊥) × Free k rest

-- No row has the number 0, and no two have the same: a number tells its row, in whatever order the rows stand.
abbrev pub Numbered : Table → Type 0
Numbered [] = Unit {0}
Numbered ((t, k) ∷ rest) = (0 < k) × Free k rest × Numbered rest

-- t holds of some number below n
unfoldable pub some_below : (ℕ → Bool) → ℕ → Bool
some_below t zero = false
some_below t (suc n) = t n || some_below t n

-- What an entry promises: its code is the table's number; a refused call leaves what `Refused` says, any other what `Done` says.
pub record Answers (number returned : ℕ) (Refused Done : Type 0) : Type 0 where
  pub code : returned ≡ number
  pub refused : (number ≡ 0 → ⊥) → Refused
  pub done : number ≡ 0 → Done

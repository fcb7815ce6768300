-- Numbers and lists of numbers as bytes (document 01, "The two records"): what is spelt how. A byte 44 is a comma, 45 a minus sign,
-- 10 a line feed.
use Rattle.std.specs.Prelude.{ℕ, zero, suc, ◌+◌, ◌/◌, ◌%◌, ◌≤◌, cond, List, [], ◌∷◌, ◌++◌, ltb, ℤ, pos, negsuc, nat_abs}
use Rattle.limits.specs.Limits.{largest_written}

-- the digits of n, of which there are at most as many as fuel where n < fuel
unfoldable pub digits : ℕ → ℕ → List ℕ
digits zero n = []
digits (suc fuel) n = cond (ltb n 10) ((48 + n) ∷ []) (digits fuel (n / 10) ++ ((48 + n % 10) ∷ []))

-- "Numbers are decimal, without leading zeros; `0` is the only spelling of zero."
unfoldable pub decimal : ℕ → List ℕ
decimal n = digits (suc n) n

-- "minus sign allowed, `-0` not"
unfoldable pub signed : ℤ → List ℕ
signed (pos n) = decimal n
signed (negsuc n) = 45 ∷ decimal (suc n)

-- "Modulus and coefficients are 0 to 4,294,967,295."
abbrev pub largest_word : ℕ
largest_word = 4294967295

abbrev pub Word : ℕ → Type 0
Word n = n ≤ largest_word

-- weights: "each -999 to 999"
abbrev pub Small : ℤ → Type 0
Small z = nat_abs z ≤ largest_written

-- "Lists have commas and no blanks", "Lines end with one line feed"
module _ {A : Type 0} (spell : A → List ℕ) where
  -- behind an item: a comma with the items to come, or the line feed
  unfoldable pub after : List A → List ℕ
  after [] = 10 ∷ []
  after (x ∷ xs) = 44 ∷ (spell x ++ after xs)

  -- a list that is not empty, with its line feed
  unfoldable pub line : List A → List ℕ
  line [] = []
  line (x ∷ xs) = spell x ++ after xs

-- P holds of each item
abbrev pub Each : {A : Type 0} → (A → Type 0) → List A → Type 0
Each P [] = Unit {0}
Each P (x ∷ xs) = P x × Each P xs

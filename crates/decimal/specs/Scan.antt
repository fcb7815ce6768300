-- What reading at the front of a text finds, byte by byte, and what the code's answers say of it. That this is the reading of what
-- `Spelling` spells is in the laws.
use Rattle.std.specs.Prelude.{ℕ, zero, suc, ◌+◌, ◌-◌, ◌*◌, ◌≤◌, ◌≡◌, cond, List, [], ◌∷◌, ◌++◌, ltb, eqb, ℤ, pos, neg_ℤ}
use Rattle.std.specs.Prelude.{length, get_or, take, drop, Option, Some, None}
use Rattle.limits.specs.Limits.{largest_written}
use Rattle.decimal.specs.Spelling.{largest_word}

-- a value and how many bytes it took, or document 01's number of the refusal
pub data Got (A : Type 0) : Type 0 where
  got : A → ℕ → Got A
  refused : ℕ → Got A

-- row 1: "the text is not a record of the kind read"
abbrev pub bad : {A : Type 0} → Got A
bad = refused 1

-- what the code's answer says: the value and the place behind it, or row 1
abbrev pub got_of : {A : Type 0} → Option (A × ℕ) → Got A
got_of (Some (v, i)) = got v i
got_of None = bad

abbrev pub and_then : {A B : Type 0} → Got A → (A → ℕ → Got B) → Got B
and_then (got a i) f = f a i
and_then (refused n) f = refused n

-- ---- a number
-- the value of a digit, and 10 for any other byte
unfoldable pub digit_of : ℕ → ℕ
digit_of b = cond (ltb b 48) 10 (cond (ltb 57 b) 10 (b - 48))

-- after i digits of value v: a digit more, unless it follows a zero or makes the value too large
abbrev pub more_digits : List ℕ → ℕ → ℕ → Got ℕ
more_digits [] v i = got v i
more_digits (b ∷ t) v i =
    cond (ltb 9 (digit_of b)) (got v i)
    (cond (eqb v 0) bad
    (cond (ltb largest_word (v * 10 + digit_of b)) bad
    (more_digits t (v * 10 + digit_of b) (i + 1))))

abbrev pub number : List ℕ → Got ℕ
number [] = bad
number (b ∷ t) = cond (ltb 9 (digit_of b)) bad (more_digits t (digit_of b) 1)

-- ---- a number from -999 to 999
unfoldable pub signed_number : List ℕ → Got ℤ
signed_number t =
    cond (eqb (get_or t 0 0) 45)
    (and_then (number (drop 1 t)) λ v i. cond (eqb v 0) bad (cond (ltb largest_written v) bad (got (neg_ℤ (pos v)) (i + 1))))
    (and_then (number t) λ v i. cond (ltb largest_written v) bad (got (pos v) i))

-- ---- a list: with room for k items more, the text that is left, the items read, and the place
module _ {A : Type 0} (item : List ℕ → Got A) where
  abbrev pub more_items : ℕ → List ℕ → List A → ℕ → Got (List A)
  more_items zero t xs at = bad
  more_items (suc k) t xs at =
      and_then (item t) λ v i.
      cond (eqb (get_or t i 0) 10) (got (xs ++ (v ∷ [])) (at + (i + 1)))
      (cond (eqb (get_or t i 0) 44) (more_items k (drop (i + 1) t) (xs ++ (v ∷ [])) (at + (i + 1))) bad)

  abbrev pub read_list : ℕ → List ℕ → Got (List A)
  read_list most t = more_items most t [] 0

-- what the code's answer says, with the numbers that it left at the front of out: these and their place, or row 1
abbrev pub list_of : {A : Type 0} → Option (ℕ × ℕ) → List A → Got (List A)
list_of (Some (n, i)) out = got (take n out) i
list_of None out = bad

abbrev pub count_of : Option (ℕ × ℕ) → ℕ
count_of (Some (n, i)) = n
count_of None = 0

-- the answer and out say what was found, and the numbers are all in out
pub record ListRead {A : Type 0} (g : Got (List A)) (r : Option (ℕ × ℕ)) (out : List A) : Type 0 where
  pub found : list_of r out ≡ g
  pub fits : count_of r ≤ length out

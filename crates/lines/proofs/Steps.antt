-- The readers of a line take the key off the front, and go by what the part behind it holds: a number and a line feed, or a list. What is
-- found there is what the line holds, its place moved by the key's length.
use Rattle.std.proofs.Common.{◌≡◌, refl, sym, ◌∙◌, true, false, ℕ, ◌+◌, ◌≤◌, List, [], ◌∷◌, Option, Some, None, length, get_or, take, drop, eqb, arith}
use Rattle.std.specs.Cmp.Lexicographic.{pointwise}
use Rattle.decimal.specs.Scan.{Got, ListRead, and_then, bad, got, read_list}
use Rattle.decimal.specs.Scans.{Scans}
use Rattle.lines.specs.Scan.{keyed, one_line, starts}
use Rattle.lines.specs.Laws.{lines, within}

-- ---- the library's tests for a key
pub starts_is : (key t : List ℕ) → pointwise eqb key (take (length key) t) ≡ starts key t
starts_is [] t = refl
starts_is (k ∷ key) [] = refl
starts_is (k ∷ key) (b ∷ t) = grind (arith, starts_is key t)

front_is : (key t : List ℕ) → pointwise eqb (take (length key) t) key ≡ starts key t
front_is [] t = refl
front_is (k ∷ key) [] = refl
front_is (k ∷ key) (b ∷ t) = grind (arith, front_is key t)

-- ---- behind a key
module _ {A : Type 0} (scan : List ℕ → Got A) (key t : List ℕ) where
  pub no_key : pointwise eqb (take (length key) t) key ≡ false → bad ≡ keyed key scan t
  no_key e = rw (sym (front_is key t) ∙ e)

  module _ (e : pointwise eqb (take (length key) t) key ≡ true) (s : List ℕ) (f : s ≡ drop (length key) t) where
    keyed_is : keyed key scan t ≡ and_then (scan s) λ v i. got v (length key + i)
    keyed_is = rw (sym (front_is key t) ∙ e, ← f)

    pub found : (v : A) (i j : ℕ) → got v i ≡ scan s → j ≡ length key + i → got v j ≡ keyed key scan t
    found v i j h k = rw (keyed_is, ← h, k)

-- ---- a number and a line feed
pub ended : {A : Type 0} (item : List ℕ → Got A) (s : List ℕ) {v : A} {i : ℕ} → got v i ≡ item s → get_or s i 0 ≡ 10 → got v (i + 1) ≡ one_line item s
ended item s h e = rw (← h, e)

-- ---- a list
pub none_listed : {A : Type 0} {g : Got (List A)} {r : Option (ℕ × ℕ)} (out : List A) → bad ≡ g → r ≡ None → ListRead g r out
none_listed out h e = rw e (record { found = h; fits = omega arith })

module _ {A : Type 0} (item : List ℕ → Got A) (cap : ℕ) (s : List ℕ) {n i : ℕ} {out : List A} (r : ListRead (read_list item cap s) (Some (n, i)) out) where
  pub listed : (key t : List ℕ) → pointwise eqb (take (length key) t) key ≡ true → s ≡ drop (length key) t →
      ListRead (keyed key (read_list item cap) t) (Some (n, length key + i)) out
  listed key t e f = record { found = found (read_list item cap) key t e s f (take n out) i _ r.found refl; fits = r.fits }

  -- the place behind the line is within the text
  pub list_fits : {Ok : A → Type 0} {spell : A → List ℕ} → Scans Ok spell item → i ≤ length s
  list_fits R = within (lines R cap) s (take n out) i (sym r.found)

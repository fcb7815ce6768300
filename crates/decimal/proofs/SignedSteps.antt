-- The reader of numbers with a sign takes the two cases of its scanner by the first byte: behind a minus sign a number that is not 0,
-- else a number, and neither above the largest.
use Rattle.std.proofs.Common.{◌≡◌, sym, ◌∙◌, refl, cond, ℕ, ◌+◌, ◌≤◌, ◌<◌, ◌⊎◌, inl, inr, List, [], ◌∷◌, length, get_or, drop, take, eqb, true, false, ltb}
use Rattle.std.proofs.Common.{arith, lt-ltb, le-ltb, ne_eqb}
use Rattle.std.specs.Prelude.{pos, neg_ℤ}
use Rattle.std.specs.Cmp.Lexicographic.{pointwise}
use Rattle.limits.specs.Limits.{largest_written}
use Rattle.decimal.specs.Scan.{and_then, bad, got, number, signed_number}
use Rattle.decimal.specs.Scans.{begins_within}
use Rattle.decimal.specs.NumberLaws.{numbers}

-- the library's test for the minus sign
sign_is : (t : List ℕ) → pointwise eqb (take 1 t) (45 ∷ []) ≡ eqb (get_or t 0 0) 45
sign_is [] = refl
sign_is (b ∷ t) = grind arith

pub number_within : (s : List ℕ) (v i : ℕ) → got v i ≡ number s → i ≤ length s
number_within s v i h = begins_within (numbers.sound s v i (sym h)).0

-- ---- behind a minus sign
module _ (t s : List ℕ) (e : pointwise eqb (take 1 t) (45 ∷ []) ≡ true) (f : s ≡ drop 1 t) where
  minus : signed_number t ≡ and_then (number s) λ v i. cond (eqb v 0) bad (cond (ltb largest_written v) bad (got (neg_ℤ (pos v)) (i + 1)))
  unfolding signed_number
  minus = rw (sym (sign_is t) ∙ e, ← f)

  pub minus_bad : bad ≡ number s → bad ≡ signed_number t
  minus_bad h = rw (minus, ← h)

  module _ (v i : ℕ) (h : got v i ≡ number s) where
    pub minus_outside : (v ≡ 0) ⊎ (largest_written < v) → bad ≡ signed_number t
    minus_outside (inl z) = rw (minus, ← h, z)
    minus_outside (inr l) = rw (minus, ← h, ne_eqb v 0 (λ z. omega arith), lt-ltb _ _ l)

    pub minus_good : 0 < v → v ≤ largest_written → got (neg_ℤ (pos v)) (i + 1) ≡ signed_number t
    minus_good p l = rw (minus, ← h, ne_eqb v 0 (λ z. omega arith), le-ltb _ _ l)

-- ---- no minus sign
module _ (t : List ℕ) (e : pointwise eqb (take 1 t) (45 ∷ []) ≡ false) where
  plus : signed_number t ≡ and_then (number t) λ v i. cond (ltb largest_written v) bad (got (pos v) i)
  unfolding signed_number
  plus = rw (sym (sign_is t) ∙ e)

  pub plus_bad : bad ≡ number t → bad ≡ signed_number t
  plus_bad h = rw (plus, ← h)

  module _ (v i : ℕ) (h : got v i ≡ number t) where
    pub plus_large : largest_written < v → bad ≡ signed_number t
    plus_large z = rw (plus, ← h, lt-ltb _ _ z)

    pub plus_good : v ≤ largest_written → got (pos v) i ≡ signed_number t
    plus_good z = rw (plus, ← h, le-ltb _ _ z)

-- A line is written, and measured, item by item: item i with the separator behind it, and then the line of the items that follow. So
-- what is left to write, over what was written, is the whole line, and what is left to add makes the whole length.
use Rattle.std.proofs.Common.{◌≡◌, refl, sym, ◌∙◌, ap, ℕ, zero, suc, ◌+◌, ◌*◌, ◌≤◌, ◌<◌, List, [], ◌∷◌, ◌++◌, length, get_or, drop}
use Rattle.std.proofs.Common.{arith, length-append, length-drop, drop_of_length-le, add-one, eq-eqb, ne_eqb}
use Rattle.std.proofs.Common.{Fits, w32}
use Rattle.std.proofs.Math.Nat.{mul-le-mul_right}
use Rattle.std.proofs.lemmas.List.{drop_more}
use Rattle.std.proofs.lemmas.List.Edits.{sets}
use Rattle.decimal.specs.Spelling.{Each, Word, after, line}
use Rattle.decimal.specs.Written.{Wrote, separator_of}
use Rattle.decimal.proofs.Writes.{sets_append}

-- x is item i
pub record Item {A : Type 0} (xs : List A) (i : ℕ) (x : A) : Type 0 where
  pub there : i < length xs
  pub first : drop i xs ≡ x ∷ drop (i + 1) xs

pub item_of : {A : Type 0} (xs : List A) (i : ℕ) (x : A) → i < length xs → x ≡ get_or xs i x → Item xs i x
item_of xs i x h e = record { there = h; first = rw (← e) at (drop_more xs i x h) }

-- what holds of each item holds of item i
each_first : {A : Type 0} (P : A → Type 0) (xs : List A) (i : ℕ) {x : A} {ys : List A} → Each P xs → i < length xs → drop i xs ≡ x ∷ ys → P x
each_first P [] i a h e = absurd (omega arith)
each_first P (y ∷ xs) zero {x = x} a h e = let same : y ≡ x = cc in rw same at a.0
each_first P (y ∷ xs) (suc i) a h e = each_first P xs i a.1 (omega arith) e

pub each_item : {A : Type 0} (P : A → Type 0) {xs : List A} {i : ℕ} {x : A} → Each P xs → Item xs i x → P x
each_item P {xs} {i} a m = each_first P xs i a m.there m.first

-- a list of u32 is asked nothing more: each of its items is a word
pub each_word : (xs : List ℕ) → ((i : ℕ) → Fits w32 (get_or xs i 0)) → Each Word xs
each_word [] f = tt
each_word (x ∷ xs) f = (omega (arith, (f 0).fits), each_word xs (λ i. f (suc i)))

module _ {A : Type 0} (spell : A → List ℕ) where
  after_is : (ys : List A) (i n : ℕ) → i + length ys ≡ n → after spell ys ≡ separator_of i n ∷ line spell ys
  unfolding after line separator_of
  after_is [] i n e = rw (eq-eqb i n (omega arith))
  after_is (y ∷ ys) i n e = rw (ne_eqb i n (λ q. omega arith))

  -- an item, what stands behind it, and the rest
  line_at : {xs : List A} {i : ℕ} {x : A} → Item xs i x → line spell (drop i xs) ≡ spell x ++ (separator_of (i + 1) (length xs) ∷ line spell (drop (i + 1) xs))
  unfolding line
  line_at {xs} {i} {x} m =
      ap (line spell) m.first
      ∙ ap (λ (l : List ℕ). spell x ++ l) (after_is (drop (i + 1) xs) (i + 1) (length xs) (omega (arith, length-drop (i + 1) xs, m.there)))

  line_length : {xs : List A} {i : ℕ} {x : A} → Item xs i x → length (line spell (drop i xs)) ≡ length (spell x) + (1 + length (line spell (drop (i + 1) xs)))
  line_length {xs} {i} {x} m = ap length (line_at m) ∙ length-append (spell x) _ ∙ omega arith

  line_end : (xs : List A) (i : ℕ) → length xs ≤ i → line spell (drop i xs) ≡ []
  unfolding line
  line_end xs i h = rw (drop_of_length-le xs h)

-- ---- writing
-- after i items
pub record Writing {A : Type 0} (spell : A → List ℕ) (xs : List A) (out₀ : List ℕ) (at : ℕ) (out : List ℕ) (p i : ℕ) : Type 0 where
  pub place : p + length (line spell (drop i xs)) ≡ at + length (line spell xs)
  pub text : sets out p (line spell (drop i xs)) ≡ sets out₀ at (line spell xs)

pub writing_none : {A : Type 0} (spell : A → List ℕ) (xs : List A) (out : List ℕ) (at : ℕ) → Writing spell xs out at out at 0
writing_none spell xs out at = record { place = refl; text = refl }

module _ {A : Type 0} {spell : A → List ℕ} {xs : List A} {out₀ : List ℕ} {at : ℕ} {out : List ℕ} {p i : ℕ} (w : Writing spell xs out₀ at out p i) where
  module _ {x : A} (m : Item xs i x) where
    -- the item and what stands behind it have room
    pub writing_room : at + length (line spell xs) ≤ length out₀ → length out ≡ length out₀ → p + length (spell x) < length out
    writing_room r k = omega (arith, w.place, line_length spell m)

    pub writing_more : {out₁ out₂ : List ℕ} {p₁ p₂ s : ℕ} → Wrote (spell x) out p out₁ p₁ → s ≡ separator_of (i + 1) (length xs) →
        Wrote (s ∷ []) out₁ p₁ out₂ p₂ → Writing spell xs out₀ at out₂ p₂ (i + 1)
    writing_more {p₁ = p₁} f e g = record {
      place = omega (arith, w.place, f.place, g.place, line_length spell m);
      text = sym (rw (g.text, g.place, f.text, e, add-one p₁, f.place) (sym w.text ∙ ap (sets out p) (line_at spell m) ∙ sets_append out p (spell x) _));
    }

  pub writing_end : length xs ≤ i → Wrote (line spell xs) out₀ at out p
  writing_end h = record { text = rw (line_end spell xs i h) at w.text; place = omega (arith, w.place, ap length (line_end spell xs i h)) }

-- ---- measuring
-- n bytes for the first i items, each of which has at most `most`, and a separator
pub record Measured {A : Type 0} (spell : A → List ℕ) (most : ℕ) (xs : List A) (n i : ℕ) : Type 0 where
  pub sum : n + length (line spell (drop i xs)) ≡ length (line spell xs)
  pub bound : n ≤ i * (most + 1)

pub measured_none : {A : Type 0} (spell : A → List ℕ) (most : ℕ) (xs : List A) → Measured spell most xs 0 0
measured_none spell most xs = record { sum = omega arith; bound = omega arith }

module _ {A : Type 0} {spell : A → List ℕ} {most : ℕ} {xs : List A} {n i : ℕ} (w : Measured spell most xs n i) where
  pub measured_more : {x : A} {k : ℕ} → Item xs i x → k ≡ length (spell x) → k ≤ most → Measured spell most xs (n + (k + 1)) (i + 1)
  measured_more m e l = record { sum = omega (arith, w.sum, line_length spell m); bound = omega (arith, w.bound) }

  pub measured_bound : (room : ℕ) → i ≤ room → n ≤ room * (most + 1)
  measured_bound room h = omega (arith, w.bound, mul-le-mul_right (most + 1) h)

  pub measured_end : length xs ≤ i → n ≡ length (line spell xs)
  measured_end h = omega (arith, w.sum, ap length (line_end spell xs i h))

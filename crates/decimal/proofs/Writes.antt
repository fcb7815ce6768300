-- Writing is a chain: what is written behind what was written makes one text, and room for the whole is room for each part. A number
-- is its front digits and then its last one.
use Prim.Native.Nat.{ℕ, suc, ◌+◌, ◌/◌, ◌%◌, ◌≤◌, ◌<◌}
use mathlib.Core.Path.{◌≡◌, sym, ◌∙◌, ap}
use mathlib.Core.List.{List, [], ◌∷◌, ◌++◌}
use native.Mathlib.Omega.{arith}
use lib.ListN.{length, set, length-append}
use lib.Seq.{sets}
use Rattle.decimal.specs.Spelling.{Word, decimal}
use Rattle.decimal.specs.Written.{Wrote}
use Rattle.decimal.specs.NumberLaws.{decimal_small, decimal_split, length_more, word_length}

pub sets_append : (l : List ℕ) (i : ℕ) (s t : List ℕ) → sets l i (s ++ t) ≡ sets (sets l i s) (i + length s) t
sets_append l i [] t = ap (λ (k : ℕ). sets l k t) (omega arith)
sets_append l i (a ∷ s) t = sets_append (set l i a) (suc i) s t ∙ ap (λ (k : ℕ). sets (sets (set l i a) (suc i) s) k t) (omega arith)

pub wrote_then : {s t l l₁ l₂ : List ℕ} {at p q : ℕ} → Wrote s l at l₁ p → Wrote t l₁ p l₂ q → Wrote (s ++ t) l at l₂ q
wrote_then {s} {t} {l} {l₁} {l₂} {at} {p} {q} f g = record {
  text = g.text ∙ rw (f.text, f.place) (sym (sets_append l at s t));
  place = omega (arith, f.place, g.place, length-append s t);
}

-- there is room for the first part, and then for the second
pub room_first : (s t : List ℕ) (at n : ℕ) → at + length (s ++ t) ≤ n → at + length s ≤ n
room_first s t at n r = omega (arith, length-append s t)

pub room_then : (s t l l₁ : List ℕ) (at p : ℕ) → at + length (s ++ t) ≤ length l → Wrote s l at l₁ p → length l₁ ≡ length l → p + length t ≤ length l₁
room_then s t l l₁ at p r w k = omega (arith, w.place, length-append s t)

-- the same of three parts
module _ (s t u l l₁ : List ℕ) (at p : ℕ) (r : at + length (s ++ (t ++ u)) ≤ length l) (w : Wrote s l at l₁ p) (k : length l₁ ≡ length l) where
  pub room_second : p + length t ≤ length l₁
  room_second = room_first t u p (length l₁) (room_then s (t ++ u) l l₁ at p r w k)

  pub room_third : (l₂ : List ℕ) (q : ℕ) → Wrote t l₁ p l₂ q → length l₂ ≡ length l₁ → q + length u ≤ length l₂
  room_third l₂ q w₂ k₂ = room_then t u l₁ l₂ p q (room_then s (t ++ u) l l₁ at p r w k) w₂ k₂

pub wrote_three : {s t u l l₁ l₂ l₃ : List ℕ} {at p q r : ℕ} → Wrote s l at l₁ p → Wrote t l₁ p l₂ q → Wrote u l₂ q l₃ r → Wrote (s ++ (t ++ u)) l at l₃ r
wrote_three f g h = wrote_then f (wrote_then g h)

-- ---- a number
pub wrote_digit : (v : ℕ) {l k : List ℕ} {at p : ℕ} → v < 10 → Wrote ((48 + v) ∷ []) l at k p → Wrote (decimal v) l at k p
wrote_digit v h w = rw (decimal_small v h) w

pub wrote_digits : (v : ℕ) {l k m : List ℕ} {at p q : ℕ} → 10 ≤ v → Wrote (decimal (v / 10)) l at k p → Wrote ((48 + v % 10) ∷ []) k p m q → Wrote (decimal v) l at m q
wrote_digits v h w d = rw (decimal_split v h) (wrote_then w d)

-- its width
pub width_more : (v r : ℕ) → 10 ≤ v → Word v → r ≡ length (decimal (v / 10)) → (r + 1 ≡ length (decimal v)) × (r + 1 ≤ 10)
width_more v r h m e = omega (arith, length_more v h, word_length v m)

-- What is proved of `Product`: how long the lists are, and `product_multiplied`: with the leading 1 they are the coefficients of the product
-- of all x - a, multiplied as polynomials are where `Divides` and the mark are defined. Times x - a the coefficient of x^j is the one of
-- x^(j-1) less a times its own.
use Rattle.std.specs.Prelude.{◌≡◌, length, ℤ}
use Rattle.std.proofs.Math.Path.{refl, sym, ap, fun_ext}
use Rattle.std.proofs.Common.{ap₂, ◌∙◌, arith}
use mathlib.Core.List.{List, [], ◌∷◌, map}
use Prim.Native.Nat.{ℕ, zero, suc, ◌+◌, ◌-◌, ◌≤◌, ◌<◌}
use Rattle.std.proofs.Math.Nat as N
use Rattle.std.proofs.Math.Decide.{dec_lt}
use Rattle.std.proofs.lemmas.List.{length-map}
use Rattle.std.proofs.Math.ListN.{get_or}
use Rattle.algebra.specs.Ring.{Ops, Laws}
use Rattle.algebra.specs.Ring as R
use Rattle.algebra.specs.Power.{int}
use Rattle.algebra.specs.Series.{series, series_semi, monomial, monomial_here, monomial_past, monomial_first, monomial_over, mul-zero, one_at, add_at}
use Rattle.algebra.specs.Newton.{coeff, coeff_zero, coeff_cons, coeff_past, times_root_suc}
use Rattle.algebra.specs.Integer.{ℤ_eq}
use Rattle.placements.specs.Placements.{placed, placements, value}
use Rattle.placements.proofs.Number.{placed_number}
use Rattle.polynomials.proofs.Reversed.{get_d_reverse}
use Rattle.polynomials.specs.Divisors.{poly, monic}
use Rattle.polynomials.proofs.Bounds.{below_monic}
use Rattle.definition.specs.Definition.{nth}
use Rattle.definition.proofs.Rules.{nth_suc, nth_past}
use Rattle.definition.specs.Product.{listed, product, values, x_minus, multiplied}

-- ---- how long they are, and the k-th coefficient

pub length_listed : {A : Type 0} (n : ℕ) (g : ℕ → A) → length (listed n g) ≡ n
unfolding listed
length_listed zero g = refl
length_listed (suc n) g = ap suc (length_listed n (λ i. g (suc i)))

pub get_or_listed : {A : Type 0} (n : ℕ) (g : ℕ → A) (d : A) (i : ℕ) → i < n → get_or (listed n g) i d ≡ g (suc i)
unfolding listed
get_or_listed zero g d i h = absurd (omega arith)
get_or_listed (suc n) g d zero h = refl
get_or_listed (suc n) g d (suc i) h = get_or_listed n (λ i. g (suc i)) d i (omega arith)

-- one weighted sum for each placement, also where some are equal
pub length_values : {A : Type 0} (o : Ops A) (rs : List A) (L : List ℤ) → length (values o rs L) ≡ placed (length rs) L
unfolding values
length_values o rs L = length-map (placements ℤ_eq (length rs) L) _ ∙ placed_number (length rs) L

module _ {A : Type 0} {o : Ops A} (l : Laws o) where
  open o use {zero as 𝟘, one as 𝟙, add as ◌⊕◌, mul as ◌⊗◌, neg as ⊖◌}

  infixl 60 ◌⊕◌
  infixl 70 ◌⊗◌
  infix 80 ⊖◌
  pub length_product : (rs : List A) → length (product o rs) ≡ length rs
  unfolding product
  length_product rs = length_listed (length rs) (coeff o rs)

  pub nth_product : (rs : List A) (k : ℕ) → 1 ≤ k → nth o (product o rs) k ≡ coeff o rs k
  unfolding product
  nth_product rs zero h = absurd (omega arith)
  nth_product rs (suc i) h = elim (dec_lt i (length rs)) [
    | yes b ↦ nth_suc o _ i ∙ get_or_listed (length rs) (coeff o rs) 𝟘 i b
    | no b ↦ nth_past o _ (suc i) (omega (arith, length_listed (length rs) (coeff o rs))) ∙ sym (coeff_past l rs (suc i) (omega arith))
  ]

  -- ---- the coefficients are those of the product
  open series o use {mul as ◌*ˢ◌}

  infixl 70 ◌*ˢ◌
  x_minus_first : (a : A) (g : ℕ → A) → (x_minus o a *ˢ g) 0 ≡ ⊖ (a ⊗ g 0)
  x_minus_first a g =
      mul-zero l.semi _ g
      ∙ ap (λ x. x ⊗ g 0) (add_at o _ _ 0 ∙ rw (monomial_first o 𝟙 0, monomial_here o (⊖ a)) (R.zero-add l.semi _))
      ∙ R.neg_mul l a (g 0)

  x_minus_later : (a : A) (g : ℕ → A) (j : ℕ) → (x_minus o a *ˢ g) (suc j) ≡ g j ⊕ ⊖ (a ⊗ g (suc j))
  x_minus_later a g j =
      ap (λ f. f (suc j)) (R.add-mul (series_semi l.semi) (monomial o 𝟙 1) (monomial o (⊖ a) 0) g)
      ∙ add_at o _ _ (suc j)
      ∙ ap₂ ◌⊕◌
      (ap (monomial o 𝟙 1 *ˢ g) (omega arith) ∙ monomial_over l.semi 𝟙 1 g j ∙ R.one-mul l.semi (g j))
      (ap (monomial o (⊖ a) 0 *ˢ g) (sym (N.zero-add (suc j))) ∙ monomial_over l.semi (⊖ a) 0 g (suc j) ∙ R.neg_mul l a (g (suc j)))

  -- the coefficient of x^j is the i-th from the leading one down
  from_top : (rs : List A) (i j : ℕ) → i + j ≡ length rs → monic o (product o rs) j ≡ coeff o rs i
  unfolding monic poly
  from_top rs i j h = get_d_reverse (𝟙 ∷ product o rs) 𝟘 i j (omega (arith, length_product rs)) ∙ down i
    where
      down : (i : ℕ) → get_or (𝟙 ∷ product o rs) i 𝟘 ≡ coeff o rs i
      down zero = sym (coeff_zero o rs)
      down (suc i) = sym (nth_suc o _ i) ∙ nth_product rs (suc i) (omega arith)

  above : (rs : List A) (j : ℕ) → length rs < j → monic o (product o rs) j ≡ 𝟘
  above rs j h = below_monic o (product o rs) j (omega (arith, length_product rs))

  -- from the degree on: the leading 1, then zeros
  from_degree : (a : A) (rs : List A) (j : ℕ) → length rs ≤ j → monic o (product o (a ∷ rs)) (suc j) ≡ monic o (product o rs) j
  from_degree a rs j h = elim (dec_lt (length rs) j) [
    | yes b ↦ above (a ∷ rs) (suc j) (omega arith) ∙ sym (above rs j b)
    | no b ↦ from_top (a ∷ rs) 0 (suc j) (omega arith) ∙ coeff_zero o (a ∷ rs) ∙ sym (from_top rs 0 j (omega arith) ∙ coeff_zero o rs)
  ]

  one_more : (a : A) (rs : List A) (j : ℕ) → monic o (product o (a ∷ rs)) j ≡ (x_minus o a *ˢ monic o (product o rs)) j
  one_more a rs zero =
      from_top (a ∷ rs) (suc (length rs)) 0 (omega arith)
      ∙ coeff_cons o a rs _
      ∙ times_root_suc o a _ (length rs)
      ∙ rw (coeff_past l rs (suc (length rs)) (omega arith), ← (from_top rs (length rs) 0 (omega arith))) (R.zero-add l.semi _)
      ∙ sym (x_minus_first a _)
  one_more a rs (suc j) = elim (dec_lt j (length rs)) [
    | yes b ↦
        let k = length rs - suc j in
        from_top (a ∷ rs) (suc k) (suc j) (omega arith)
        ∙ coeff_cons o a rs _
        ∙ times_root_suc o a _ k
        ∙ ap₂ (λ x y. x ⊕ ⊖ (a ⊗ y)) (sym (from_top rs (suc k) j (omega arith))) (sym (from_top rs k (suc j) (omega arith)))
        ∙ sym (x_minus_later a _ j)
    | no b ↦ from_degree a rs j (omega arith) ∙ sym (x_minus_later a _ j ∙ rw (above rs (suc j) (omega arith)) (simp (R.ring, l, l.semi)))
  ]

  pub product_multiplied : (rs : List A) → monic o (product o rs) ≡ multiplied o rs
  unfolding multiplied
  product_multiplied [] = fun_ext none
    where
      none : (j : ℕ) → monic o (product o []) j ≡ (series o).one j
      none zero = from_top [] 0 0 refl ∙ coeff_zero o [] ∙ sym (one_at o 0 ∙ monomial_here o 𝟙)
      none (suc j) = above [] (suc j) (omega arith) ∙ sym (one_at o (suc j) ∙ monomial_past o 𝟙 j)
  product_multiplied (a ∷ rs) = fun_ext (one_more a rs) ∙ ap (λ g. x_minus o a *ˢ g) (product_multiplied rs)

-- The value c 0 y^n + c 1 y^(n-1) + .. + c n of a polynomial by Horner's rule, and division by x - y.
-- Horner's sums at y are the coefficients of c as a series divided by 1 - y z: each is one of c and y times the sum before. If the
-- last one, the value, is 0, so are all later ones, and the sums are the coefficients of c divided by x - y.
use Rattle.std.specs.Prelude.{◌≡◌}
use Rattle.std.proofs.Math.Path.{sym, ap₂}
use Rattle.std.proofs.Common.{ap, ◌∙◌}
use Prim.Native.Nat.{ℕ, zero, suc, ◌+◌, ◌-◌, ◌≤◌, ◌<◌}
use Rattle.std.proofs.Math.Nat as N
use native.Mathlib.Omega.{arith}
use Rattle.algebra.specs.Ring.{Ops, Laws}
use Rattle.algebra.specs.Ring as R
use Rattle.algebra.specs.Power.{pow, pow-zero, pow_suc}
use Rattle.algebra.specs.Sum.{sum, sum_suc, sum_one, sum_cong, mul_sum}
use Rattle.algebra.specs.Newton.{times_root, times_root_zero, times_root_suc}
use Rattle.algebra.specs.Hom.{Hom}
use Rattle.polynomials.specs.Divisors.{Below}

-- c 0 · x^n + c 1 · x^(n-1) + .. + c n
unfoldable pub value_at : {A : Type 0} (o : Ops A) → (ℕ → A) → ℕ → A → A
value_at o c n x = sum o (suc n) (λ i. o.mul (c i) (pow o x (n - i)))

module _ {A : Type 0} {o : Ops A} (l : Laws o) where
  open o use {zero as 𝟘, one as 𝟙, add as ◌⊕◌, mul as ◌⊗◌, neg as ⊖◌}

  infixl 60 ◌⊕◌
  infixl 70 ◌⊗◌
  infix 80 ⊖◌
  -- Horner's rule
  pub value_first : (c : ℕ → A) (x : A) → value_at o c 0 x ≡ c 0
  unfolding value_at
  value_first c x = sum_one l.semi _ ∙ simp (pow-zero, R.mul-one, l.semi)

  pub value_next : (c : ℕ → A) (n : ℕ) (x : A) → value_at o c (suc n) x ≡ c (suc n) ⊕ x ⊗ value_at o c n x
  unfolding value_at
  value_next c n x =
      sum_suc o (suc n) _ ∙ R.add_comm l.semi _ _
      ∙ ap₂ ◌⊕◌ (rw (N.sub_self, pow-zero) (R.mul-one l.semi _)) (sum_cong o (suc n) _ _ raised ∙ sym (mul_sum l.semi x (suc n) _))
    where
      raised : (i : ℕ) → i < suc n → c i ⊗ pow o x (suc n - i) ≡ x ⊗ (c i ⊗ pow o x (n - i))
      raised i b = let d : suc n - i ≡ suc (n - i) = omega arith in rw (d, pow_suc o x (n - i)) (R.mul_left_comm l.semi _ _ _)

  -- times 1 - y z the sums at y are c again
  pub divided : (c : ℕ → A) (y : A) (k : ℕ) → times_root o y (λ j. value_at o c j y) k ≡ c k
  divided c y zero = times_root_zero o y _ ∙ value_first c y
  divided c y (suc k) = times_root_suc o y _ k ∙ rw (value_next c k y) (simp (R.ring, l, l.semi))

  -- past a root all are 0
  pub divided_past : (c : ℕ → A) (n : ℕ) (y : A) → Below o c (suc n) → value_at o c n y ≡ 𝟘 → (k : ℕ) → n ≤ k → value_at o c k y ≡ 𝟘
  divided_past c n y b e k h = ap (λ j. value_at o c j y) (sym (N.add-sub_of_le h)) ∙ more (k - n)
    where
      more : (j : ℕ) → value_at o c (n + j) y ≡ 𝟘
      more zero = ap (λ i. value_at o c i y) (N.add-zero n) ∙ e
      more (suc j) =
          ap (λ i. value_at o c i y) (N.add-suc n j) ∙ value_next c (n + j) y
          ∙ rw (b (suc (n + j)) (omega arith), more j) (simp (R.ring, l.semi))

module _ {A B : Type 0} {o : Ops A} {q : Ops B} {φ : A → B} (m : Hom o q φ) where
  pub hom_times_root : (a : A) (c : ℕ → A) (k : ℕ) → φ (times_root o a c k) ≡ times_root q (φ a) (λ i. φ (c i)) k
  hom_times_root a c zero = simp times_root_zero
  hom_times_root a c (suc k) = simp (times_root_suc, m.at_add, m.at_neg, m.at_mul)

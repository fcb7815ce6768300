-- Maps that keep the operations, and what they keep besides: whatever is made of the operations alone, as powers, sums and the
-- coefficients of a product of x - a are, by induction on how it is made. No law of either side is used.
use Rattle.std.specs.Prelude.{◌≡◌, List, [], ◌∷◌, map, ℕ, zero, suc, ℤ}
use Rattle.std.proofs.Common.{ap, ◌∙◌}
use Rattle.algebra.specs.Ring.{Ops}
use Rattle.algebra.specs.Power.{pow, pow-zero, pow_suc, nat, nat_zero, nat_suc, int, int_pos, int_negsuc}
use Rattle.algebra.specs.Sum.{sum, sum_zero, sum_suc}
use Rattle.algebra.specs.Series.{monomial_here, monomial_past}
use Rattle.algebra.specs.Newton.{coeff, coeff_nil, coeff_cons, times_root_zero, times_root_suc}

pub record Hom {A B : Type 0} (o : Ops A) (q : Ops B) (φ : A → B) : Type 0 where
  pub at_zero : φ o.zero ≡ q.zero
  pub at_one : φ o.one ≡ q.one
  pub at_add : (x y : A) → φ (o.add x y) ≡ q.add (φ x) (φ y)
  pub at_mul : (x y : A) → φ (o.mul x y) ≡ q.mul (φ x) (φ y)
  pub at_neg : (x : A) → φ (o.neg x) ≡ q.neg (φ x)

-- one map that keeps the operations after another
pub hom_then : {A B C : Type 0} {o : Ops A} {q : Ops B} {r : Ops C} {φ : A → B} {ψ : B → C} → Hom o q φ → Hom q r ψ → Hom o r (λ a. ψ (φ a))
hom_then {ψ = ψ} h k = record {
  at_zero = ap ψ h.at_zero ∙ k.at_zero;
  at_one = ap ψ h.at_one ∙ k.at_one;
  at_add = λ x y. ap ψ (h.at_add x y) ∙ k.at_add _ _;
  at_mul = λ x y. ap ψ (h.at_mul x y) ∙ k.at_mul _ _;
  at_neg = λ x. ap ψ (h.at_neg x) ∙ k.at_neg _;
}

module _ {A B : Type 0} {o : Ops A} {q : Ops B} {φ : A → B} (m : Hom o q φ) where
  pub hom_pow : (x : A) (k : ℕ) → φ (pow o x k) ≡ pow q (φ x) k
  hom_pow x zero = simp (pow-zero, m.at_one)
  hom_pow x (suc k) = simp (pow_suc, m.at_mul, hom_pow x k)

  pub hom_nat : (n : ℕ) → φ (nat o n) ≡ nat q n
  hom_nat zero = simp (nat_zero, m.at_zero)
  hom_nat (suc n) = simp (nat_suc, m.at_add, m.at_one, hom_nat n)

  pub hom_int : (e : ℤ) → φ (int o e) ≡ int q e
  hom_int (ℤ.pos n) = simp (int_pos, hom_nat)
  hom_int (ℤ.negsuc n) = simp (int_negsuc, m.at_neg, hom_nat)

  pub hom_sum : (n : ℕ) (g : ℕ → A) → φ (sum o n g) ≡ sum q n (λ i. φ (g i))
  hom_sum zero g = simp (sum_zero, m.at_zero)
  hom_sum (suc n) g = simp (sum_suc, m.at_add, hom_sum n g)

  pub hom_coeff : (xs : List A) (k : ℕ) → φ (coeff o xs k) ≡ coeff q (map φ xs) k
  hom_coeff [] zero = simp (coeff_nil, monomial_here, m.at_one)
  hom_coeff [] (suc k) = simp (coeff_nil, monomial_past, m.at_zero)
  hom_coeff (x ∷ xs) zero = simp (coeff_cons, times_root_zero, hom_coeff xs 0)
  hom_coeff (x ∷ xs) (suc k) = simp (coeff_cons, times_root_suc, m.at_add, m.at_neg, m.at_mul, hom_coeff xs)

-- Rule 1 for roots. Its two cases are one equation for every k, since past the degree there is no coefficient, and for the
-- coefficients of the product of x - a and the sums of k-th powers of the a that equation is Newton's identity.
use Rattle.std.specs.Prelude.{◌≡◌, List, ℕ, zero, suc, ◌+◌, ◌-◌, ◌≤◌, ◌<◌, length}
use Rattle.std.proofs.Common.{sym, ap, ap₂, ◌∙◌, arith}
use Rattle.algebra.specs.Ring.{Ops, Laws}
use Rattle.algebra.specs.Ring as R
use Rattle.algebra.specs.Power.{nat}
use Rattle.algebra.specs.Sum.{sum, sum_cong, sum_append, sum_zeros}
use Rattle.algebra.specs.Newton.{newton_next, power_sum, power_sum_zero}
use Rattle.definition.specs.Definition.{nth, sum₁, newton, Rule₁}
use Rattle.definition.proofs.Rules.{nth_past, sum₁_is}
use Rattle.definition.specs.Product.{product}
use Rattle.definition.proofs.Products.{length_product, nth_product}

module _ {A : Type 0} {o : Ops A} (l : Laws o) where
  open o use {zero as 𝟘, add as ◌⊕◌, mul as ◌⊗◌, neg as ⊖◌}

  infixl 60 ◌⊕◌
  infixl 70 ◌⊗◌
  infix 80 ⊖◌
  -- Newton's identity at any place
  pub newton_for_roots : (rs : List A) (k : ℕ) → 1 ≤ k → power_sum o rs k ≡ newton o (product o rs) (power_sum o rs) k
  newton_for_roots rs zero h = absurd (omega arith)
  newton_for_roots rs (suc j) h = newton_next l rs j ∙ ap₂ (λ x y. ⊖ (nat o (suc j) ⊗ x ⊕ y)) (sym (nth_product l rs (suc j) h))
      (sum_cong o j _ _ (λ i b. ap₂ ◌⊗◌ (sym (nth_product l rs (suc i) (omega arith))) (ap (power_sum o rs) (omega arith)))
      ∙ sym (sum₁_is o j _)
      ∙ ap (λ n. sum₁ o n (λ i. nth o (product o rs) i ⊗ power_sum o rs (suc j - i))) (omega arith))

  -- past the degree the sum ends with the coefficients
  sum_ends : (c : List A) (m : ℕ) (g : ℕ → A) → length c ≤ m → sum₁ o m (λ i. nth o c i ⊗ g i) ≡ sum₁ o (length c) (λ i. nth o c i ⊗ g i)
  sum_ends c m g h =
      sum₁_is o m _
      ∙ ap (λ n. sum o n (λ i. nth o c (suc i) ⊗ g (suc i))) (omega arith)
      ∙ sum_append l.semi (length c) (m - length c) _
      ∙ ap₂ ◌⊕◌ (sym (sum₁_is o (length c) _)) (sum_cong o (m - length c) _ (λ i. 𝟘) (λ i b. past (suc (length c + i)) (omega arith)) ∙ sum_zeros l.semi _)
      ∙ R.add-zero l.semi _
    where
      past : (i : ℕ) → length c < i → nth o c i ⊗ g i ≡ 𝟘
      past i b = ap (λ x. x ⊗ g i) (nth_past o c i b) ∙ R.zero-mul l.semi _

  pub past_degree : (c : List A) (k : ℕ) (g : ℕ → A) → length c < k
      → ⊖ (nat o k ⊗ nth o c k ⊕ sum₁ o (k - 1) (λ i. nth o c i ⊗ g i)) ≡ ⊖ sum₁ o (length c) (λ i. nth o c i ⊗ g i)
  past_degree c k g h = ap (λ x. ⊖ x)
      (ap₂ ◌⊕◌ (ap (λ x. nat o k ⊗ x) (nth_past o c k h) ∙ R.mul-zero l.semi _) (sum_ends c (k - 1) g (omega arith)) ∙ R.zero-add l.semi _)

  -- rule 1's one equation for every k is document 01's two
  pub two_cases : (c : List A) (m : ℕ) (s : ℕ → A) → s 0 ≡ nat o (length c)
      → ((k : ℕ) → 1 ≤ k → k ≤ m → s k ≡ newton o c s k) → Rule₁ o c m s
  two_cases c m s z h = record { zeroth = z; low = λ k a b d. h k a d; high = λ k a d. h k (omega arith) d ∙ past_degree c k (λ i. s (k - i)) a }

  pub sums_of_roots : (rs : List A) (m : ℕ) → Rule₁ o (product o rs) m (power_sum o rs)
  sums_of_roots rs m = two_cases _ m _ (power_sum_zero o rs ∙ ap (nat o) (sym (length_product l rs))) (λ k a b. newton_for_roots rs k a)

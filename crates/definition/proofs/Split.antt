-- Demand 3: where f is the product of x - a over a list of roots, its resolvent is the product of x - v over the weighted sums
-- v of all placements. Newton's identities at the roots are rule 1, and at the weighted sums rule 4; rule 2 tells the sum of
-- the k-th powers over all layings (the collision theorem), and each placement is laid as often as the product of m! says.
use Rattle.std.specs.Prelude.{◌≡◌, length}
use Rattle.std.proofs.Math.Path.{refl, sym, ap, ap₂}
use Rattle.std.proofs.Common.{◌∙◌}
use mathlib.Core.List.{List, []}
use Prim.Native.Nat.{ℕ, zero, suc}
use Rattle.std.proofs.Math.IntN.{ℤ, ◌+ℤ◌}
use Rattle.algebra.specs.Ring.{Ops, Laws}
use Rattle.algebra.specs.Ring as R
use Rattle.algebra.specs.Power.{pow, pow-zero, pow_suc, nat, int, int_add}
use Rattle.algebra.specs.Sum.{total_map}
use Rattle.algebra.specs.Binomial.{expand}
use Rattle.algebra.specs.Series.{monomial, monomial_here, monomial_past}
use Rattle.algebra.specs.Newton.{power_sum}
use Rattle.algebra.specs.Integer.{ℤ_eq}
use Rattle.placements.specs.Placements.{factorials, placed, placements, value}
use Rattle.placements.proofs.Laying.{layings, layings_empty, collide_powers}
use Rattle.placements.proofs.Collisions.{collisions_places}
use Rattle.placements.proofs.Number.{layings_placements}
use Rattle.definition.specs.Definition.{Resolvent}
use Rattle.definition.specs.Rules.{T}
use Rattle.definition.proofs.Rules.{by_length, told_by_cong, T_nil, T_cons, T_meets}
use Rattle.definition.specs.Product.{product, values}
use Rattle.definition.proofs.Products.{length_values, length_product}
use Rattle.definition.proofs.Roots.{newton_for_roots, sums_of_roots}

module _ {A : Type 0} {o : Ops A} (l : Laws o) where
  open o use {one as 𝟙, add as ◌⊕◌, mul as ◌⊗◌, neg as ⊖◌}

  infixl 60 ◌⊕◌
  infixl 70 ◌⊗◌
  infix 80 ⊖◌
  -- T_k is the sum of the k-th powers over all layings of the weights, each on a root of its own
  pub T_layings : (rs : List A) (L : List ℤ) (k : ℕ) → T o (power_sum o rs) L k ≡ layings o (int o) rs L (λ v. pow o v k)
  unfolding expand
  T_layings rs = by_length (λ L. (k : ℕ) → T o (power_sum o rs) L k ≡ laid L k) (λ k. T_nil o (power_sum o rs) k ∙ none k) (λ e M ih k.
      T_cons o (power_sum o rs) e M k
      ∙ told_by_cong o _ _ (T o (power_sum o rs)) laid e M k (λ i b. refl) (λ M' q j b. ih M' q j)
      ∙ sym (collide_powers l ◌+ℤ◌ (int o) (int_add l) rs e M k ∙ ap₂ (λ x y. x ⊕ ⊖ y) refl (collisions_places l.semi e M _)))
    where
      laid : List ℤ → ℕ → A
      laid L k = layings o (int o) rs L (λ v. pow o v k)

      none : (k : ℕ) → monomial o 𝟙 0 k ≡ layings o (int o) rs [] (λ v. pow o v k)
      none zero = simp (monomial_here, pow-zero, layings_empty, l.semi)
      none (suc k) = simp (monomial_past, pow_suc, layings_empty, R.zero-mul, l.semi)

  -- and the product of m! times the sum over all placements
  pub T_placements : (rs : List A) (L : List ℤ) (k : ℕ) → nat o (factorials ℤ_eq L) ⊗ power_sum o (values o rs L) k ≡ T o (power_sum o rs) L k
  unfolding values power_sum
  T_placements rs L k =
      ap (λ x. nat o (factorials ℤ_eq L) ⊗ x) (total_map o (value o (int o) rs) (placements ℤ_eq (length rs) L) (λ v. pow o v k))
      ∙ sym (T_layings rs L k ∙ layings_placements l.semi ℤ_eq (int o) rs L (λ v. pow o v k))

  rule_4 : (n b s u : A) → s ≡ ⊖ (n ⊗ b ⊕ u) → n ⊗ b ≡ ⊖ (s ⊕ u)
  rule_4 n b s u e = rw e (sym (simp (R.ring, l, l.semi)))

  -- any N numbers whose k-th powers, times the product of m!, sum to T_k, are the zeros of the resolvent
  pub split_by : (rs vs : List A) (L : List ℤ) → length vs ≡ placed (length rs) L
      → ((k : ℕ) → nat o (factorials ℤ_eq L) ⊗ power_sum o vs k ≡ T o (power_sum o rs) L k) → Resolvent o (product o rs) L (product o vs)
  split_by rs vs L many powers = record {
    s = power_sum o rs;
    T = T o (power_sum o rs);
    S = power_sum o vs;
    rule₁ = sums_of_roots l rs _;
    rule₂ = T_meets o (power_sum o rs);
    rule₃ = λ k h. powers k;
    rule₄ = λ k a h. rule_4 _ _ _ _ (newton_for_roots l vs k a);
    size = length_product l vs ∙ many ∙ ap (λ n. placed n L) (sym (length_product l rs));
  }

  -- the resolvent of the product of x - a is the product over the placements
  pub split : (rs : List A) (L : List ℤ) → Resolvent o (product o rs) L (product o (values o rs L))
  split rs L = split_by rs (values o rs L) L (length_values o rs L) (T_placements rs L)

-- A map that keeps the operations carries a resolvent along, and the product of x minus each: each rule is an equation between terms
-- of the operations, and each coefficient and weighted sum is such a term. No law of either side is used.
use Rattle.std.specs.Prelude.{◌≡◌, length, get_or, ℤ}
use Rattle.std.proofs.Math.Path.{refl, sym, ap, ap₂, fun_ext}
use Rattle.std.proofs.Common.{◌∙◌, arith}
use mathlib.Core.List.{List, [], ◌∷◌, map, map-map}
use Rattle.std.proofs.Math.Option.{Option, none, some}
use Prim.Native.Nat.{ℕ, zero, suc, ◌-◌}
use Rattle.std.proofs.lemmas.List.{length-map}
use Rattle.std.proofs.Math.ListN.{get_or-map}
use Rattle.algebra.specs.Ring.{Ops}
use Rattle.algebra.specs.Power.{nat, int}
use Rattle.algebra.specs.Newton.{coeff}
use Rattle.algebra.specs.Hom.{Hom, hom_pow, hom_nat, hom_int, hom_sum, hom_coeff}
use Rattle.algebra.specs.Integer.{ℤ_eq}
use Rattle.placements.specs.Placements.{placed, placements, value}
use Rattle.definition.specs.Definition.{nth, sum₁, Rule₁, Rule₂, Resolvent}
use Rattle.definition.specs.Product.{listed, product, values}

module _ {A B : Type 0} {o : Ops A} {q : Ops B} {φ : A → B} (m : Hom o q φ) where
  pub hom_nth : (c : List A) (k : ℕ) → φ (nth o c k) ≡ nth q (map φ c) k
  unfolding nth
  hom_nth c k = sym (get_or-map φ c (k - 1) o.zero) ∙ ap (get_or (map φ c) (k - 1)) m.at_zero

  pub hom_sum₁ : (n : ℕ) (g : ℕ → A) → φ (sum₁ o n g) ≡ sum₁ q n (λ i. φ (g i))
  unfolding sum₁
  hom_sum₁ n g = hom_sum m n (λ i. g (suc i))

  pub hom_Rule₂ : (s : ℕ → A) (t : List ℤ → ℕ → A) → Rule₂ o s t → Rule₂ q (λ i. φ (s i)) (λ L k. φ (t L k))
  hom_Rule₂ s t h = record {
    empty = ap φ h.empty ∙ m.at_one;
    empty_later = λ k b. ap φ (h.empty_later k b) ∙ m.at_zero;
    longer = λ e M k. simp (m.at_add, m.at_neg, m.at_mul, hom_nat m, hom_pow m, hom_int m, hom_sum m) at (ap φ (h.longer e M k));
  }

  pub hom_Rule₁ : (c : List A) (n : ℕ) (s : ℕ → A) → Rule₁ o c n s → Rule₁ q (map φ c) n (λ k. φ (s k))
  hom_Rule₁ c n s h = record {
    zeroth = ap φ h.zeroth ∙ hom_nat m (length c) ∙ ap (nat q) (sym (length-map c φ));
    low = λ k a b d. simp (m.at_neg, m.at_add, m.at_mul, hom_nat m, hom_nth, hom_sum₁) at (ap φ (h.low k a (omega (arith, length-map c φ)) d));
    high = λ k a b. ap φ (h.high k (omega (arith, length-map c φ)) b) ∙ m.at_neg _ ∙ ap q.neg (hom_sum₁ _ _
        ∙ ap₂ (sum₁ q) (sym (length-map c φ)) (fun_ext (λ i. m.at_mul _ _ ∙ ap (λ x. q.mul x (φ (s (k - i)))) (hom_nth c i))));
  }

  pub carry : (c : List A) (L : List ℤ) (b : List A) → Resolvent o c L b → Resolvent q (map φ c) L (map φ b)
  carry c L b r = record {
    s = λ k. φ (r.s k);
    T = λ K k. φ (r.T K k);
    S = λ k. φ (r.S k);
    rule₁ = rw (length-map c φ) (hom_Rule₁ c (placed (length c) L) r.s r.rule₁);
    rule₂ = hom_Rule₂ r.s r.T r.rule₂;
    rule₃ = λ k h. simp (m.at_mul, hom_nat m) at (ap φ (r.rule₃ k (rw (length-map c φ) at h)));
    rule₄ = λ k a h. simp (m.at_neg, m.at_add, m.at_mul, hom_nat m, hom_nth, hom_sum₁) at (ap φ (r.rule₄ k a (rw (length-map c φ) at h)));
    size = length-map b φ ∙ r.size ∙ ap (λ n. placed n L) (sym (length-map c φ));
  }

  map_listed : (n : ℕ) (g : ℕ → A) → map φ (listed n g) ≡ listed n (λ i. φ (g i))
  unfolding listed
  map_listed zero g = refl
  map_listed (suc n) g = ap (λ l. φ (g 1) ∷ l) (map_listed n (λ i. g (suc i)))

  pub hom_product : (rs : List A) → map φ (product o rs) ≡ product q (map φ rs)
  unfolding product
  hom_product rs = map_listed (length rs) (coeff o rs) ∙ ap₂ listed (sym (length-map rs φ)) (fun_ext (hom_coeff m rs))

  hom_value : (rs : List A) (π : List (Option ℤ)) → φ (value o (int o) rs π) ≡ value q (int q) (map φ rs) π
  unfolding value
  hom_value [] π = m.at_zero
  hom_value (a ∷ rs) [] = m.at_zero
  hom_value (a ∷ rs) (none ∷ π) = hom_value rs π
  hom_value (a ∷ rs) (some w ∷ π) = m.at_add _ _ ∙ ap₂ q.add (m.at_mul _ _ ∙ ap (λ x. q.mul x (φ a)) (hom_int m w)) (hom_value rs π)

  pub hom_values : (rs : List A) (L : List ℤ) → map φ (values o rs L) ≡ values q (map φ rs) L
  unfolding values
  hom_values rs L =
      map-map φ (value o (int o) rs) (placements ℤ_eq (length rs) L)
      ∙ ap₂ (λ g n. map g (placements ℤ_eq n L)) (fun_ext (hom_value rs)) (sym (length-map rs φ))

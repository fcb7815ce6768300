-- Demand 3 for every f, split or not: wherever f has all its roots, its resolvent is the product of x - v over the weighted sums v
-- of all placements. A map that keeps the operations carries rules 1 to 4 along, the product meets them by demand 3 for roots, and
-- they have one answer where the numbers that they divide by can be cancelled.
use Rattle.std.specs.Prelude.{◌≡◌, List, map, ℕ, ◌≤◌, length, ℤ}
use Rattle.std.proofs.Common.{sym, ◌∙◌, arith}
use Rattle.std.proofs.lemmas.List.{length-map}
use Rattle.algebra.specs.Ring.{Ops, Laws, Cancels}
use Rattle.algebra.specs.Power.{nat}
use Rattle.algebra.specs.Newton.{power_sum}
use Rattle.algebra.specs.Hom.{Hom, hom_nat}
use Rattle.algebra.specs.Integer.{ℤ_eq}
use Rattle.placements.specs.Placements.{factorials, placed}
use Rattle.definition.specs.Definition.{Rule₁, Resolvent}
use Rattle.definition.specs.Product.{product, values}
use Rattle.definition.specs.Rules.{T}
use Rattle.definition.proofs.Rules.{T_meets, same_T}
use Rattle.definition.proofs.OneAnswer.{same_sums, one_answer}
use Rattle.definition.proofs.Carry.{hom_Rule₁, hom_Rule₂, carry}
use Rattle.definition.proofs.Roots.{sums_of_roots}
use Rattle.definition.proofs.Split.{T_placements, split}
use Rattle.splitting.specs.Splitting.{Splitting}

-- f = x^n + c1 x^(n-1) + .. + cn is the product of x - a over the listed a of a ring q, where φ takes the coefficients
module _ {A B : Type 0} {o : Ops A} {q : Ops B} (l : Laws q) {φ : A → B} (hom : Hom o q φ) (c : List A) (rs : List B) (factors : map φ c ≡ product q rs) where
  module _ {m : ℕ} {s : ℕ → A} (rule₁ : Rule₁ o c m s) where
    -- what rule 1 gives are the sums of powers of the roots
    pub sums_are : (k : ℕ) → k ≤ m → φ (s k) ≡ power_sum q rs k
    sums_are = same_sums q (map φ c) m _ _ (hom_Rule₁ hom c m s rule₁) (rw factors (sums_of_roots l rs m))

    -- what rule 2 gives is what it gives for the roots
    T_carried : (L : List ℤ) (k : ℕ) → k ≤ m → φ (T o s L k) ≡ T q (power_sum q rs) L k
    T_carried L k h = same_T q (hom_Rule₂ hom s (T o s) (T_meets o s)) (T_meets q (power_sum q rs)) L k (λ i d. sums_are i (omega arith))

    -- the product of m! times the sum of powers of the weighted sums
    pub T_is : (L : List ℤ) (k : ℕ) → k ≤ m → φ (T o s L k) ≡ q.mul (nat q (factorials ℤ_eq L)) (power_sum q (values q rs L) k)
    T_is L k h = T_carried L k h ∙ sym (T_placements l rs L k)

  -- demand 3
  pub resolvent_is : (L : List ℤ) → Cancels q (nat q (factorials ℤ_eq L)) → ((k : ℕ) → 1 ≤ k → k ≤ placed (length c) L → Cancels q (nat q k))
      → (b : List A) → Resolvent o c L b → map φ b ≡ product q (values q rs L)
  resolvent_is L can cans b r =
      one_answer q (map φ c) L can (λ k a h. cans k a (rw (length-map c φ) at h)) _ _ (carry hom c L b r) (rw factors (split l rs L))

-- In a splitting ring, where what cancels below cancels, and which there is for every f
module _ {A : Type 0} {o : Ops A} {c : List A} (sp : Splitting o c) where
  pub cancels_there : (n : ℕ) → Cancels o (nat o n) → Cancels sp.ring.ops (nat sp.ring.ops n)
  cancels_there n h = rw (hom_nat sp.ring.hom n) at (sp.ring.cancels (nat o n) h)

  pub resolvent_there : (L : List ℤ) → Cancels o (nat o (factorials ℤ_eq L)) → ((k : ℕ) → 1 ≤ k → k ≤ placed (length c) L → Cancels o (nat o k))
      → (b : List A) → Resolvent o c L b → map sp.ring.embed b ≡ product sp.ring.ops (values sp.ring.ops sp.roots L)
  resolvent_there L can cans =
      resolvent_is sp.ring.laws sp.ring.hom c sp.roots sp.factors L (cancels_there _ can) (λ k a h. cancels_there k (cans k a h))

-- Document 01, "Wrong turns that look right": what rules 1 to 4 give where the first four would give something else. The fifth, a k-th
-- root through the derivative, is a way to work and no other rule; nothing here is about it.
-- Where e = 0 and where k = 0 rule 2 gives for e ∷ M n T_k(M) less one T_k(M) for each position. So a 0 in a list is a factor
-- n - length M, and T_0 of r weights is n (n - 1) .. (n - r + 1). Equal weights and repeated roots are matters of N.
use Rattle.std.specs.Prelude.{◌≡◌, refl, ℕ, zero, suc, ◌+◌, ◌*◌, ◌-◌, ◌≤◌, ◌<◌, ℤ, negsuc, ◌+ℤ◌}
use Rattle.std.proofs.Math.Path.{sym, ap, ap₂}
use Rattle.std.proofs.Common.{◌∙◌, arith}
use mathlib.Core.List.{List, [], ◌∷◌, flat_map}
use Rattle.std.proofs.Math.Nat as N
use Rattle.std.proofs.Math.ListN.{length}
use Rattle.std.proofs.lemmas.List.{set-get_or}
use Rattle.std.proofs.Math.IntN.{pos, +ℤ_idr}
use Rattle.algebra.specs.Ring.{Ops, Laws}
use Rattle.algebra.specs.Ring as R
use Rattle.algebra.specs.Power.{pow, pow-zero, pow_suc, nat, nat_zero, nat_one, nat_suc, nat_add, nat_mul, int, int_pos}
use Rattle.algebra.specs.Sum.{sum, sum_zero, sum_suc, sum_cong, sum_first, sum_zeros, total}
use Rattle.algebra.specs.Binomial.{fact, choose, choose_zero, falling, falling_zero, falling_step}
use Rattle.algebra.specs.Newton.{times_root, coeff}
use Rattle.algebra.specs.Series.{monomial}
use Rattle.algebra.specs.Integer.{ℤ_eq}
use Rattle.residues.specs.Residues.{residues, Words}
use Rattle.placements.specs.Placements.{prod, count, except, different, factorials, placed, without, placements, value}
use Rattle.placements.specs.Places.{with_sum, replaced}
use Rattle.placements.proofs.Collisions.{length_with_sum}
use Rattle.definition.specs.Definition.{spread, Rule₂, Resolvent}
use Rattle.definition.specs.Cost.{met}
use Rattle.definition.proofs.Rules.{by_length, spread_cong}
use Rattle.definition.specs.Product.{listed, product, values}
use Rattle.definition.proofs.Words.{split_words}

module _ {A : Type 0} (o : Ops A) (b : List A) where
  -- "Laying equal weights as if they differed: B would have degree 2": on two roots 1,1 has one placement
  pub B_degree : (c₁ c₂ : A) → Resolvent o (c₁ ∷ c₂ ∷ []) (pos 1 ∷ pos 1 ∷ []) b → length b ≡ 1
  unfolding placed falling factorials prod different except count fact ℤ_eq
  B_degree c₁ c₂ r = r.size

-- "Dropping repeated factors: J has roots 4, 5, 5, 7, 7, 8 and keeps both pairs": its weighted sums, in the order of the placements
pub J_sums : values (residues 257) (1 ∷ 2 ∷ 3 ∷ []) (pos 2 ∷ pos 1 ∷ []) ≡ 7 ∷ 8 ∷ 5 ∷ 4 ∷ 7 ∷ 5 ∷ []
unfolding values placements value different except without ℤ_eq flat_map residues int nat
J_sums = refl

-- and J's resolvent is the product of x - v over 4, 5, 5, 7, 7, 8
pub J_keeps_pairs : Resolvent (residues 257) (251 ∷ 11 ∷ 251 ∷ []) (pos 2 ∷ pos 1 ∷ []) (product (residues 257) (4 ∷ 5 ∷ 5 ∷ 7 ∷ 7 ∷ 8 ∷ []))
unfolding product listed coeff times_root monomial residues
J_keeps_pairs = rw J_sums at (split_words {p = 257} (omega arith) (1 ∷ 2 ∷ 3 ∷ []) below (pos 2 ∷ pos 1 ∷ []))
  where
    below : Words 257 (1 ∷ 2 ∷ 3 ∷ [])
    below zero h = omega arith
    below (suc zero) h = omega arith
    below (suc (suc zero)) h = omega arith
    below (suc (suc (suc i))) h = absurd (omega arith)

-- "Subtracting the collision sum once per different weight and not once per position": else rule 2
pub record OncePerWeight {A : Type 0} (o : Ops A) (s : ℕ → A) (t : List ℤ → ℕ → A) : Type 0 where
  pub empty : t [] 0 ≡ o.one
  pub longer : (e : ℤ) (M : List ℤ) (k : ℕ) → t (e ∷ M) k ≡ o.add (spread o s t e M k) (o.neg (total o (different ℤ_eq M) (λ d. t (met e M d) k)))

module _ {A : Type 0} {o : Ops A} (l : Laws o) {s : ℕ → A} {t w : List ℤ → ℕ → A} (right : Rule₂ o s t) (wrong : OncePerWeight o s w) where
  open o use {zero as 𝟘, add as ◌⊕◌, neg as ⊖◌}

  infixl 60 ◌⊕◌
  infix 80 ⊖◌
  -- T_0 looks at no other T_k
  zeroth_spread : (e : ℤ) (M : List ℤ) → w M 0 ≡ t M 0 → spread o s w e M 0 ≡ spread o s t e M 0
  zeroth_spread e M h = spread_cong o s s w t e M 0 (λ i b. refl) (λ j b. let z : j ≡ 0 = omega arith in rw z h)

  one_weight : (e : ℤ) → w (e ∷ []) 0 ≡ t (e ∷ []) 0
  unfolding different total sum
  one_weight e = wrong.longer e [] 0 ∙ ap (λ x. x ⊕ ⊖ 𝟘) (zeroth_spread e [] (wrong.empty ∙ sym right.empty)) ∙ sym (right.longer e [] 0)

  two_weights : (e : ℤ) → w (e ∷ pos 1 ∷ []) 0 ≡ t (e ∷ pos 1 ∷ []) 0
  unfolding different except total sum replaced with_sum ℤ_eq
  two_weights e =
      wrong.longer e (pos 1 ∷ []) 0
      ∙ ap₂ (λ x y. x ⊕ ⊖ y) (zeroth_spread e _ (one_weight (pos 1))) (ap (λ y. y ⊕ 𝟘) (one_weight (pos 1 +ℤ e)) ∙ R.add_comm l.semi _ 𝟘)
      ∙ sym (right.longer e (pos 1 ∷ []) 0)

  -- of the two collisions of 1, 1, 1 one stays in: T_0 of 1, 2, which is n (n - 1) by `zeroth_T`
  pub once_per_weight : w (pos 1 ∷ pos 1 ∷ pos 1 ∷ []) 0 ≡ t (pos 1 ∷ pos 1 ∷ pos 1 ∷ []) 0 ⊕ t (pos 1 ∷ pos 2 ∷ []) 0
  unfolding different except total sum replaced with_sum ℤ_eq
  once_per_weight =
      wrong.longer (pos 1) (pos 1 ∷ pos 1 ∷ []) 0
      ∙ ap₂ (λ x y. x ⊕ ⊖ (y ⊕ 𝟘)) (zeroth_spread (pos 1) _ (two_weights (pos 1))) (two_weights (pos 2))
      ∙ left_in _ _ _
      ∙ ap (λ x. x ⊕ t (pos 1 ∷ pos 2 ∷ []) 0) (sym (right.longer (pos 1) (pos 1 ∷ pos 1 ∷ []) 0))
    where
      left_in : (x y z : A) → x ⊕ ⊖ (y ⊕ 𝟘) ≡ x ⊕ ⊖ (𝟘 ⊕ y ⊕ z) ⊕ z
      left_in x y z = simp (R.ring, l, l.semi)

module _ {A : Type 0} {o : Ops A} (l : Laws o) where
  open o use {zero as 𝟘, add as ◌⊕◌, mul as ◌⊗◌, neg as ⊖◌}

  infixl 60 ◌⊕◌
  infixl 70 ◌⊗◌
  infix 80 ⊖◌
  sum_same : (m : ℕ) (x : A) → sum o m (λ j. x) ≡ nat o m ⊗ x
  sum_same zero x = rw (sum_zero o, nat_zero o) (sym (R.zero-mul l.semi x))
  sum_same (suc m) x = rw (sum_suc o, sum_same m x, nat_suc o m) (simp (R.semiring, l.semi))

  added_and_taken : (x y : A) → x ⊕ y ⊕ ⊖ y ≡ x
  added_and_taken x y = simp (R.ring, l, l.semi)

  module _ {s : ℕ → A} {t : List ℤ → ℕ → A} (rule₂ : Rule₂ o s t) (n : ℕ) (zeroth : s 0 ≡ nat o n) where
    -- where the first sum has its first term only, and no collision changes T_k
    unchanged : (e : ℤ) (M : List ℤ) (k : ℕ)
        → ((i : ℕ) → i < k → nat o (choose k (suc i)) ⊗ (pow o (int o e) (suc i) ⊗ s (suc i) ⊗ t M (k - suc i)) ≡ 𝟘)
        → ((j : ℕ) → j < length M → t (with_sum M j e) k ≡ t M k)
        → t (e ∷ M) k ≡ nat o n ⊗ t M k ⊕ ⊖ (nat o (length M) ⊗ t M k)
    unchanged e M k later same =
        rule₂.longer e M k
        ∙ ap₂ (λ x y. x ⊕ ⊖ y)
        (sum_first l.semi k _ ∙ ap₂ ◌⊕◌ first (sum_cong o k _ _ later ∙ sum_zeros l.semi k) ∙ R.add-zero l.semi _)
        (sum_cong o _ _ _ same ∙ sum_same (length M) (t M k))
      where
        first : nat o (choose k 0) ⊗ (pow o (int o e) 0 ⊗ s 0 ⊗ t M (k - 0)) ≡ nat o n ⊗ t M k
        first = rw (choose_zero k, nat_one l.semi, pow-zero o (int o e), zeroth, N.sub-zero) (simp (R.products, l.semi))

    -- T_0 of r weights is n (n - 1) .. (n - r + 1)
    pub zeroth_T : (L : List ℤ) → t L 0 ≡ nat o (falling n (length L))
    zeroth_T = by_length (λ L. t L 0 ≡ nat o (falling n (length L))) (rule₂.empty ∙ sym (ap (nat o) (falling_zero n) ∙ nat_one l.semi)) (λ e M ih.
        let r = length M in
        let same : (j : ℕ) → t (with_sum M j e) 0 ≡ t M 0 = λ j.
        let q = length_with_sum M j e in ih (with_sum M j e) q ∙ ap (λ r. nat o (falling n r)) q ∙ sym (ih M refl) in
        let more : n * falling n r ≡ falling n (suc r) + r * falling n r = omega (arith, falling_step n r) in
        unchanged e M 0 (λ i b. absurd (omega arith)) (λ j b. same j)
        ∙ rw (ih M refl, ← nat_mul l.semi n, ← nat_mul l.semi r, more, nat_add l.semi) (added_and_taken _ _))

    -- "Treating d + e = 0 as the end of a list, or leaving the 0 out": a weight 0 is the factor n - length M
    pub zero_weight : (M : List ℤ) → length M ≤ n → (k : ℕ) → t (pos 0 ∷ M) k ≡ nat o (n - length M) ⊗ t M k
    unfolding with_sum
    zero_weight M h k =
        unchanged (pos 0) M k (λ i b. rw (int_pos o 0, nat_zero o) (simp (pow_suc, R.semiring, l.semi))) (λ j b. ap (λ M'. t M' k) (rw +ℤ_idr (set-get_or M j (pos 0))))
        ∙ ap (λ x. x ⊗ t M k ⊕ ⊖ (nat o (length M) ⊗ t M k)) (ap (nat o) (sym (N.sub-add_cancel h)) ∙ nat_add l.semi (n - length M) (length M))
        ∙ rw (R.add-mul l.semi) (added_and_taken _ _)

    -- "with weights 1,-1,1 the list 0,1 comes up, and its T_k is n - 1 times that of the list 1"
    pub zero_comes_up : 1 ≤ n → (k : ℕ) → t (with_sum (negsuc 0 ∷ pos 1 ∷ []) 0 (pos 1)) k ≡ nat o (n - 1) ⊗ t (pos 1 ∷ []) k
    unfolding with_sum
    zero_comes_up h k = zero_weight (pos 1 ∷ []) h k

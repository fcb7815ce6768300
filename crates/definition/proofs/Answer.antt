-- The resolvent worked out: rules 1 to 4 as a computation, given inverses of what they divide by. Each rule tells its numbers one
-- after the other, so a list of them grows by one at a time and what stands in it stays. Modulo a prime above N, and above the
-- number of weights, the inverses are there: there is an answer, and it is the only one.
use Rattle.std.specs.Prelude.{◌≡◌, length, ℤ}
use Rattle.std.proofs.Math.Path.{refl, ap}
use Rattle.std.proofs.Common.{sym, ◌∙◌}
use mathlib.Core.List.{List, [], ◌∷◌, ◌++◌, map}
use Prim.Native.Nat.{ℕ, zero, suc, ◌≤◌, ◌<◌}
use Rattle.std.proofs.Math.Decide.{dec_lt}
use native.Mathlib.Omega.{arith}
use Rattle.std.proofs.lemmas.List.{length-map}
use Rattle.std.proofs.Math.ListN.{length-append, get_or, get_or-append}
use Rattle.std.proofs.Math.Seq.{get_or-append_seam}
use Rattle.algebra.specs.Ring.{Ops, Laws}
use Rattle.algebra.specs.Ring as R
use Rattle.algebra.specs.Power.{nat}
use Rattle.algebra.specs.Integer.{ℤ_eq}
use Rattle.residues.specs.Prime.{Prime, prime_positive}
use Rattle.residues.specs.Residues.{residues, Words, Z, reduce, ring, laws, word_hom, words_back, words_below}
use Rattle.residues.specs.Field.{inverse, nat_inverse, below_apart}
use Rattle.placements.specs.Placements.{factorials, placed}
use Rattle.definition.specs.Definition.{nth, newton, newton_back, Rule₁, Resolvent}
use Rattle.definition.specs.Rules.{T}
use Rattle.definition.proofs.Rules.{nth_suc, newton_cong, newton_back_cong, T_meets}
use Rattle.definition.proofs.Carry.{carry}
use Rattle.definition.proofs.Roots.{two_cases}
use Rattle.definition.proofs.Words.{factorials_apart, one_list_of_words}

-- a list whose members are told by those before: n times, h of the list so far goes to its end
unfoldable pub grow : {A : Type 0} → (List A → A) → ℕ → List A
grow h zero = []
grow h (suc n) = let so_far = grow h n in so_far ++ h so_far ∷ []

module _ {A : Type 0} (h : List A → A) where
  length_grow : (n : ℕ) → length (grow h n) ≡ n
  unfolding grow
  length_grow zero = refl
  length_grow (suc n) = length-append (grow h n) _ ∙ rw (length_grow n) (omega arith)

  get_or_grow : (n : ℕ) (d : A) (i : ℕ) → i < n → get_or (grow h n) i d ≡ h (grow h i)
  unfolding grow
  get_or_grow zero d i b = absurd (omega arith)
  get_or_grow (suc n) d i b = elim (dec_lt i n) [
    | yes q ↦ get_or-append (grow h n) _ d i (omega (arith, length_grow n)) ∙ get_or_grow n d i q
    | no q ↦
        let e : i ≡ n = omega arith in
        rw e (ap (λ j. get_or (grow h n ++ h (grow h n) ∷ []) j d) (sym (length_grow n)) ∙ get_or-append_seam (grow h n) (h (grow h n)) [] d)
  ]

  -- what is told once stays
  grow_more : (n m : ℕ) (d : A) (i : ℕ) → i < n → n ≤ m → get_or (grow h n) i d ≡ get_or (grow h m) i d
  grow_more n m d i a b = get_or_grow n d i a ∙ sym (get_or_grow m d i (omega arith))

module _ {A : Type 0} (o : Ops A) where
  open o use {zero as 𝟘, mul as ◌⊗◌}

  infixl 70 ◌⊗◌
  -- rule 1: the k-th power sum, from those before it
  unfoldable pub next_sum : List A → ℕ → List A → A
  next_sum c zero before = nat o (length c)
  next_sum c (suc j) before = newton o c (λ i. get_or before i 𝟘) (suc j)

  unfoldable pub sums : List A → ℕ → List A
  sums c m = grow (λ before. next_sum c (length before) before) (suc m)

  -- rules 2 and 3; inv n is to be an inverse of n
  unfoldable pub divided : (inv : ℕ → A) → List A → List ℤ → ℕ → A
  divided inv s L k = inv (factorials ℤ_eq L) ⊗ T o (λ i. get_or s i 𝟘) L k

  -- rule 4: the k-th coefficient, from those before it
  unfoldable pub next_coefficient : (inv S : ℕ → A) → ℕ → List A → A
  next_coefficient inv S k before = inv k ⊗ newton_back o before S k

  unfoldable pub coefficients : (inv S : ℕ → A) → ℕ → List A
  coefficients inv S m = grow (λ before. next_coefficient inv S (suc (length before)) before) m

  unfoldable pub answer : (inv : ℕ → A) → List A → List ℤ → List A
  answer inv c L = coefficients inv (divided inv (sums c (placed (length c) L)) L) (placed (length c) L)

module _ {A : Type 0} {o : Ops A} (l : Laws o) where
  open o use {zero as 𝟘, one as 𝟙, mul as ◌⊗◌}

  infixl 70 ◌⊗◌
  sums_right : (c : List A) (m : ℕ) → Rule₁ o c m (λ k. get_or (sums o c m) k 𝟘)
  unfolding sums next_sum
  sums_right c m = two_cases l c m _ (at 0 (omega arith)) each
    where
      h : List A → A
      h before = next_sum o c (length before) before

      at : (k : ℕ) → k ≤ m → get_or (grow h (suc m)) k 𝟘 ≡ next_sum o c k (grow h k)
      at k d = get_or_grow h (suc m) 𝟘 k (omega arith) ∙ ap (λ j. next_sum o c j (grow h k)) (length_grow h k)

      each : (k : ℕ) → 1 ≤ k → k ≤ m → get_or (grow h (suc m)) k 𝟘 ≡ newton o c (λ i. get_or (grow h (suc m)) i 𝟘) k
      each zero a d = absurd (omega arith)
      each (suc j) a d = at (suc j) d ∙ newton_cong o c (suc j) (λ i b. grow_more h (suc j) (suc m) 𝟘 i b (omega arith))

  coefficients_right : (inv S : ℕ → A) (m k : ℕ) → nat o k ⊗ inv k ≡ 𝟙 → 1 ≤ k → k ≤ m
      → nat o k ⊗ nth o (coefficients o inv S m) k ≡ newton_back o (coefficients o inv S m) S k
  unfolding coefficients next_coefficient
  coefficients_right inv S m zero e a b = absurd (omega arith)
  coefficients_right inv S m (suc j) e a b =
      ap (λ x. nat o (suc j) ⊗ x) (nth_suc o _ j ∙ get_or_grow h m 𝟘 j (omega arith) ∙ ap (λ n. next_coefficient o inv S (suc n) (grow h j)) (length_grow h j))
      ∙ R.undo l.semi _ _ _ e
      ∙ newton_back_cong o _ _ {S = S} {S' = S} (suc j) (λ i u w. same i u (omega arith)) (λ i w. refl)
    where
      h : List A → A
      h before = next_coefficient o inv S (suc (length before)) before

      same : (i : ℕ) → 1 ≤ i → i ≤ j → nth o (grow h j) i ≡ nth o (grow h m) i
      same zero u w = absurd (omega arith)
      same (suc i) u w = nth_suc o _ i ∙ grow_more h j m 𝟘 i (omega arith) (omega arith) ∙ sym (nth_suc o _ i)

  answer_right : (inv : ℕ → A) (c : List A) (L : List ℤ) → nat o (factorials ℤ_eq L) ⊗ inv (factorials ℤ_eq L) ≡ 𝟙
      → ((k : ℕ) → 1 ≤ k → k ≤ placed (length c) L → nat o k ⊗ inv k ≡ 𝟙) → Resolvent o c L (answer o inv c L)
  unfolding answer divided
  answer_right inv c L e each = record {
    s = λ k. get_or (sums o c (placed (length c) L)) k 𝟘;
    T = T o (λ k. get_or (sums o c (placed (length c) L)) k 𝟘);
    S = divided o inv (sums o c (placed (length c) L)) L;
    rule₁ = sums_right c _;
    rule₂ = T_meets o _;
    rule₃ = λ k h. R.undo l.semi _ _ _ e;
    rule₄ = λ k a h. coefficients_right inv _ _ k (each k a h) a h;
    size = unfold coefficients in length_grow _ _;
  }

-- the resolvent modulo p, as words
unfoldable pub resolvent : ℕ → List ℕ → List ℤ → List ℕ
resolvent p c L = map (λ (z : Z p). z.word) (answer (ring p) (inverse p) (map (reduce p) c) L)

-- modulo a prime p above N, with fewer than p weights: this list is a resolvent of c and L, its words are below p, and any other is the same
module _ {p : ℕ} (h : Prime p) (c : List ℕ) (low : Words p c) (L : List ℤ) (few : length L < p) (small : placed (length c) L < p) where
  pub resolvent_right : Resolvent (residues p) c L (resolvent p c L)
  unfolding resolvent
  resolvent_right = rw (words_back p c low) at (carry (word_hom p) _ L _ (answer_right (laws p (prime_positive h)) (inverse p) (map (reduce p) c) L
      (nat_inverse h (factorials ℤ_eq L) (factorials_apart h L few))
      (λ k a b. nat_inverse h k (below_apart h k a (omega (arith, rw (length-map c (reduce p)) at b))))))

  pub resolvent_below : Words p (resolvent p c L)
  unfolding resolvent
  resolvent_below = words_below p (prime_positive h) (answer (ring p) (inverse p) (map (reduce p) c) L)

  pub resolvent_only : (b : List ℕ) → Words p b → Resolvent (residues p) c L b → b ≡ resolvent p c L
  resolvent_only b w r = one_list_of_words h c L few small b _ w resolvent_below r resolvent_right

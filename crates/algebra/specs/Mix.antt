-- The binomial product of two sequences, the sum of C(k, i) · a i · t (k - i): what rule 2 makes of a weight and the rest of a list.
-- Its shift obeys the product rule (`mix_suc`), which is Pascal's, and every law is an induction on the place by that.
use Rattle.std.specs.Prelude.{◌≡◌, List, [], ◌∷◌, ℕ, zero, suc}
use Rattle.algebra.specs.Ring.{Ops, Semi, Laws}
use Rattle.algebra.specs.Ring as R
use Rattle.algebra.specs.Sum.{total, total_nil, total_cons}
use Rattle.algebra.specs.Binomial.{expand, expand_zero, expand_suc}

module _ {A : Type 0} (o : Ops A) where
  unfoldable pub mix : (ℕ → A) → (ℕ → A) → ℕ → A
  mix a t k = expand o k (λ i j. o.mul (a i) (t j))

module _ {A : Type 0} {o : Ops A} (s : Semi o) where
  open o use {zero as 𝟘, add as ◌⊕◌, mul as ◌⊗◌}

  infixl 60 ◌⊕◌
  infixl 70 ◌⊗◌
  pub mix_zero : (a t : ℕ → A) → mix o a t 0 ≡ a 0 ⊗ t 0
  unfolding mix
  mix_zero a t = expand_zero s _

  -- the product rule
  pub mix_suc : (a t : ℕ → A) (k : ℕ) → mix o a t (suc k) ≡ mix o (λ i. a (suc i)) t k ⊕ mix o a (λ j. t (suc j)) k
  unfolding mix
  mix_suc a t k = expand_suc s k _

  pub mix_add : (k : ℕ) (a t u : ℕ → A) → mix o a (λ j. t j ⊕ u j) k ≡ mix o a t k ⊕ mix o a u k
  mix_add zero a t u = simp (mix_zero, R.mul-add, s)
  mix_add (suc k) a t u = simp (mix_suc, mix_add k, R.sums, s)

  pub mix_none : (k : ℕ) (a : ℕ → A) → mix o a (λ j. 𝟘) k ≡ 𝟘
  mix_none zero a = simp (mix_zero, R.mul-zero, s)
  mix_none (suc k) a = simp (mix_suc, mix_none k, R.add-zero, s)

  pub mix_total : {X : Type 0} (xs : List X) (k : ℕ) (a : ℕ → A) (t : X → ℕ → A) → mix o a (λ j. total o xs (λ x. t x j)) k ≡ total o xs (λ x. mix o a (t x) k)
  mix_total [] k a t = simp total_nil (mix_none k a)
  mix_total (x ∷ xs) k a t = simp (total_cons, mix_add, mix_total xs k)

  -- two factors change places
  pub mix_swap : (k : ℕ) (a b t : ℕ → A) → mix o a (mix o b t) k ≡ mix o b (mix o a t) k
  mix_swap zero a b t = simp (mix_zero) (R.mul_left_comm s _ _ _)
  mix_swap (suc k) a b t = rw (mix_suc a (mix o b t) k, mix_suc b (mix o a t) k)
      (simp (mix_suc b t, mix_suc a t, mix_add) (turned _ _ _ _ _ _ (mix_swap k (λ i. a (suc i)) b t) (mix_swap k a (λ i. b (suc i)) t) (mix_swap k a b (λ i. t (suc i)))))
    where
      turned : (x y z x' y' z' : A) → x ≡ x' → y ≡ y' → z ≡ z' → x ⊕ (y ⊕ z) ≡ y' ⊕ (x' ⊕ z')
      turned x y z x' y' z' p q r = rw (p, q, r) (R.add_left_comm s _ _ _)

module _ {A : Type 0} {o : Ops A} (l : Laws o) where
  open o use {neg as ⊖◌}

  infix 80 ⊖◌
  pub mix_neg : (k : ℕ) (a t : ℕ → A) → mix o a (λ j. ⊖ t j) k ≡ ⊖ mix o a t k
  mix_neg zero a t = simp (mix_zero l.semi, R.mul_neg, l)
  mix_neg (suc k) a t = simp (mix_suc l.semi, mix_neg k, R.neg_sum, l)

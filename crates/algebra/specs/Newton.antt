-- Newton's identities for a list of roots, over any ring: with c the coefficients of the product of x - a, from the leading
-- one down, and s k the sum of the k-th powers, k · c k + c 0 · s k + .. + c (k-1) · s 1 = 0.
-- As series c is the product of 1 - a z and s, from its first power on, the sum of a z / (1 - a z); so θ c + c · s = 0 is an
-- induction on the list, by θ (1 - a z) = - a z and (1 - a z) · (a z + a² z² + ..) = a z.
use Rattle.std.specs.Prelude.{◌≡◌, ℕ, zero, suc, ◌-◌, ◌<◌, length}
use Rattle.std.proofs.Math.Path.{refl, fun_ext}
use Rattle.std.proofs.Common.{sym, ap, ◌∙◌, arith}
use mathlib.Core.List.{List, [], ◌∷◌}
use Rattle.std.proofs.Math.Nat as N
use Rattle.algebra.specs.Ring.{Ops, Laws}
use Rattle.algebra.specs.Ring as R
use Rattle.algebra.specs.Power.{pow, pow-zero, pow_suc, nat, nat_zero, nat_one, nat_suc}
use Rattle.algebra.specs.Sum.{sum, sum_suc, sum_cong, sum_first, total, total_nil, total_cons}
use Rattle.algebra.specs.Series.{series, series_laws, monomial, monomial_here, monomial_past, monomial_under, monomial_over}
use Rattle.algebra.specs.Series.{θ, θ_at, θ_add, θ_mul, θ_neg, θ_one, θ_monomial, zero_at, add_at, neg_at, mul_at}

module _ {A : Type 0} (o : Ops A) where
  -- the sum of the k-th powers of the listed numbers
  unfoldable pub power_sum : List A → ℕ → A
  power_sum xs k = total o xs (λ a. pow o a k)

  -- the coefficients of f · (1 - a z)
  unfoldable pub times_root : A → (ℕ → A) → ℕ → A
  times_root a f zero = f 0
  times_root a f (suc k) = o.add (f (suc k)) (o.neg (o.mul a (f k)))

  -- the coefficients of the product of x - a over the listed a, from the leading one down
  unfoldable pub coeff : List A → ℕ → A
  coeff [] = monomial o o.one 0
  coeff (a ∷ xs) = times_root a (coeff xs)

  pub power_sum_nil : (k : ℕ) → power_sum [] k ≡ o.zero
  unfolding power_sum
  power_sum_nil k = total_nil o _

  pub power_sum_cons : (a : A) (xs : List A) (k : ℕ) → power_sum (a ∷ xs) k ≡ o.add (pow o a k) (power_sum xs k)
  unfolding power_sum
  power_sum_cons a xs k = total_cons o a xs _

  -- there are as many 0th powers as roots
  pub power_sum_zero : (xs : List A) → power_sum xs 0 ≡ nat o (length xs)
  power_sum_zero [] = power_sum_nil 0 ∙ sym (nat_zero o)
  power_sum_zero (a ∷ xs) = power_sum_cons a xs 0 ∙ rw (pow-zero o a, power_sum_zero xs) (sym (nat_suc o (length xs)))

  pub times_root_zero : (a : A) (f : ℕ → A) → times_root a f 0 ≡ f 0
  unfolding times_root
  times_root_zero a f = refl

  pub times_root_suc : (a : A) (f : ℕ → A) (k : ℕ) → times_root a f (suc k) ≡ o.add (f (suc k)) (o.neg (o.mul a (f k)))
  unfolding times_root
  times_root_suc a f k = refl

  pub coeff_nil : (k : ℕ) → coeff [] k ≡ monomial o o.one 0 k
  unfolding coeff
  coeff_nil k = refl

  pub coeff_cons : (a : A) (xs : List A) (k : ℕ) → coeff (a ∷ xs) k ≡ times_root a (coeff xs) k
  unfolding coeff
  coeff_cons a xs k = refl

  pub coeff_zero : (xs : List A) → coeff xs 0 ≡ o.one
  coeff_zero [] = coeff_nil 0 ∙ monomial_here o o.one
  coeff_zero (a ∷ xs) = coeff_cons a xs 0 ∙ times_root_zero a _ ∙ coeff_zero xs

  -- a z + a² z² + ..
  geometric : A → ℕ → A
  geometric a zero = o.zero
  geometric a (suc k) = pow o a (suc k)

  -- the power sums as a series with no constant term
  powers : List A → ℕ → A
  powers [] = (series o).zero
  powers (a ∷ xs) = (series o).add (geometric a) (powers xs)

  geometric_zero : (a : A) → geometric a 0 ≡ o.zero
  unfolding geometric
  geometric_zero a = refl

  geometric_suc : (a : A) (k : ℕ) → geometric a (suc k) ≡ pow o a (suc k)
  unfolding geometric
  geometric_suc a k = refl

  -- a z
  abbrev root : A → ℕ → A
  root a = monomial o a 1

  -- 1 - a z
  abbrev factor : A → ℕ → A
  factor a = (series o).add (series o).one ((series o).neg (root a))

-- what one root more comes to, in any ring
module _ {A : Type 0} {o : Ops A} (l : Laws o) where
  open o use {zero as 𝟘, one as 𝟙, add as ◌⊕◌, mul as ◌⊗◌, neg as ⊖◌}

  infixl 60 ◌⊕◌
  infixl 70 ◌⊗◌
  infix 80 ⊖◌
  one_minus : (x f : A) → (𝟙 ⊕ ⊖ x) ⊗ f ≡ f ⊕ ⊖ (x ⊗ f)
  one_minus x f = simp (R.ring, l, l.semi)

  -- E = 1 - a z, x = a z, c the coefficients, d = θ c, s the power sums, g the powers of a
  one_root_more : (E x c s g d : A) → E ⊗ g ≡ x → d ⊕ c ⊗ s ≡ 𝟘 → (⊖ x ⊗ c ⊕ E ⊗ d) ⊕ E ⊗ c ⊗ (g ⊕ s) ≡ 𝟘
  one_root_more E x c s g d p q = rw (← p) (regroup ∙ rw q (R.mul-zero l.semi E))
    where
      regroup : (⊖ (E ⊗ g) ⊗ c ⊕ E ⊗ d) ⊕ E ⊗ c ⊗ (g ⊕ s) ≡ E ⊗ (d ⊕ c ⊗ s)
      regroup = simp (R.ring, l, l.semi)

module _ {A : Type 0} {o : Ops A} (l : Laws o) where
  open o use {zero as 𝟘, one as 𝟙, add as ◌⊕◌, mul as ◌⊗◌, neg as ⊖◌}

  infixl 60 ◌⊕◌
  infixl 70 ◌⊗◌
  infix 80 ⊖◌
  open series o use {zero as 0ˢ, add as ◌+ˢ◌, mul as ◌*ˢ◌, neg as -ˢ◌}

  infixl 60 ◌+ˢ◌
  infixl 70 ◌*ˢ◌
  infix 80 -ˢ◌
  abbrev ls : Laws (series o)
  ls = series_laws l

  root_zero : (a : A) → root o a 0 ≡ 𝟘
  unfolding monomial
  root_zero a = refl

  root_one : (a : A) → root o a 1 ≡ a
  unfolding monomial
  root_one a = refl

  root_more : (a : A) (k : ℕ) → root o a (suc (suc k)) ≡ 𝟘
  unfolding monomial
  root_more a k = refl

  root_mul_suc : (a : A) (f : ℕ → A) (k : ℕ) → (root o a *ˢ f) (suc k) ≡ a ⊗ f k
  root_mul_suc a f k = ap (root o a *ˢ f) (omega arith) ∙ monomial_over l.semi a 1 f k

  times_root_is : (a : A) (f : ℕ → A) → times_root o a f ≡ factor o a *ˢ f
  times_root_is a f = fun_ext at ∙ sym (one_minus ls (root o a) f)
    where
      at : (k : ℕ) → times_root o a f k ≡ (f +ˢ -ˢ (root o a *ˢ f)) k
      at zero = times_root_zero o a f ∙ sym (add_at o f _ 0 ∙ rw (neg_at o (root o a *ˢ f) 0, monomial_under l.semi a 1 f 0 (omega arith)) (simp (R.ring, l, l.semi)))
      at (suc k) = simp (times_root_suc, add_at, neg_at, root_mul_suc)

  θ_root : (a : A) → θ o (root o a) ≡ root o a
  θ_root a = θ_monomial l.semi a 1 ∙ rw (nat_one l.semi, R.one-mul l.semi)

  θ_factor : (a : A) → θ o (factor o a) ≡ -ˢ root o a
  θ_factor a = rw (θ_add l.semi, θ_neg l, θ_root a, θ_one l.semi) (R.zero-add ls.semi _)

  factor_geometric : (a : A) → factor o a *ˢ geometric o a ≡ root o a
  factor_geometric a = sym (times_root_is a (geometric o a)) ∙ fun_ext at
    where
      at : (k : ℕ) → times_root o a (geometric o a) k ≡ root o a k
      at zero = simp (times_root_zero, geometric_zero, root_zero)
      at (suc zero) = rw (times_root_suc o a (geometric o a) 0, geometric_suc o a 0, geometric_zero, pow_suc o a 0) (simp (root_one, pow-zero, R.ring, l, l.semi))
      at (suc (suc k)) = simp (times_root_suc, geometric_suc, root_more, pow_suc, R.ring, l)

  newton_series : (xs : List A) → θ o (coeff o xs) +ˢ coeff o xs *ˢ powers o xs ≡ 0ˢ
  unfolding coeff powers
  newton_series [] = rw (R.mul-zero ls.semi, R.add-zero ls.semi) (unfold series in θ_one l.semi)
  newton_series (a ∷ xs) = rw (times_root_is a (coeff o xs), θ_mul l.semi, θ_factor a)
      (one_root_more ls (factor o a) (root o a) (coeff o xs) (powers o xs) (geometric o a) (θ o (coeff o xs)) (factor_geometric a) (newton_series xs))

  powers_zero : (xs : List A) → powers o xs 0 ≡ 𝟘
  unfolding powers
  powers_zero [] = zero_at o 0
  powers_zero (a ∷ xs) = simp (add_at, geometric_zero, powers_zero xs, R.add-zero, l.semi)

  powers_suc : (xs : List A) (k : ℕ) → powers o xs (suc k) ≡ power_sum o xs (suc k)
  unfolding powers
  powers_suc [] k = simp (zero_at, power_sum_nil)
  powers_suc (a ∷ xs) k = simp (add_at, geometric_suc, powers_suc xs k, power_sum_cons)

  powers_pos : (xs : List A) (k : ℕ) → 0 < k → powers o xs k ≡ power_sum o xs k
  powers_pos xs zero h = elim h [ ]
  powers_pos xs (suc k) h = powers_suc xs k

  -- Newton's identity
  newton_identity : (xs : List A) (k : ℕ) → 0 < k → nat o k ⊗ coeff o xs k ⊕ sum o k (λ i. coeff o xs i ⊗ power_sum o xs (k - i)) ≡ 𝟘
  newton_identity xs k h = rw (← tail) (simp (add_at, θ_at, mul_at, zero_at) at (ap (λ f. f k) (newton_series xs)))
    where
      tail : sum o (suc k) (λ i. coeff o xs i ⊗ powers o xs (k - i)) ≡ sum o k (λ i. coeff o xs i ⊗ power_sum o xs (k - i))
      tail = rw (sum_suc o k (λ i. coeff o xs i ⊗ powers o xs (k - i)), N.sub_self, powers_zero xs, R.mul-zero l.semi, R.add-zero l.semi)
          (sum_cong o k _ _ (λ i b. rw (powers_pos xs (k - i) (omega arith))))

  -- past the degree there is no coefficient
  pub coeff_past : (xs : List A) (k : ℕ) → length xs < k → coeff o xs k ≡ 𝟘
  coeff_past [] zero h = absurd (omega arith)
  coeff_past [] (suc k) h = coeff_nil o (suc k) ∙ monomial_past o 𝟙 k
  coeff_past (a ∷ xs) zero h = absurd (omega arith)
  coeff_past (a ∷ xs) (suc k) h = coeff_cons o a xs (suc k) ∙ times_root_suc o a _ k ∙ rw (coeff_past xs (suc k) (omega arith), coeff_past xs k (omega arith)) (simp (R.ring, l, l.semi))

  -- the sum of the k-th powers, by the coefficients and the sums before it
  pub newton_next : (xs : List A) (k : ℕ) → power_sum o xs (suc k) ≡ ⊖ (nat o (suc k) ⊗ coeff o xs (suc k) ⊕ sum o k (λ i. coeff o xs (suc i) ⊗ power_sum o xs (k - i)))
  newton_next xs k = R.neg_unique l _ _
      (simp (R.sums, l.semi) (simp (sum_first, N.suc-sub-suc, N.sub-zero, coeff_zero, R.one-mul, R.sums, l.semi) at (newton_identity xs (suc k) (omega arith))))

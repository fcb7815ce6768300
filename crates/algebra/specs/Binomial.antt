-- Factorials, binomial coefficients, falling products, and the binomial theorem over any semiring.
-- With `expand k f`, the sum of C(k, i) · f i (k - i), the theorem is Pascal's rule for `expand` and an induction.
use Rattle.std.specs.Prelude.{◌≡◌, refl, List}
use Rattle.std.proofs.Math.Path.{sym, ap, fun_ext}
use Rattle.std.proofs.Common.{◌∙◌}
use Prim.Native.Nat.{ℕ, zero, suc, ◌+◌, ◌*◌, ◌-◌, ◌<◌}
use Rattle.std.proofs.Math.Nat as N
use native.Mathlib.Omega.{arith}
use Rattle.algebra.specs.Ring.{Ops, Semi}
use Rattle.algebra.specs.Ring as R
use Rattle.algebra.specs.Power.{pow, pow-zero, pow_suc, nat, nat_zero, nat_one, nat_add}
use Rattle.algebra.specs.Sum.{sum, sum_suc, sum_cong, sum_one, sum_add, mul_sum, sum_first, total, mul_total, total_sum}

-- m!
unfoldable pub fact : ℕ → ℕ
fact zero = 1
fact (suc m) = suc m * fact m

-- C(k, i)
unfoldable pub choose : ℕ → ℕ → ℕ
choose k zero = 1
choose zero (suc i) = 0
choose (suc k) (suc i) = choose k i + choose k (suc i)

-- n (n - 1) .. (n - r + 1), r factors
unfoldable pub falling : ℕ → ℕ → ℕ
falling n zero = 1
falling zero (suc r) = 0
falling (suc n) (suc r) = suc n * falling n r

pub fact_zero : fact 0 ≡ 1
unfolding fact
fact_zero = refl

pub fact_suc : (m : ℕ) → fact (suc m) ≡ suc m * fact m
unfolding fact
fact_suc m = refl

pub fact_positive : (m : ℕ) → 0 < fact m
fact_positive zero = rw fact_zero (omega arith)
fact_positive (suc m) = rw (fact_suc m) (N.mul-pos (omega arith) (fact_positive m))

pub choose_zero : (k : ℕ) → choose k 0 ≡ 1
unfolding choose
choose_zero k = refl

pub choose_suc : (k i : ℕ) → choose (suc k) (suc i) ≡ choose k i + choose k (suc i)
unfolding choose
choose_suc k i = refl

-- nothing to choose past the end
pub choose_past : (k i : ℕ) → k < i → choose k i ≡ 0
unfolding choose
choose_past k zero h = absurd (omega arith)
choose_past zero (suc i) h = refl
choose_past (suc k) (suc i) h = rw (choose_past k i (omega arith), choose_past k (suc i) (omega arith))

-- C(k, i) i! j! = k! where i + j = k
pub choose_fact : (k i j : ℕ) → i + j ≡ k → choose k i * (fact i * fact j) ≡ fact k
choose_fact zero zero j e = let z : j ≡ 0 = omega arith in rw (choose_zero 0, fact_zero, z, fact_zero)
choose_fact (suc k) zero j e = let z : j ≡ suc k = omega arith in rw (choose_zero (suc k), fact_zero, z) (omega arith)
choose_fact zero (suc i) j e = absurd (omega arith)
choose_fact (suc k) (suc i) zero e =
    let z : i ≡ k = omega arith in
    rw (choose_suc k i, choose_past k (suc i) (omega arith), fact_suc i, fact_suc k, ← choose_fact k i 0 (omega arith), fact_zero, z) (omega arith)
choose_fact (suc k) (suc i) (suc j) e =
    let z : k ≡ i + suc j = omega arith in
    rw (choose_suc k i, fact_suc i, fact_suc j, fact_suc k)
    (collect (choose k i) (choose k (suc i)) (fact i) (fact j) (fact k) (rw (fact_suc j) at (choose_fact k i (suc j) (omega arith))) (rw (fact_suc i) at (choose_fact k (suc i) j (omega arith)))
    ∙ ap (λ m. suc m * fact k) (sym z))
  where
    collect : (a b f g x : ℕ) → a * (f * (suc j * g)) ≡ x → b * ((suc i * f) * g) ≡ x → (a + b) * ((suc i * f) * (suc j * g)) ≡ suc (i + suc j) * x
    collect a b f g x p q = omega (arith, ap (λ y. suc i * y) p, ap (λ y. suc j * y) q)

pub falling_zero : (n : ℕ) → falling n 0 ≡ 1
unfolding falling
falling_zero n = refl

pub falling_none : (r : ℕ) → falling 0 (suc r) ≡ 0
unfolding falling
falling_none r = refl

pub falling_suc : (n r : ℕ) → falling (suc n) (suc r) ≡ suc n * falling n r
unfolding falling
falling_suc n r = refl

-- one place more: it stays empty, or takes one of the r + 1 things
pub falling_step : (n r : ℕ) → suc n * falling n r ≡ falling n (suc r) + suc r * falling n r
falling_step zero zero = rw (falling_zero 0, falling_none 0)
falling_step zero (suc r) = simp (falling_none, N.mul-zero)
falling_step (suc n) zero = rw (falling_suc n 0, falling_zero n, falling_zero (suc n)) (omega arith)
falling_step (suc n) (suc r) = rw (falling_suc n r, falling_suc n (suc r)) (collect (falling n r) (falling n (suc r)) (falling_step n r))
  where
    collect : (x y : ℕ) → suc n * x ≡ y + suc r * x → suc (suc n) * (suc n * x) ≡ suc n * y + suc (suc r) * (suc n * x)
    collect x y h = omega (arith, ap (λ t. suc n * t) h)

module _ {A : Type 0} (o : Ops A) where
  -- the sum of C(k, i) times f i (k - i), for i from 0 to k
  unfoldable pub expand : ℕ → (ℕ → ℕ → A) → A
  expand k f = sum o (suc k) (λ i. o.mul (nat o (choose k i)) (f i (k - i)))

module _ {A : Type 0} {o : Ops A} (s : Semi o) where
  open o use {add as ◌⊕◌, mul as ◌⊗◌}

  infixl 60 ◌⊕◌
  infixl 70 ◌⊗◌
  pub expand_zero : (f : ℕ → ℕ → A) → expand o 0 f ≡ f 0 0
  unfolding expand
  expand_zero f = simp (sum_one, choose_zero, nat_one, R.one-mul, s)

  expand_tail : (k : ℕ) (f : ℕ → ℕ → A) → expand o k (λ i j. f i (suc j)) ≡ f 0 (suc k) ⊕ sum o (suc k) (λ i. nat o (choose k (suc i)) ⊗ f (suc i) (k - i))
  unfolding expand
  expand_tail k f =
      let q : ℕ → A = λ i. nat o (choose k i) ⊗ f i (suc k - i) in
      let last : sum o (suc (suc k)) q ≡ sum o (suc k) q =
      rw (sum_suc o (suc k) q, choose_past k (suc k) (omega arith), nat_zero o, R.zero-mul s) (R.add-zero s _) in
      sum_cong o (suc k) _ q (λ i h. let e : suc (k - i) ≡ suc k - i = omega arith in rw e)
      ∙ sym last
      ∙ sum_first s (suc k) q
      ∙ simp (choose_zero, nat_one, R.one-mul, s, N.sub-zero, N.suc-sub-suc)

  -- Pascal's rule
  pub expand_suc : (k : ℕ) (f : ℕ → ℕ → A) → expand o (suc k) f ≡ expand o k (λ i j. f (suc i) j) ⊕ expand o k (λ i j. f i (suc j))
  unfolding expand
  expand_suc k f =
      sum_first s (suc k) _
      ∙ simp (choose_zero, choose_suc, nat_one, nat_add, R.add-mul, sum_add, R.one-mul, s, N.sub-zero, N.suc-sub-suc) (R.add_left_comm s _ _ _)
      ∙ ap (λ x. sum o (suc k) (λ i. nat o (choose k i) ⊗ f (suc i) (k - i)) ⊕ x) (sym (expand_tail k f))

  pub mul_expand : (a : A) (k : ℕ) (f : ℕ → ℕ → A) → a ⊗ expand o k f ≡ expand o k (λ i j. a ⊗ f i j)
  unfolding expand
  mul_expand a k f = mul_sum s a (suc k) _ ∙ ap (sum o (suc k)) (fun_ext (λ i. R.mul_left_comm s a _ _))

  pub total_expand : {X : Type 0} (xs : List X) (k : ℕ) (f : X → ℕ → ℕ → A) → total o xs (λ x. expand o k (f x)) ≡ expand o k (λ i j. total o xs (λ x. f x i j))
  unfolding expand
  total_expand xs k f = total_sum s xs (suc k) (λ x i. nat o (choose k i) ⊗ f x i (k - i)) ∙ simp (mul_total, s)

  pub binomial : (x y : A) (k : ℕ) → pow o (x ⊕ y) k ≡ expand o k (λ i j. pow o x i ⊗ pow o y j)
  binomial x y zero = rw (expand_zero, pow-zero o (x ⊕ y), pow-zero o x, pow-zero o y, R.one-mul s)
  binomial x y (suc k) = rw (pow_suc o (x ⊕ y) k, binomial x y k, R.add-mul s, mul_expand x, mul_expand y, expand_suc) (simp (pow_suc, R.products, s))

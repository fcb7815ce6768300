-- Power series: sequences f 0, f 1, .. with the Cauchy product. Over a semiring they are a semiring, over a ring a ring, and
-- θ, which takes f k to k · f k, is a derivation. The product's first place is split off (`mul_suc`), and every law is an
-- induction on the place.
use Rattle.std.specs.Prelude.{◌≡◌}
use Rattle.std.proofs.Math.Path.{refl, ap, fun_ext}
use Rattle.std.proofs.Common.{sym, ◌∙◌, arith}
use mathlib.Core.HLevel.{Π_set}
use Rattle.std.proofs.Math.Logic.{by_cases}
use Prim.Native.Nat.{ℕ, zero, suc, ◌+◌, ◌-◌, ◌<◌}
use Rattle.std.proofs.Math.Nat as N
use Rattle.std.proofs.Math.Decide.{ℕ_discrete}
use Rattle.algebra.specs.Ring.{Ops, Semi, Laws}
use Rattle.algebra.specs.Ring as R
use Rattle.algebra.specs.Power.{nat, nat_zero, nat_add}
use Rattle.algebra.specs.Sum.{sum, sum_cong, sum_one, sum_add, mul_sum, sum_first}

module _ {A : Type 0} (o : Ops A) where
  -- c z^s
  unfoldable pub monomial : A → ℕ → ℕ → A
  monomial c zero zero = c
  monomial c zero (suc k) = o.zero
  monomial c (suc s) zero = o.zero
  monomial c (suc s) (suc k) = monomial c s k

  unfoldable pub series : Ops (ℕ → A)
  series = record {
    zero = λ k. o.zero;
    one = monomial o.one 0;
    add = λ f g k. o.add (f k) (g k);
    mul = λ f g k. sum o (suc k) (λ i. o.mul (f i) (g (k - i)));
    neg = λ f k. o.neg (f k);
  }

  unfoldable pub θ : (ℕ → A) → ℕ → A
  θ f k = o.mul (nat o k) (f k)

  pub monomial_here : (c : A) → monomial c 0 0 ≡ c
  unfolding monomial
  monomial_here c = refl

  pub monomial_past : (c : A) (k : ℕ) → monomial c 0 (suc k) ≡ o.zero
  unfolding monomial
  monomial_past c k = refl

  pub monomial_first : (c : A) (s : ℕ) → monomial c (suc s) 0 ≡ o.zero
  unfolding monomial
  monomial_first c s = refl

  pub monomial_suc : (c : A) (s k : ℕ) → monomial c (suc s) (suc k) ≡ monomial c s k
  unfolding monomial
  monomial_suc c s k = refl

  pub monomial_same : (c : A) (s : ℕ) → monomial c s s ≡ c
  monomial_same c zero = monomial_here c
  monomial_same c (suc s) = monomial_suc c s s ∙ monomial_same c s

  pub monomial_other : (c : A) (s k : ℕ) → ¬ (k ≡ s) → monomial c s k ≡ o.zero
  monomial_other c zero zero n = absurd (n refl)
  monomial_other c zero (suc k) n = monomial_past c k
  monomial_other c (suc s) zero n = monomial_first c s
  monomial_other c (suc s) (suc k) n = monomial_suc c s k ∙ monomial_other c s k (λ e. n (ap suc e))

  pub zero_at : (k : ℕ) → series.zero k ≡ o.zero
  unfolding series
  zero_at k = refl

  pub one_at : (k : ℕ) → series.one k ≡ monomial o.one 0 k
  unfolding series
  one_at k = refl

  pub add_at : (f g : ℕ → A) (k : ℕ) → series.add f g k ≡ o.add (f k) (g k)
  unfolding series
  add_at f g k = refl

  pub neg_at : (f : ℕ → A) (k : ℕ) → series.neg f k ≡ o.neg (f k)
  unfolding series
  neg_at f k = refl

  pub mul_at : (f g : ℕ → A) (k : ℕ) → series.mul f g k ≡ sum o (suc k) (λ i. o.mul (f i) (g (k - i)))
  unfolding series
  mul_at f g k = refl

  pub θ_at : (f : ℕ → A) (k : ℕ) → θ f k ≡ o.mul (nat o k) (f k)
  unfolding θ
  θ_at f k = refl

module _ {A : Type 0} {o : Ops A} (s : Semi o) where
  open o use {zero as 𝟘, one as 𝟙, add as ◌⊕◌, mul as ◌⊗◌}

  infixl 60 ◌⊕◌
  infixl 70 ◌⊗◌
  open series o use {add as ◌+ˢ◌, mul as ◌*ˢ◌}

  infixl 60 ◌+ˢ◌
  infixl 70 ◌*ˢ◌
  pub mul-zero : (f g : ℕ → A) → (f *ˢ g) 0 ≡ f 0 ⊗ g 0
  mul-zero f g = mul_at o f g 0 ∙ sum_one s (λ i. f i ⊗ g (0 - i))

  pub mul_suc : (f g : ℕ → A) (k : ℕ) → (f *ˢ g) (suc k) ≡ f 0 ⊗ g (suc k) ⊕ ((λ i. f (suc i)) *ˢ g) k
  mul_suc f g k = mul_at o f g (suc k) ∙ sum_first s (suc k) _ ∙ simp (mul_at, N.suc-sub-suc, N.sub-zero)

  -- the same from the other end
  mul_last : (f g : ℕ → A) (k : ℕ) → (f *ˢ g) (suc k) ≡ f (suc k) ⊗ g 0 ⊕ (f *ˢ (λ i. g (suc i))) k
  mul_last f g zero = mul_suc f g 0 ∙ rw (mul-zero, mul-zero) (R.add_comm s _ _)
  mul_last f g (suc k) = mul_suc f g (suc k) ∙ rw (mul_last (λ i. f (suc i)) g k, mul_suc f (λ i. g (suc i)) k) (R.add_left_comm s _ _ _)

  -- what vanishes everywhere
  pub mul_none : (f g : ℕ → A) → ((i : ℕ) → f i ≡ 𝟘) → (k : ℕ) → (f *ˢ g) k ≡ 𝟘
  mul_none f g h zero = mul-zero f g ∙ rw (h 0) (R.zero-mul s _)
  mul_none f g h (suc k) = mul_suc f g k ∙ rw (h 0, mul_none (λ i. f (suc i)) g (λ i. h (suc i)) k) (simp (R.semiring, s))

  add_mul_at : (f f' g : ℕ → A) (k : ℕ) → ((λ i. f i ⊕ f' i) *ˢ g) k ≡ (f *ˢ g) k ⊕ (f' *ˢ g) k
  add_mul_at f f' g zero = simp (mul-zero, R.add-mul, s)
  add_mul_at f f' g (suc k) = simp (mul_suc, add_mul_at (λ i. f (suc i)) (λ i. f' (suc i)) g k, R.add-mul, R.sums, s)

  scale_mul_at : (c : A) (f g : ℕ → A) (k : ℕ) → ((λ i. c ⊗ f i) *ˢ g) k ≡ c ⊗ (f *ˢ g) k
  scale_mul_at c f g zero = simp (mul-zero, R.mul_assoc, s)
  scale_mul_at c f g (suc k) = simp (mul_suc, scale_mul_at c (λ i. f (suc i)) g k, R.mul_assoc, R.mul-add, s)

  mul_comm_at : (f g : ℕ → A) (k : ℕ) → (f *ˢ g) k ≡ (g *ˢ f) k
  mul_comm_at f g zero = simp (mul-zero, R.mul_comm, s)
  mul_comm_at f g (suc k) = mul_suc f g k ∙ rw (mul_last g f k, mul_comm_at (λ i. f (suc i)) g k, R.mul_comm s (f 0) (g (suc k)))

  mul_assoc_at : (f g h : ℕ → A) (k : ℕ) → ((f *ˢ g) *ˢ h) k ≡ (f *ˢ (g *ˢ h)) k
  mul_assoc_at f g h zero = simp (mul-zero, R.mul_assoc, s)
  mul_assoc_at f g h (suc k) =
      mul_suc (f *ˢ g) h k
      ∙ simp (mul-zero, mul_suc, add_mul_at, scale_mul_at, R.mul_assoc, R.add_assoc, R.mul-add, s)
      (ap (λ x. f 0 ⊗ (g 0 ⊗ h (suc k)) ⊕ (f 0 ⊗ ((λ i. g (suc i)) *ˢ h) k ⊕ x)) (mul_assoc_at (λ i. f (suc i)) g h k))

  -- c z^t times g: nothing below t, and c · g i at t + i
  pub monomial_under : (c : A) (t : ℕ) (g : ℕ → A) (k : ℕ) → k < t → (monomial o c t *ˢ g) k ≡ 𝟘
  monomial_under c zero g k h = absurd (omega arith)
  monomial_under c (suc t) g zero h = mul-zero _ g ∙ simp (monomial_first, R.zero-mul, s)
  monomial_under c (suc t) g (suc k) h = mul_suc _ g k ∙ simp (monomial_first, monomial_suc, R.zero-mul, R.zero-add, s) (monomial_under c t g k (omega arith))

  pub monomial_over : (c : A) (t : ℕ) (g : ℕ → A) (i : ℕ) → (monomial o c t *ˢ g) (t + i) ≡ c ⊗ g i
  monomial_over c zero g zero = rw N.zero-add (mul-zero _ g ∙ rw (monomial_here o c))
  monomial_over c zero g (suc i) = rw N.zero-add (mul_suc _ g i ∙ rw (monomial_here o c, mul_none _ g (monomial_past o c) i) (R.add-zero s _))
  monomial_over c (suc t) g i = rw N.suc-add (mul_suc _ g (t + i) ∙ simp (monomial_first, monomial_suc, R.zero-mul, R.zero-add, s) (monomial_over c t g i))

  mul_one_at : (f : ℕ → A) (k : ℕ) → (f *ˢ (series o).one) k ≡ f k
  unfolding series
  mul_one_at f k = mul_comm_at f (series o).one k ∙ ap (monomial o 𝟙 0 *ˢ f) (sym (N.zero-add k)) ∙ monomial_over 𝟙 0 f k ∙ R.one-mul s _

  pub series_semi : Semi (series o)
  series_semi = record {
    add_assoc = λ f g h. fun_ext (λ k. simp (add_at, R.add_assoc, s));
    add_comm = λ f g. fun_ext (λ k. simp (add_at, R.add_comm, s));
    add-zero = λ f. fun_ext (λ k. simp (add_at, zero_at, R.add-zero, s));
    mul_assoc = λ f g h. fun_ext (mul_assoc_at f g h);
    mul_comm = λ f g. fun_ext (mul_comm_at f g);
    mul-one = λ f. fun_ext (mul_one_at f);
    mul-zero = λ f. fun_ext (λ k. mul_comm_at f (series o).zero k ∙ mul_none (series o).zero f (zero_at o) k ∙ sym (zero_at o k));
    mul-add = λ f g h. fun_ext (λ k. simp (add_at, mul_at, R.mul-add, sum_add, s));
  }

  -- the derivation
  pub θ_add : (f g : ℕ → A) → θ o (f +ˢ g) ≡ θ o f +ˢ θ o g
  θ_add f g = fun_ext (λ k. simp (θ_at, add_at, R.mul-add, s))

  pub θ_monomial : (c : A) (t : ℕ) → θ o (monomial o c t) ≡ monomial o (nat o t ⊗ c) t
  θ_monomial c t = fun_ext (λ k. θ_at o _ k ∙ by_cases (ℕ_discrete k t)
      (λ e. rw (e, monomial_same o c t, monomial_same o (nat o t ⊗ c) t))
      (λ n. rw (monomial_other o c t k n, monomial_other o (nat o t ⊗ c) t k n) (R.mul-zero s _)))

  pub θ_one : θ o (series o).one ≡ (series o).zero
  unfolding series
  θ_one = θ_monomial 𝟙 0 ∙ fun_ext (λ k. rw (nat_zero o, R.zero-mul s) (monomial_none k))
    where
      monomial_none : (k : ℕ) → monomial o 𝟘 0 k ≡ 𝟘
      monomial_none zero = monomial_here o 𝟘
      monomial_none (suc k) = monomial_past o 𝟘 k

  pub θ_mul : (f g : ℕ → A) → θ o (f *ˢ g) ≡ θ o f *ˢ g +ˢ f *ˢ θ o g
  θ_mul f g = fun_ext (λ k. rw (θ_at, mul_at o f g k, add_at, mul_at o (θ o f) g k, mul_at o f (θ o g) k, mul_sum s) (sum_cong o (suc k) _ _ (term k) ∙ sum_add s (suc k) _ _))
    where
      both : (i j : ℕ) → nat o (i + j) ⊗ (f i ⊗ g j) ≡ θ o f i ⊗ g j ⊕ f i ⊗ θ o g j
      both i j = simp (nat_add, θ_at, R.semiring, s)

      term : (k i : ℕ) → i < suc k → nat o k ⊗ (f i ⊗ g (k - i)) ≡ θ o f i ⊗ g (k - i) ⊕ f i ⊗ θ o g (k - i)
      term k i b = ap (λ x. nat o x ⊗ (f i ⊗ g (k - i))) (omega arith) ∙ both i (k - i)

module _ {A : Type 0} {o : Ops A} (l : Laws o) where
  pub series_laws : Laws (series o)
  series_laws = record {
    is_set = Π_set (λ k. l.is_set);
    semi = series_semi l.semi;
    add_neg = λ f. fun_ext (λ k. simp (add_at, zero_at, neg_at, R.add_neg, l));
  }

  pub θ_neg : (f : ℕ → A) → θ o ((series o).neg f) ≡ (series o).neg (θ o f)
  θ_neg f = fun_ext (λ k. simp (θ_at, neg_at, R.mul_neg, l))

-- Finite sums: by place, g 0 + .. + g (n - 1), and over the members of a list. Each law is an induction on the number of terms or on
-- the list; no law takes more of the numbers than that they are a semiring, and the opposites a ring.
use Rattle.std.specs.Prelude.{◌≡◌, ℕ, zero, suc, ◌+◌, ◌-◌, ◌<◌}
use Rattle.std.proofs.Math.Path.{refl}
use Rattle.std.proofs.Common.{sym, ap, ◌∙◌, arith}
use mathlib.Core.List.Memᴰ.{head as here}
use mathlib.Core.List.Memᴰ.{tail as later}
use mathlib.Core.List.{List, [], ◌∷◌, ◌++◌, map, flat_map, Memᴰ}
use Rattle.std.proofs.Math.Nat as N
use Rattle.algebra.specs.Ring.{Ops, Semi, Laws}
use Rattle.algebra.specs.Ring as R

module _ {A : Type 0} (o : Ops A) where
  -- g 0 + .. + g (n - 1)
  unfoldable pub sum : ℕ → (ℕ → A) → A
  sum zero g = o.zero
  sum (suc n) g = o.add (sum n g) (g n)

  -- the sum of f x over the members x of a list
  unfoldable pub total : {X : Type 0} → List X → (X → A) → A
  total [] f = o.zero
  total (x ∷ xs) f = o.add (f x) (total xs f)

  pub sum_zero : (g : ℕ → A) → sum 0 g ≡ o.zero
  unfolding sum
  sum_zero g = refl

  pub sum_suc : (n : ℕ) (g : ℕ → A) → sum (suc n) g ≡ o.add (sum n g) (g n)
  unfolding sum
  sum_suc n g = refl

  -- equal terms below n
  pub sum_cong : (n : ℕ) (f g : ℕ → A) → ((i : ℕ) → i < n → f i ≡ g i) → sum n f ≡ sum n g
  sum_cong zero f g h = simp sum_zero
  sum_cong (suc n) f g h = rw (sum_suc n f, sum_suc n g, sum_cong n f g (λ i b. h i (omega arith)), h n (omega arith))

  module _ {X : Type 0} where
    pub total_nil : (f : X → A) → total [] f ≡ o.zero
    unfolding total
    total_nil f = refl

    pub total_cons : (x : X) (xs : List X) (f : X → A) → total (x ∷ xs) f ≡ o.add (f x) (total xs f)
    unfolding total
    total_cons x xs f = refl

    pub total_map : {Y : Type 0} (h : Y → X) (ys : List Y) (f : X → A) → total (map h ys) f ≡ total ys (λ y. f (h y))
    unfolding total
    total_map h [] f = refl
    total_map h (y ∷ ys) f = rw (total_map h ys f)

    -- equal terms at the members
    pub total_cong : (xs : List X) (f g : X → A) → ((x : X) → Memᴰ x xs → f x ≡ g x) → total xs f ≡ total xs g
    total_cong [] f g h = rw (total_nil f, total_nil g)
    total_cong (x ∷ xs) f g h = rw (total_cons x xs f, total_cons x xs g, h x (here refl), total_cong xs f g (λ y m. h y (later m)))

module _ {A : Type 0} {o : Ops A} (s : Semi o) where
  open o use {zero as 𝟘, add as ◌⊕◌, mul as ◌⊗◌}

  infixl 60 ◌⊕◌
  infixl 70 ◌⊗◌
  pub sum_zeros : (n : ℕ) → sum o n (λ i. 𝟘) ≡ 𝟘
  sum_zeros zero = simp sum_zero
  sum_zeros (suc n) = simp (sum_suc, sum_zeros n, R.add-zero, s)

  pub sum_one : (g : ℕ → A) → sum o 1 g ≡ g 0
  sum_one g = sum_suc o 0 g ∙ simp (sum_zero, R.zero-add, s)

  pub sum_add : (n : ℕ) (f g : ℕ → A) → sum o n (λ i. f i ⊕ g i) ≡ sum o n f ⊕ sum o n g
  sum_add zero f g = simp (sum_zero, R.add-zero, s)
  sum_add (suc n) f g = simp (sum_suc, sum_add n f g, R.sums, s)

  pub mul_sum : (c : A) (n : ℕ) (f : ℕ → A) → c ⊗ sum o n f ≡ sum o n (λ i. c ⊗ f i)
  mul_sum c zero f = simp (sum_zero, R.mul-zero, s)
  mul_sum c (suc n) f = simp (sum_suc, R.mul-add, mul_sum c n f, s)

  -- the first term apart
  pub sum_first : (n : ℕ) (g : ℕ → A) → sum o (suc n) g ≡ g 0 ⊕ sum o n (λ i. g (suc i))
  sum_first zero g = sum_one g ∙ simp (sum_zero, R.add-zero, s)
  sum_first (suc n) g = sum_suc o (suc n) g ∙ rw (sum_first n g, sum_suc o n (λ i. g (suc i))) (R.add_assoc s _ _ _)

  pub sum_append : (m n : ℕ) (g : ℕ → A) → sum o (m + n) g ≡ sum o m g ⊕ sum o n (λ i. g (m + i))
  sum_append m zero g = simp (N.add-zero, sum_zero, R.add-zero, s)
  sum_append m (suc n) g = simp (N.add-suc, sum_suc, sum_append m n g, R.add_assoc, s)

  -- the other way round
  pub sum_reverse : (n : ℕ) (g : ℕ → A) → sum o (suc n) g ≡ sum o (suc n) (λ i. g (n - i))
  sum_reverse zero g = sum_one g ∙ sym (sum_one (λ i. g (0 - i)))
  sum_reverse (suc n) g = rw (sum_suc o (suc n) g, sum_reverse n g, sum_first (suc n) (λ i. g (suc n - i))) (simp (N.suc-sub-suc, N.sub-zero, R.add_comm, s))

  module _ {X : Type 0} where
    pub total_zeros : (xs : List X) → total o xs (λ x. 𝟘) ≡ 𝟘
    total_zeros [] = simp total_nil
    total_zeros (x ∷ xs) = simp (total_cons, total_zeros xs, R.add-zero, s)

    pub total_append : (xs ys : List X) (f : X → A) → total o (xs ++ ys) f ≡ total o xs f ⊕ total o ys f
    total_append [] ys f = simp (total_nil, R.zero-add, s)
    total_append (x ∷ xs) ys f = total_cons o x (xs ++ ys) f ∙ rw (total_append xs ys f, total_cons o x xs f) (sym (R.add_assoc s _ _ _))

    pub total_add : (xs : List X) (f g : X → A) → total o xs (λ x. f x ⊕ g x) ≡ total o xs f ⊕ total o xs g
    total_add [] f g = simp (total_nil, R.add-zero, s)
    total_add (x ∷ xs) f g = simp (total_cons, total_add xs f g, R.sums, s)

    pub mul_total : (c : A) (xs : List X) (f : X → A) → c ⊗ total o xs f ≡ total o xs (λ x. c ⊗ f x)
    mul_total c [] f = simp (total_nil, R.mul-zero, s)
    mul_total c (x ∷ xs) f = simp (total_cons, R.mul-add, mul_total c xs f, s)

    -- a rectangle by rows and by columns
    pub total_swap : {Y : Type 0} (xs : List X) (ys : List Y) (f : X → Y → A) → total o xs (λ x. total o ys (λ y. f x y)) ≡ total o ys (λ y. total o xs (λ x. f x y))
    total_swap xs [] f = simp (total_nil, total_zeros)
    total_swap xs (y ∷ ys) f = simp (total_cons, total_add, total_swap xs ys f)

    pub total_sum : (xs : List X) (n : ℕ) (f : X → ℕ → A) → total o xs (λ x. sum o n (f x)) ≡ sum o n (λ i. total o xs (λ x. f x i))
    total_sum xs zero f = simp (sum_zero, total_zeros)
    total_sum xs (suc n) f = simp (sum_suc, total_add, total_sum xs n f)

    pub total_flat_map : {Y : Type 0} (h : Y → List X) (ys : List Y) (f : X → A) → total o (flat_map h ys) f ≡ total o ys (λ y. total o (h y) f)
    unfolding flat_map
    total_flat_map h [] f = simp total_nil
    total_flat_map h (y ∷ ys) f = rw (total_append (h y) _ f, total_cons o y ys) (ap (λ x. total o (h y) f ⊕ x) (total_flat_map h ys f))

module _ {A : Type 0} {o : Ops A} (l : Laws o) where
  pub total_neg : {X : Type 0} (xs : List X) (f : X → A) → total o xs (λ x. o.neg (f x)) ≡ o.neg (total o xs f)
  total_neg [] f = simp (total_nil, R.neg_zero, l)
  total_neg (x ∷ xs) f = simp (total_cons, total_neg xs f, R.neg_sum, l)

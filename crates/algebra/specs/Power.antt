-- Powers, and the numbers 1 + .. + 1 and their opposites in a ring. Taking a whole number there keeps sums, products and opposites;
-- with signs that comes down to n - m for m ≤ n, which is the number that makes n with m.
use Rattle.std.specs.Prelude.{◌≡◌, Bool, true, false, not, cond, ℕ, zero, suc, ◌+◌, ◌*◌, ◌-◌, ◌≤◌, ◌<◌, T, ltb, ℤ, neg_ℤ, ◌+ℤ◌, ◌*ℤ◌}
use Rattle.std.proofs.Math.Path.{refl}
use Rattle.std.proofs.Common.{sym, ap, ◌∙◌, ltb→lt, nltb→le}
use Rattle.std.proofs.Math.Nat as N
use Rattle.std.proofs.Math.IntN.{sub_ℕ}
use Rattle.algebra.specs.Ring.{Ops, Semi, Laws}
use Rattle.algebra.specs.Ring as R

module _ {A : Type 0} (o : Ops A) where
  unfoldable pub pow : A → ℕ → A
  pow x zero = o.one
  pow x (suc k) = o.mul x (pow x k)

  -- 1 + .. + 1, n times
  unfoldable pub nat : ℕ → A
  nat zero = o.zero
  nat (suc n) = o.add o.one (nat n)

  unfoldable pub int : ℤ → A
  int (ℤ.pos n) = nat n
  int (ℤ.negsuc n) = o.neg (nat (suc n))

  pub pow-zero : (x : A) → pow x 0 ≡ o.one
  unfolding pow
  pow-zero x = refl

  pub pow_suc : (x : A) (k : ℕ) → pow x (suc k) ≡ o.mul x (pow x k)
  unfolding pow
  pow_suc x k = refl

  pub nat_zero : nat 0 ≡ o.zero
  unfolding nat
  nat_zero = refl

  pub nat_suc : (n : ℕ) → nat (suc n) ≡ o.add o.one (nat n)
  unfolding nat
  nat_suc n = refl

  pub int_pos : (n : ℕ) → int (ℤ.pos n) ≡ nat n
  unfolding int
  int_pos n = refl

  pub int_negsuc : (n : ℕ) → int (ℤ.negsuc n) ≡ o.neg (nat (suc n))
  unfolding int
  int_negsuc n = refl

module _ {A : Type 0} {o : Ops A} (s : Semi o) where
  open o use {one as 𝟙, add as ◌⊕◌, mul as ◌⊗◌}

  infixl 60 ◌⊕◌
  infixl 70 ◌⊗◌
  pub pow-add : (x : A) (i j : ℕ) → pow o x (i + j) ≡ pow o x i ⊗ pow o x j
  pow-add x zero j = simp (N.zero-add, pow-zero, R.one-mul, s)
  pow-add x (suc i) j = simp (N.suc-add, pow_suc, pow-add x i j, R.products, s)

  pub mul_pow : (x y : A) (k : ℕ) → pow o (x ⊗ y) k ≡ pow o x k ⊗ pow o y k
  mul_pow x y zero = simp (pow-zero, R.one-mul, s)
  mul_pow x y (suc k) = simp (pow_suc, mul_pow x y k, R.products, s)

  pub nat_one : nat o 1 ≡ 𝟙
  nat_one = nat_suc o 0 ∙ simp (nat_zero, R.add-zero, s)

  pub nat_add : (i j : ℕ) → nat o (i + j) ≡ nat o i ⊕ nat o j
  nat_add zero j = simp (N.zero-add, nat_zero, R.zero-add, s)
  nat_add (suc i) j = simp (N.suc-add, nat_suc, nat_add i j, R.sums, s)

  pub nat_mul : (i j : ℕ) → nat o (i * j) ≡ nat o i ⊗ nat o j
  nat_mul zero j = simp (N.zero-mul, nat_zero, R.zero-mul, s)
  nat_mul (suc i) j = simp (N.suc-mul, nat_suc, nat_add, nat_mul i j, R.semiring, s)

module _ {A : Type 0} {o : Ops A} (l : Laws o) where
  open o use {add as ◌⊕◌, mul as ◌⊗◌, neg as ⊖◌}

  infixl 60 ◌⊕◌
  infixl 70 ◌⊗◌
  infix 80 ⊖◌
  pub int_neg : (k : ℤ) → int o (neg_ℤ k) ≡ ⊖ int o k
  int_neg (ℤ.pos zero) = simp (int_pos, nat_zero, R.neg_zero, l)
  int_neg (ℤ.pos (suc n)) = simp (int_pos, int_negsuc)
  int_neg (ℤ.negsuc n) = simp (int_pos, int_negsuc, R.neg_neg, l)

  nat_sub : (a b : ℕ) → b ≤ a → nat o (a - b) ≡ nat o a ⊕ ⊖ nat o b
  nat_sub a b h = R.eq_sub l _ _ _ (sym (nat_add l.semi (a - b) b) ∙ ap (nat o) (N.sub-add_cancel h))

  int_sub : (a b : ℕ) → int o (sub_ℕ a b) ≡ nat o a ⊕ ⊖ nat o b
  int_sub a b = go (ltb a b) (ltb→lt a b) (nltb→le a b)
    where
      go : (c : Bool) → (T c → a < b) → (T (not c) → b ≤ a) → int o (cond c (ℤ.negsuc (b - suc a)) (ℤ.pos (a - b))) ≡ nat o a ⊕ ⊖ nat o b
      go true f g = let h : suc a ≤ b = f tt in simp (int_negsuc, nat_suc, nat_sub b (suc a), R.ring, l, l.semi)
      go false f g = let h : b ≤ a = g tt in simp (int_pos, nat_sub a b)

  pub int_add : (i j : ℤ) → int o (i +ℤ j) ≡ int o i ⊕ int o j
  int_add (ℤ.pos a) (ℤ.pos b) = simp (int_pos, nat_add, l.semi)
  int_add (ℤ.pos a) (ℤ.negsuc b) = simp (int_sub, int_pos, int_negsuc)
  int_add (ℤ.negsuc a) (ℤ.pos b) = simp (int_sub, int_pos, int_negsuc, R.add_comm, l.semi)
  int_add (ℤ.negsuc a) (ℤ.negsuc b) = simp (int_negsuc, nat_suc, nat_add, R.ring, l, l.semi)

  pub int_mul : (i j : ℤ) → int o (i *ℤ j) ≡ int o i ⊗ int o j
  int_mul (ℤ.pos a) (ℤ.pos b) = simp (int_pos, nat_mul, l.semi)
  int_mul (ℤ.pos a) (ℤ.negsuc b) = simp (int_neg, int_pos, int_negsuc, nat_mul, R.mul_neg, l, l.semi)
  int_mul (ℤ.negsuc a) (ℤ.pos b) = simp (int_neg, int_pos, int_negsuc, nat_mul, R.neg_mul, l, l.semi)
  int_mul (ℤ.negsuc a) (ℤ.negsuc b) = simp (int_pos, int_negsuc, nat_mul, R.neg_mul, R.mul_neg, R.neg_neg, l, l.semi)

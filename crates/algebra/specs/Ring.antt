-- Commutative semirings and rings: the operations, the laws, and what follows from them at once.
-- A definition takes the operations, `o : Ops A`. A law takes `s : Semi o`, or `l : Laws o` where it needs the opposite, so
-- that what needs no opposite holds of the natural numbers too.
-- `simp (R.semiring, s)`, and `simp (R.ring, l, l.semi)` where there is an opposite, prove an identity between variables of a
-- ring: they multiply out and sort. A concrete ring takes the identity by instantiation.
use Rattle.std.specs.Prelude.{◌≡◌}
use Rattle.std.proofs.Common.{sym, ap, ◌∙◌}

pub record Ops (A : Type 0) : Type 0 where
  pub zero : A
  pub one : A
  pub add : A → A → A
  pub mul : A → A → A
  pub neg : A → A

-- the laws that name no opposite
pub record Semi {A : Type 0} (o : Ops A) : Type 0 where
  pub add_assoc : (a b c : A) → o.add (o.add a b) c ≡ o.add a (o.add b c)
  pub add_comm : (a b : A) → o.add a b ≡ o.add b a
  pub add-zero : (a : A) → o.add a o.zero ≡ a
  pub mul_assoc : (a b c : A) → o.mul (o.mul a b) c ≡ o.mul a (o.mul b c)
  pub mul_comm : (a b : A) → o.mul a b ≡ o.mul b a
  pub mul-one : (a : A) → o.mul a o.one ≡ a
  pub mul-zero : (a : A) → o.mul a o.zero ≡ o.zero
  pub mul-add : (a b c : A) → o.mul a (o.add b c) ≡ o.add (o.mul a b) (o.mul a c)

-- the laws of a commutative ring
pub record Laws {A : Type 0} (o : Ops A) : Type 0 where
  pub is_set : IsSet A
  pub semi : Semi o
  pub add_neg : (a : A) → o.add a (o.neg a) ≡ o.zero

module _ {A : Type 0} {o : Ops A} (s : Semi o) where
  open o use {zero as 𝟘, one as 𝟙, add as ◌⊕◌, mul as ◌⊗◌}

  infixl 60 ◌⊕◌
  infixl 70 ◌⊗◌
  pub add_assoc : (a b c : A) → (a ⊕ b) ⊕ c ≡ a ⊕ (b ⊕ c)
  add_assoc = s.add_assoc

  pub add_comm : (a b : A) → a ⊕ b ≡ b ⊕ a
  add_comm = s.add_comm

  pub add_left_comm : (a b c : A) → a ⊕ (b ⊕ c) ≡ b ⊕ (a ⊕ c)
  add_left_comm a b c = cc (add_assoc a b c, add_assoc b a c, add_comm a b)

  pub add-zero : (a : A) → a ⊕ 𝟘 ≡ a
  add-zero = s.add-zero

  pub zero-add : (a : A) → 𝟘 ⊕ a ≡ a
  zero-add a = add_comm 𝟘 a ∙ add-zero a

  pub mul_assoc : (a b c : A) → (a ⊗ b) ⊗ c ≡ a ⊗ (b ⊗ c)
  mul_assoc = s.mul_assoc

  pub mul_comm : (a b : A) → a ⊗ b ≡ b ⊗ a
  mul_comm = s.mul_comm

  pub mul_left_comm : (a b c : A) → a ⊗ (b ⊗ c) ≡ b ⊗ (a ⊗ c)
  mul_left_comm a b c = cc (mul_assoc a b c, mul_assoc b a c, mul_comm a b)

  pub mul-one : (a : A) → a ⊗ 𝟙 ≡ a
  mul-one = s.mul-one

  pub one-mul : (a : A) → 𝟙 ⊗ a ≡ a
  one-mul a = mul_comm 𝟙 a ∙ mul-one a

  pub mul-zero : (a : A) → a ⊗ 𝟘 ≡ 𝟘
  mul-zero = s.mul-zero

  pub zero-mul : (a : A) → 𝟘 ⊗ a ≡ 𝟘
  zero-mul a = mul_comm 𝟘 a ∙ mul-zero a

  pub mul-add : (a b c : A) → a ⊗ (b ⊕ c) ≡ a ⊗ b ⊕ a ⊗ c
  mul-add = s.mul-add

  pub add-mul : (a b c : A) → (a ⊕ b) ⊗ c ≡ a ⊗ c ⊕ b ⊗ c
  add-mul a b c = cc (mul_comm (a ⊕ b) c, mul-add c a b, mul_comm a c, mul_comm b c)

  pub ruleset sums = (add_assoc, add_comm, add_left_comm, add-zero, zero-add)

  pub ruleset products = (mul_assoc, mul_comm, mul_left_comm, mul-one, one-mul, mul-zero, zero-mul)

  pub ruleset semiring = (sums, products, mul-add, add-mul)

module _ {A : Type 0} {o : Ops A} (l : Laws o) where
  open o use {zero as 𝟘, add as ◌⊕◌, mul as ◌⊗◌, neg as ⊖◌}

  infixl 60 ◌⊕◌
  infixl 70 ◌⊗◌
  infix 80 ⊖◌
  pub add_neg : (a : A) → a ⊕ ⊖ a ≡ 𝟘
  add_neg = l.add_neg

  pub neg_add : (a : A) → ⊖ a ⊕ a ≡ 𝟘
  neg_add a = add_comm l.semi (⊖ a) a ∙ add_neg a

  -- a term and its opposite, with others between them: `simp` sorts the opposites last
  pub cancel : (a b : A) → a ⊕ (⊖ a ⊕ b) ≡ b
  cancel a b = sym (add_assoc l.semi a (⊖ a) b) ∙ rw (add_neg, zero-add l.semi)

  pub cancel_left : (a b : A) → ⊖ a ⊕ (a ⊕ b) ≡ b
  cancel_left a b = sym (add_assoc l.semi (⊖ a) a b) ∙ rw (neg_add, zero-add l.semi)

  pub cancel₁ : (a b : A) → a ⊕ (b ⊕ ⊖ a) ≡ b
  cancel₁ a b = rw (add_left_comm l.semi a b (⊖ a), add_neg, add-zero l.semi)

  pub cancel₂ : (a b c : A) → a ⊕ (b ⊕ (⊖ a ⊕ c)) ≡ b ⊕ c
  cancel₂ a b c = rw (add_left_comm l.semi a b (⊖ a ⊕ c), cancel)

  pub cancel₃ : (a b c : A) → a ⊕ (b ⊕ (c ⊕ ⊖ a)) ≡ b ⊕ c
  cancel₃ a b c = rw (add_left_comm l.semi a b (c ⊕ ⊖ a), cancel₁)

  pub cancel₄ : (a b c d : A) → a ⊕ (b ⊕ (c ⊕ (⊖ a ⊕ d))) ≡ b ⊕ (c ⊕ d)
  cancel₄ a b c d = rw (add_left_comm l.semi a b (c ⊕ (⊖ a ⊕ d)), cancel₂)

  -- what is added on both sides may go
  pub add_cancel : (a b c : A) → a ⊕ b ≡ a ⊕ c → b ≡ c
  add_cancel a b c e = sym (cancel_left a b) ∙ ap (λ x. ⊖ a ⊕ x) e ∙ cancel_left a c

  -- there is one opposite
  pub neg_unique : (a b : A) → a ⊕ b ≡ 𝟘 → b ≡ ⊖ a
  neg_unique a b e = add_cancel a b (⊖ a) (e ∙ sym (add_neg a))

  pub neg_neg : (a : A) → ⊖ ⊖ a ≡ a
  neg_neg a = sym (neg_unique (⊖ a) a (neg_add a))

  pub neg_zero : ⊖ 𝟘 ≡ 𝟘
  neg_zero = sym (neg_unique 𝟘 𝟘 (add-zero l.semi 𝟘))

  pub neg_sum : (a b : A) → ⊖ (a ⊕ b) ≡ ⊖ a ⊕ ⊖ b
  neg_sum a b = sym (neg_unique (a ⊕ b) (⊖ a ⊕ ⊖ b) (simp (sums, l.semi, cancel₂, add_neg)))

  pub mul_neg : (a b : A) → a ⊗ ⊖ b ≡ ⊖ (a ⊗ b)
  mul_neg a b = neg_unique (a ⊗ b) (a ⊗ ⊖ b) (sym (mul-add l.semi a b (⊖ b)) ∙ rw (add_neg, mul-zero l.semi))

  pub neg_mul : (a b : A) → ⊖ a ⊗ b ≡ ⊖ (a ⊗ b)
  neg_mul a b = mul_comm l.semi (⊖ a) b ∙ mul_neg b a ∙ rw (mul_comm l.semi b a)

  -- a part of a sum goes over to the other side
  pub eq_sub : (a b c : A) → a ⊕ b ≡ c → a ≡ c ⊕ ⊖ b
  eq_sub a b c e = sym (rw (← e) (add_assoc l.semi a b (⊖ b) ∙ rw (add_neg, add-zero l.semi)))

  -- the opposite of a sum changes places with a part of the sum
  pub neg_swap : (a b c : A) → a ≡ ⊖ (b ⊕ c) → b ≡ ⊖ (a ⊕ c)
  neg_swap a b c e = rw e (sym (simp (sums, l.semi, neg_sum, neg_neg, add_neg)))

  pub ruleset signs = (neg_neg, neg_zero, neg_sum, mul_neg, neg_mul, add_neg, neg_add, cancel, cancel_left, cancel₁, cancel₂, cancel₃, cancel₄)

pub ruleset ring = (semiring, signs)

-- a field whose equality can be decided
pub record Field {A : Type 0} (o : Ops A) : Type 0 where
  pub laws : Laws o
  pub decide : Discrete A
  pub one_apart : o.one ≡ o.zero → ⊥
  pub inverse : (a : A) → (a ≡ o.zero → ⊥) → (b : A) × (o.mul a b ≡ o.one)

-- x can be cancelled
abbrev pub Cancels : {A : Type 0} (o : Ops A) → A → Type 0
Cancels {A} o x = (y z : A) → o.mul x y ≡ o.mul x z → y ≡ z

module _ {A : Type 0} {o : Ops A} (s : Semi o) where
  -- an inverse undoes what it is the inverse of
  pub undo : (x y w : A) → o.mul x y ≡ o.one → o.mul x (o.mul y w) ≡ w
  undo x y w e = sym (mul_assoc s x y w) ∙ ap (λ z. o.mul z w) e ∙ one-mul s w

  -- what has an inverse can be cancelled
  pub cancels : (x y : A) → o.mul x y ≡ o.one → Cancels o x
  cancels x y e u v h = sym (undo y x u back) ∙ ap (o.mul y) h ∙ undo y x v back
    where
      back : o.mul y x ≡ o.one
      back = mul_comm s y x ∙ e

module _ {A : Type 0} {o : Ops A} (F : Field o) where
  -- no zero divisors
  pub product_apart : (a b : A) → (a ≡ o.zero → ⊥) → (b ≡ o.zero → ⊥) → o.mul a b ≡ o.zero → ⊥
  product_apart a b na nb e =
      let i = F.inverse a na in
      nb (cancels F.laws.semi a i.0 i.1 b o.zero (e ∙ sym (mul-zero F.laws.semi a)))

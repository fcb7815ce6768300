-- The whole numbers as a ring, with a decision of equality that computes, and their map into any other ring.
-- The library has sums, products by one more and by one less, but no distributive or associative law of products: both go by
-- induction up and down from 0.
use Rattle.std.specs.Prelude.{◌≡◌, ℕ, zero, suc, ℤ, pos, negsuc, neg_ℤ, ◌+ℤ◌, ◌*ℤ◌}
use Rattle.std.proofs.Common.{sym, ap, ap₂, ◌∙◌}
use Rattle.std.proofs.Math.Decide.{ℕ_discrete}
use Rattle.std.proofs.Math.IntN.{pos-ne-negsuc, suc_ℤ, pred_ℤ, ℤ_set, +ℤ_assoc, +ℤ_comm, +ℤ_idl, +ℤ_idr, +ℤ_invr, +ℤ_invl}
use Rattle.std.proofs.Math.IntN.{+ℤ-neg_ℤ_cancel, neg_ℤ-+ℤ, *ℤ_comm, *ℤ-one, zero-*ℤ, suc_ℤ-*ℤ, pred_ℤ-*ℤ}
use Rattle.std.proofs.Math.IntN as I
use Rattle.algebra.specs.Ring.{Ops, Laws}
use Rattle.algebra.specs.Hom.{Hom}
use Rattle.algebra.specs.Power.{nat_zero, nat_one, int, int_pos, int_neg, int_add, int_mul}

-- the library's decision is shut
dec_pos : (m n : ℕ) → Dec (m ≡ n) → Dec (pos m ≡ pos n)
dec_pos m n (yes p) = yes (ap pos p)
dec_pos m n (no f) = no (λ q. f (cc))

dec_negsuc : (m n : ℕ) → Dec (m ≡ n) → Dec (negsuc m ≡ negsuc n)
dec_negsuc m n (yes p) = yes (ap negsuc p)
dec_negsuc m n (no f) = no (λ q. f (cc))

unfoldable pub ℤ_eq : Discrete ℤ
unfolding ℕ_discrete dec_pos dec_negsuc
ℤ_eq (pos m) (pos n) = dec_pos m n (ℕ_discrete m n)
ℤ_eq (pos m) (negsuc n) = no (pos-ne-negsuc m n)
ℤ_eq (negsuc m) (pos n) = no (λ p. pos-ne-negsuc n m (sym p))
ℤ_eq (negsuc m) (negsuc n) = dec_negsuc m n (ℕ_discrete m n)

unfoldable pub integers : Ops ℤ
integers = record { zero = pos 0; one = pos 1; add = ◌+ℤ◌; mul = ◌*ℤ◌; neg = neg_ℤ }

+ℤ_left_comm : (a b c : ℤ) → a +ℤ (b +ℤ c) ≡ b +ℤ (a +ℤ c)
+ℤ_left_comm a b c = sym (+ℤ_assoc a b c) ∙ ap (λ x. x +ℤ c) (+ℤ_comm a b) ∙ +ℤ_assoc b a c

shuffle : (x y b c : ℤ) → x +ℤ y +ℤ (b +ℤ c) ≡ x +ℤ b +ℤ (y +ℤ c)
shuffle x y b c = +ℤ_assoc x y (b +ℤ c) ∙ ap (λ z. x +ℤ z) (+ℤ_left_comm y b c) ∙ sym (+ℤ_assoc x b (y +ℤ c))

-- a law of a first factor, from 0 up and down by ones
every : (P : ℤ → Type 0) → P (ℤ.pos 0) → ((m : ℤ) → P m → P (suc_ℤ m)) → ((m : ℤ) → P m → P (pred_ℤ m)) → (m : ℤ) → P m
every P z up down (ℤ.pos zero) = z
every P z up down (ℤ.pos (suc n)) = up (ℤ.pos n) (every P z up down (ℤ.pos n))
every P z up down (ℤ.negsuc zero) = down (ℤ.pos 0) z
every P z up down (ℤ.negsuc (suc n)) = down (ℤ.negsuc n) (every P z up down (ℤ.negsuc n))

*ℤ-+ℤ : (a b c : ℤ) → a *ℤ (b +ℤ c) ≡ a *ℤ b +ℤ a *ℤ c
*ℤ-+ℤ a b c = every (λ m. m *ℤ (b +ℤ c) ≡ m *ℤ b +ℤ m *ℤ c)
    (zero-*ℤ (b +ℤ c) ∙ sym (ap₂ ◌+ℤ◌ (zero-*ℤ b) (zero-*ℤ c)))
    (λ m h. suc_ℤ-*ℤ m (b +ℤ c) ∙ ap (λ x. x +ℤ (b +ℤ c)) h ∙ shuffle (m *ℤ b) (m *ℤ c) b c ∙ sym (ap₂ ◌+ℤ◌ (suc_ℤ-*ℤ m b) (suc_ℤ-*ℤ m c)))
    (λ m h. pred_ℤ-*ℤ m (b +ℤ c) ∙ ap₂ ◌+ℤ◌ h (neg_ℤ-+ℤ b c) ∙ shuffle (m *ℤ b) (m *ℤ c) (neg_ℤ b) (neg_ℤ c)
    ∙ sym (ap₂ ◌+ℤ◌ (pred_ℤ-*ℤ m b) (pred_ℤ-*ℤ m c)))
    a

+ℤ-*ℤ : (a b c : ℤ) → (a +ℤ b) *ℤ c ≡ a *ℤ c +ℤ b *ℤ c
+ℤ-*ℤ a b c = *ℤ_comm (a +ℤ b) c ∙ *ℤ-+ℤ c a b ∙ ap₂ ◌+ℤ◌ (*ℤ_comm c a) (*ℤ_comm c b)

negℤ-*ℤ : (a b : ℤ) → neg_ℤ a *ℤ b ≡ neg_ℤ (a *ℤ b)
negℤ-*ℤ a b =
    sym (+ℤ-neg_ℤ_cancel (neg_ℤ a *ℤ b) (a *ℤ b))
    ∙ ap (λ x. x +ℤ neg_ℤ (a *ℤ b)) (sym (+ℤ-*ℤ (neg_ℤ a) a b) ∙ ap (λ x. x *ℤ b) (+ℤ_invl a) ∙ zero-*ℤ b)
    ∙ +ℤ_idl (neg_ℤ (a *ℤ b))

*ℤ_assoc : (a b c : ℤ) → a *ℤ b *ℤ c ≡ a *ℤ (b *ℤ c)
*ℤ_assoc a b c = every (λ m. m *ℤ b *ℤ c ≡ m *ℤ (b *ℤ c))
    (ap (λ x. x *ℤ c) (zero-*ℤ b) ∙ zero-*ℤ c ∙ sym (zero-*ℤ (b *ℤ c)))
    (λ m h. ap (λ x. x *ℤ c) (suc_ℤ-*ℤ m b) ∙ +ℤ-*ℤ (m *ℤ b) b c ∙ ap (λ x. x +ℤ b *ℤ c) h ∙ sym (suc_ℤ-*ℤ m (b *ℤ c)))
    (λ m h. ap (λ x. x *ℤ c) (pred_ℤ-*ℤ m b) ∙ +ℤ-*ℤ (m *ℤ b) (neg_ℤ b) c ∙ ap₂ ◌+ℤ◌ h (negℤ-*ℤ b c) ∙ sym (pred_ℤ-*ℤ m (b *ℤ c)))
    a

pub integers_laws : Laws integers
unfolding integers
integers_laws = record {
  is_set = ℤ_set;
  semi = record {
    add_assoc = +ℤ_assoc;
    add_comm = +ℤ_comm;
    add-zero = +ℤ_idr;
    mul_assoc = *ℤ_assoc;
    mul_comm = *ℤ_comm;
    mul-one = unfold I.one in *ℤ-one;
    mul-zero = λ a. *ℤ_comm a (pos 0) ∙ zero-*ℤ a;
    mul-add = *ℤ-+ℤ;
  };
  add_neg = +ℤ_invr;
}

pub int_hom : {A : Type 0} {o : Ops A} (l : Laws o) → Hom integers o (int o)
unfolding integers
int_hom {o = o} l = record {
  at_zero = int_pos o 0 ∙ nat_zero o;
  at_one = int_pos o 1 ∙ nat_one l.semi;
  at_add = int_add l;
  at_mul = int_mul l;
  at_neg = int_neg l;
}

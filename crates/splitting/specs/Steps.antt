-- Multiplication by y modulo a monic f, on sequences of coefficients. `times_y` is y times a polynomial, reduced by f, and `act k u v`
-- is u(y) v for a u with k coefficients. Their laws stand in `StepLaws`.
use Rattle.std.specs.Prelude.{◌≡◌}
use Rattle.std.proofs.Math.Path.{refl}
use Prim.Native.Nat.{ℕ, zero, suc}
use Rattle.algebra.specs.Ring.{Ops}
use Rattle.algebra.specs.Series.{series}
use Rattle.polynomials.specs.Divisors.{Below}

-- f is monic of degree n
pub record Monic {A : Type 0} (o : Ops A) (f : ℕ → A) (n : ℕ) : Type 0 where
  pub lead : f n ≡ o.one
  pub above : Below o f (suc n)

-- a monic polynomial of degree m + 1
pub record Modulus {A : Type 0} (o : Ops A) : Type 0 where
  pub f : ℕ → A
  pub m : ℕ
  pub monic : Monic o f (suc m)

module _ {A : Type 0} (o : Ops A) where
  open o use {zero as 𝟘, one as 𝟙, add as ◌⊕◌, mul as ◌⊗◌, neg as ⊖◌}

  infixl 60 ◌⊕◌
  infixl 70 ◌⊗◌
  infix 80 ⊖◌
  -- x times u
  unfoldable pub shift : (ℕ → A) → ℕ → A
  shift u zero = 𝟘
  shift u (suc i) = u i

  -- a times u
  unfoldable pub scale : A → (ℕ → A) → ℕ → A
  scale a u i = a ⊗ u i

  pub scale_at : (a : A) (u : ℕ → A) (i : ℕ) → scale a u i ≡ a ⊗ u i
  unfolding scale
  scale_at a u i = refl

  module _ (g : Modulus o) where
    -- y times u, where u is of degree m at most: what comes to x^(m+1) is taken off with f
    unfoldable pub times_y : (ℕ → A) → ℕ → A
    times_y u i = shift u i ⊕ ⊖ (u g.m ⊗ g.f i)

    -- u 0 v + u 1 y v + .. + u (k - 1) y^(k-1) v
    unfoldable pub act : ℕ → (ℕ → A) → (ℕ → A) → ℕ → A
    act zero u v = (series o).zero
    act (suc k) u v = (series o).add (scale (u 0) v) (times_y (act k (λ i. u (suc i)) v))

    pub act_zero : (u v : ℕ → A) → act 0 u v ≡ (series o).zero
    unfolding act
    act_zero u v = refl

    pub act_suc : (k : ℕ) (u v : ℕ → A) → act (suc k) u v ≡ (series o).add (scale (u 0) v) (times_y (act k (λ i. u (suc i)) v))
    unfolding act
    act_suc k u v = refl

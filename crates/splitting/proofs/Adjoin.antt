-- The ring A[y]/(f) for a monic f of positive degree: the polynomials of smaller degree, where u times v is u(y) v. A is in it, as the
-- constants, and f has the root y there. That it is a ring, and what holds in it, stands in `AdjoinLaws`.
use Rattle.std.specs.Prelude.{◌≡◌}
use Rattle.std.proofs.Math.Path.{sym, ap, fun_ext}
use Rattle.std.proofs.Common.{◌∙◌, arith}
use mathlib.Core.HLevel.{Π_set, Π_prop, Σ_set, Σ_prop_path, prop→set}
use Prim.Native.Nat.{ℕ, suc}
use Rattle.algebra.specs.Ring.{Ops, Laws, Cancels}
use Rattle.algebra.specs.Ring as R
use Rattle.algebra.specs.Hom.{Hom}
use Rattle.algebra.specs.Series.{series, series_laws, monomial, zero_at}
use Rattle.polynomials.specs.Divisors.{Below}
use Rattle.polynomials.proofs.Bounds.{below_one, below_neg}
use Rattle.splitting.specs.Steps.{Modulus, scale, times_y, act, act_zero, act_suc}
use Rattle.splitting.proofs.StepLaws.{zero_scale, one_scale, add_scale, mul_scale, neg_scale, act_linear, act_comm, act_one, act_modulus}
use Rattle.splitting.proofs.StepLaws.{scale_below, sum_below, times_y_below, act_below}

-- the sequences that end before n
abbrev pub Remainder : {A : Type 0} (o : Ops A) (n : ℕ) → Type 0
Remainder {A} o n = (u : ℕ → A) × Below o u n

module _ {A : Type 0} {o : Ops A} (l : Laws o) where
  module _ (g : Modulus o) where
    open series o use {zero as 0ˢ, one as 1ˢ, add as ◌+ˢ◌, neg as -ˢ◌}

    infixl 60 ◌+ˢ◌
    infix 80 -ˢ◌
    -- the classes modulo f
    abbrev pub K : Type 0
    K = Remainder o (suc g.m)

    -- u(y) v
    abbrev pub times : (ℕ → A) → (ℕ → A) → ℕ → A
    times u v = act o g (suc g.m) u v

    pub one_below : Below o 1ˢ (suc g.m)
    one_below i h = below_one o i (omega arith)

    -- the class of a polynomial with k coefficients
    unfoldable pub class : ℕ → (ℕ → A) → K
    class k u = (act o g k u 1ˢ, act_below l g k u one_below)

    -- a constant
    unfoldable pub const : A → K
    const a = (scale o a 1ˢ, scale_below l g a one_below)

    -- the root of f
    unfoldable pub root : K
    root = (times_y o g 1ˢ, times_y_below l g one_below)

    unfoldable pub ops : Ops K
    ops = record {
      zero = (0ˢ, λ i h. zero_at o i);
      one = (1ˢ, one_below);
      add = λ u v. (u.0 +ˢ v.0, sum_below l g u.1 v.1);
      mul = λ u v. (times u.0 v.0, act_below l g (suc g.m) u.0 v.1);
      neg = λ u. (-ˢ u.0, below_neg l u.1);
    }

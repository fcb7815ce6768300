-- The laws of A[y]/(f) are what `act` commutes with. It is free over A, coefficient by coefficient, so different constants differ and
-- what cancels in A cancels there.
use Rattle.std.specs.Prelude.{◌≡◌}
use Rattle.std.proofs.Math.Path.{sym, ap, fun_ext}
use Rattle.std.proofs.Common.{◌∙◌, arith}
use mathlib.Core.HLevel.{Π_set, Π_prop, Σ_set, Σ_prop_path, prop→set}
use Prim.Native.Nat.{ℕ, suc}
use Rattle.algebra.specs.Ring.{Ops, Laws, Cancels}
use Rattle.algebra.specs.Ring as R
use Rattle.algebra.specs.Hom.{Hom}
use Rattle.algebra.specs.Series.{series, series_laws, monomial, zero_at}
use Rattle.polynomials.specs.Divisors.{Below}
use Rattle.polynomials.proofs.Bounds.{below_one, below_neg}
use Rattle.splitting.specs.Steps.{Modulus, scale, times_y, act, act_zero, act_suc}
use Rattle.splitting.proofs.StepLaws.{zero_scale, one_scale, add_scale, mul_scale, neg_scale, act_linear, act_comm, act_one, act_modulus}
use Rattle.splitting.proofs.StepLaws.{scale_below, sum_below, times_y_below, act_below}
use Rattle.splitting.specs.Extension.{Extension}
use Rattle.splitting.proofs.Adjoin.{Remainder, K, times, one_below, class, const, root, ops}

module _ {A : Type 0} {o : Ops A} (l : Laws o) where
  -- they are equal as sequences are
  pub remainder_path : {n : ℕ} (u v : Remainder o n) → u.0 ≡ v.0 → u ≡ v
  remainder_path u v p = Σ_prop_path (λ x. Π_prop λ i. Π_prop λ h. l.is_set _ _) {u = u} {v = v} p

  remainder_set : {n : ℕ} → IsSet (Remainder o n)
  remainder_set = Σ_set (Π_set λ i. l.is_set) (λ x. prop→set (Π_prop λ i. Π_prop λ h. l.is_set _ _))

  module _ (g : Modulus o) where
    open series o use {zero as 0ˢ, one as 1ˢ, add as ◌+ˢ◌, neg as -ˢ◌}

    infixl 60 ◌+ˢ◌
    infix 80 -ˢ◌
    times_one : (u : K l g) → times l g u.0 1ˢ ≡ u.0
    times_one u = act_one l g (suc g.m) (omega arith) u.0 u.1

    times_swap : (u v w : ℕ → A) → times l g u (times l g v w) ≡ times l g v (times l g u w)
    times_swap = act_comm l g (suc g.m) (suc g.m)

    -- u v is u(y) v(y) 1
    times_comm : (u v : K l g) → times l g u.0 v.0 ≡ times l g v.0 u.0
    times_comm u v = ap (times l g u.0) (sym (times_one v)) ∙ times_swap u.0 v.0 1ˢ ∙ ap (times l g v.0) (times_one u)

    pub laws : Laws (ops l g)
    unfolding ops
    laws = record {
      is_set = remainder_set;
      semi = record {
        add_assoc = λ u v w. remainder_path _ _ ((series_laws l).semi.add_assoc u.0 v.0 w.0);
        add_comm = λ u v. remainder_path _ _ ((series_laws l).semi.add_comm u.0 v.0);
        add-zero = λ u. remainder_path _ _ ((series_laws l).semi.add-zero u.0);
        mul_assoc = λ u v w. remainder_path _ _ (times_comm ((ops l g).mul u v) w ∙ times_swap w.0 u.0 v.0 ∙ ap (times l g u.0) (times_comm w v));
        mul_comm = λ u v. remainder_path _ _ (times_comm u v);
        mul-one = λ u. remainder_path _ _ (times_one u);
        mul-zero = λ u. remainder_path _ _ (act_linear l g (suc g.m) u.0).at_zero;
        mul-add = λ u v w. remainder_path _ _ ((act_linear l g (suc g.m) u.0).at_add v.0 w.0);
      };
      add_neg = λ u. remainder_path _ _ ((series_laws l).add_neg u.0);
    }

    -- the root times v is the times_y of v, and a constant times v a multiple of v
    root_mul : (v : K l g) → ((ops l g).mul (root l g) v).0 ≡ times_y o g v.0
    unfolding ops root
    root_mul v = times_comm (root l g) v ∙ (act_linear l g (suc g.m) v.0).at_times_y 1ˢ ∙ ap (times_y o g) (times_one v)

    const_mul : (a : A) (v : K l g) → ((ops l g).mul (const l g a) v).0 ≡ scale o a v.0
    unfolding ops const
    const_mul a v = times_comm (const l g a) v ∙ (act_linear l g (suc g.m) v.0).at_scale a 1ˢ ∙ ap (scale o a) (times_one v)

    pub const_hom : Hom o (ops l g) (const l g)
    unfolding ops const
    const_hom = record {
      at_zero = remainder_path _ _ (zero_scale l 1ˢ);
      at_one = remainder_path _ _ (one_scale l 1ˢ);
      at_add = λ a b. remainder_path _ _ (add_scale l a b 1ˢ);
      at_mul = λ a b. remainder_path _ _ (mul_scale l a b 1ˢ ∙ sym (const_mul a (const l g b)));
      at_neg = λ a. remainder_path _ _ (neg_scale l a 1ˢ);
    }

    -- different numbers are different constants
    pub const_injective : (a b : A) → const l g a ≡ const l g b → a ≡ b
    unfolding const scale series monomial
    const_injective a b e = sym (R.mul-one l.semi a) ∙ ap (λ (u : K l g). u.0 0) e ∙ R.mul-one l.semi b

    -- what can be cancelled in A can be cancelled here
    pub const_cancels : (a : A) → Cancels o a → Cancels (ops l g) (const l g a)
    unfolding scale
    const_cancels a c u v e = remainder_path u v (fun_ext (λ i. c (u.0 i) (v.0 i) (ap (λ (w : ℕ → A). w i) multiples)))
      where
        multiples : scale o a u.0 ≡ scale o a v.0
        multiples = sym (const_mul a u) ∙ ap (λ (w : K l g). w.0) e ∙ const_mul a v

    -- the class of u by that of the rest of u
    pub class_zero : (u : ℕ → A) → class l g 0 u ≡ (ops l g).zero
    unfolding ops class
    class_zero u = remainder_path _ _ (act_zero o g u 1ˢ)

    pub class_suc : (k : ℕ) (u : ℕ → A) → class l g (suc k) u ≡ (ops l g).add (const l g (u 0)) ((ops l g).mul (root l g) (class l g k (λ i. u (suc i))))
    unfolding ops class const
    class_suc k u = remainder_path _ _ (act_suc o g k u 1ˢ ∙ ap (λ w. scale o (u 0) 1ˢ +ˢ w) (sym (root_mul (class l g k (λ i. u (suc i))))))

    -- f is 0
    pub class_modulus : class l g (suc (suc g.m)) g.f ≡ (ops l g).zero
    unfolding ops class
    class_modulus = remainder_path _ _ (act_modulus l g)

-- it is a ring over A
abbrev pub adjoined : {A : Type 0} {o : Ops A} (l : Laws o) (g : Modulus o) → Extension o
adjoined l g = record {
  carrier = K l g;
  ops = ops l g;
  laws = laws l g;
  embed = const l g;
  hom = const_hom l g;
  injective = const_injective l g;
  cancels = const_cancels l g;
}

-- Every linear map that commutes with `times_y` commutes with `act`, and `act` itself is such a map, so u(y) v(y) w = v(y) u(y) w. For u
-- of smaller degree than f, u(y) 1 is u; and f(y) 1 is 0.
use Rattle.std.specs.Prelude.{◌≡◌}
use Rattle.std.proofs.Math.Path.{refl, sym, ap, ap₂, fun_ext}
use Rattle.std.proofs.Common.{◌∙◌, arith}
use Prim.Native.Nat.{ℕ, zero, suc, ◌≤◌}
use Rattle.std.proofs.Math.Decide.{ℕ_discrete}
use Rattle.algebra.specs.Ring.{Ops, Laws}
use Rattle.algebra.specs.Ring as R
use Rattle.algebra.specs.Series.{series, series_laws, monomial, zero_at, add_at}
use Rattle.polynomials.specs.Divisors.{Below}
use Rattle.splitting.specs.Steps.{Monic, Modulus, shift, scale, scale_at, times_y, act, act_zero, act_suc}

module _ {A : Type 0} {o : Ops A} (l : Laws o) where
  open o use {zero as 𝟘, one as 𝟙, add as ◌⊕◌, mul as ◌⊗◌, neg as ⊖◌}

  infixl 60 ◌⊕◌
  infixl 70 ◌⊗◌
  infix 80 ⊖◌
  open series o use {zero as 0ˢ, one as 1ˢ, add as ◌+ˢ◌}

  infixl 60 ◌+ˢ◌
  abbrev ls : Laws (series o)
  ls = series_laws l

  -- the laws of a multiple
  scale_add : (a : A) (u v : ℕ → A) → scale o a (u +ˢ v) ≡ scale o a u +ˢ scale o a v
  unfolding scale series
  scale_add a u v = fun_ext (λ i. R.mul-add l.semi a (u i) (v i))

  scale_zero : (a : A) → scale o a 0ˢ ≡ 0ˢ
  unfolding scale series
  scale_zero a = fun_ext (λ i. R.mul-zero l.semi a)

  scale_comm : (a b : A) (u : ℕ → A) → scale o a (scale o b u) ≡ scale o b (scale o a u)
  unfolding scale
  scale_comm a b u = fun_ext (λ i. R.mul_left_comm l.semi a b (u i))

  pub zero_scale : (u : ℕ → A) → scale o 𝟘 u ≡ 0ˢ
  unfolding scale series
  zero_scale u = fun_ext (λ i. R.zero-mul l.semi (u i))

  pub one_scale : (u : ℕ → A) → scale o 𝟙 u ≡ u
  unfolding scale
  one_scale u = fun_ext (λ i. R.one-mul l.semi (u i))

  pub add_scale : (a b : A) (u : ℕ → A) → scale o (a ⊕ b) u ≡ scale o a u +ˢ scale o b u
  unfolding scale series
  add_scale a b u = fun_ext (λ i. R.add-mul l.semi a b (u i))

  pub mul_scale : (a b : A) (u : ℕ → A) → scale o (a ⊗ b) u ≡ scale o a (scale o b u)
  unfolding scale
  mul_scale a b u = fun_ext (λ i. R.mul_assoc l.semi a b (u i))

  pub neg_scale : (a : A) (u : ℕ → A) → scale o (⊖ a) u ≡ (series o).neg (scale o a u)
  unfolding scale series
  neg_scale a u = fun_ext (λ i. R.neg_mul l a (u i))

  -- x times 0, a sum, a multiple
  shift_zero : (i : ℕ) → shift o 0ˢ i ≡ 𝟘
  unfolding shift series
  shift_zero zero = refl
  shift_zero (suc i) = refl

  shift_add : (u v : ℕ → A) (i : ℕ) → shift o (u +ˢ v) i ≡ shift o u i ⊕ shift o v i
  unfolding shift series
  shift_add u v zero = sym (R.add-zero l.semi 𝟘)
  shift_add u v (suc i) = refl

  shift_scale : (a : A) (u : ℕ → A) (i : ℕ) → shift o (scale o a u) i ≡ a ⊗ shift o u i
  unfolding shift scale
  shift_scale a u zero = sym (R.mul-zero l.semi a)
  shift_scale a u (suc i) = refl

  module _ (g : Modulus o) where
    -- the linear maps that commute with the times_y
    pub record Linear (φ : (ℕ → A) → ℕ → A) : Type 0 where
      pub at_zero : φ 0ˢ ≡ 0ˢ
      pub at_add : (u v : ℕ → A) → φ (u +ˢ v) ≡ φ u +ˢ φ v
      pub at_scale : (a : A) (u : ℕ → A) → φ (scale o a u) ≡ scale o a (φ u)
      pub at_times_y : (u : ℕ → A) → φ (times_y o g u) ≡ times_y o g (φ u)

    at_act : {φ : (ℕ → A) → ℕ → A} → Linear φ → (k : ℕ) (u v : ℕ → A) → φ (act o g k u v) ≡ act o g k u (φ v)
    at_act h zero u v = simp (act_zero, h.at_zero)
    at_act h (suc k) u v = simp (act_suc, h.at_add, h.at_scale, h.at_times_y, at_act h k (λ i. u (suc i)) v)

    -- the times_y is one
    times_y_zero : times_y o g 0ˢ ≡ 0ˢ
    times_y_zero = fun_ext (λ i. unfold times_y in simp (times_y, shift_zero, zero_at, R.ring, l, l.semi))

    times_y_add : (u v : ℕ → A) → times_y o g (u +ˢ v) ≡ times_y o g u +ˢ times_y o g v
    times_y_add u v = fun_ext (λ i. unfold times_y in simp (times_y, shift_add, add_at, R.ring, l, l.semi))

    times_y_scale : (a : A) (u : ℕ → A) → times_y o g (scale o a u) ≡ scale o a (times_y o g u)
    times_y_scale a u = fun_ext (λ i. unfold times_y in simp (times_y, shift_scale, scale_at, R.ring, l, l.semi))

    times_y_linear : Linear (times_y o g)
    times_y_linear = record { at_zero = times_y_zero; at_add = times_y_add; at_scale = times_y_scale; at_times_y = λ u. refl }

    -- and so is w(y)
    pub act_linear : (k : ℕ) (w : ℕ → A) → Linear (act o g k w)
    act_linear k w = record { at_zero = none k w; at_add = add k w; at_scale = mul k w; at_times_y = λ u. sym (at_act times_y_linear k w u) }
      where
        none : (k : ℕ) (w : ℕ → A) → act o g k w 0ˢ ≡ 0ˢ
        none zero w = simp act_zero
        none (suc k) w = simp (act_suc, none k, scale_zero, times_y_zero, R.add-zero, ls.semi)

        add : (k : ℕ) (w u v : ℕ → A) → act o g k w (u +ˢ v) ≡ act o g k w u +ˢ act o g k w v
        add zero w u v = simp (act_zero, R.add-zero, ls.semi)
        add (suc k) w u v = simp (act_suc, add k, scale_add, times_y_add, R.sums, ls.semi)

        mul : (k : ℕ) (w : ℕ → A) (a : A) (u : ℕ → A) → act o g k w (scale o a u) ≡ scale o a (act o g k w u)
        mul zero w a u = simp (act_zero, scale_zero)
        mul (suc k) w a u = simp (act_suc, mul k, scale_add, times_y_scale, scale_comm)

    pub act_comm : (j k : ℕ) (u v w : ℕ → A) → act o g j u (act o g k v w) ≡ act o g k v (act o g j u w)
    act_comm j k u v w = at_act (act_linear j u) k v w

    -- u is u 0 and x times the rest of u
    taken_apart : (u : ℕ → A) → scale o (u 0) 1ˢ +ˢ shift o (λ i. u (suc i)) ≡ u
    unfolding shift scale series monomial
    taken_apart u = fun_ext go
      where
        go : (i : ℕ) → u 0 ⊗ monomial o 𝟙 0 i ⊕ shift o (λ i. u (suc i)) i ≡ u i
        go zero = simp (R.ring, l.semi)
        go (suc i) = simp (R.ring, l.semi)

    -- while nothing comes to x^(m+1), y times u is x times u
    times_y_low : (u : ℕ → A) → u g.m ≡ 𝟘 → times_y o g u ≡ shift o u
    unfolding times_y
    times_y_low u e = fun_ext (λ i. rw (times_y, e) (simp (R.ring, l, l.semi)))

    -- u(y) 1 is u, where the degree of u is below that of f
    pub act_one : (k : ℕ) → k ≤ suc g.m → (u : ℕ → A) → Below o u k → act o g k u 1ˢ ≡ u
    act_one zero h u b = act_zero o g u 1ˢ ∙ fun_ext (λ i. zero_at o i ∙ sym (b i (omega arith)))
    act_one (suc k) h u b =
        act_suc o g k u 1ˢ
        ∙ ap (λ w. scale o (u 0) 1ˢ +ˢ times_y o g w) (act_one k (omega arith) (λ i. u (suc i)) (λ i q. b (suc i) (omega arith)))
        ∙ ap (λ w. scale o (u 0) 1ˢ +ˢ w) (times_y_low (λ i. u (suc i)) (b (suc g.m) h))
        ∙ taken_apart u

    -- f(y) is 0: what its leading coefficient brings to x^(m+1) takes off all of f
    pub act_modulus : act o g (suc (suc g.m)) g.f 1ˢ ≡ 0ˢ
    unfolding times_y series
    act_modulus =
        act_suc o g (suc g.m) g.f 1ˢ
        ∙ ap (λ w. scale o (g.f 0) 1ˢ +ˢ times_y o g w) (act_one (suc g.m) (omega arith) (λ i. g.f (suc i)) (λ i q. g.monic.above (suc i) (omega arith)))
        ∙ fun_ext gone
      where
        both : (a b c : A) → a ⊕ (b ⊕ ⊖ (𝟙 ⊗ c)) ≡ a ⊕ b ⊕ ⊖ c
        both a b c = simp (R.semiring, l.semi)

        gone : (i : ℕ) → scale o (g.f 0) 1ˢ i ⊕ (shift o (λ j. g.f (suc j)) i ⊕ ⊖ (g.f (suc g.m) ⊗ g.f i)) ≡ 𝟘
        gone i =
            ap (λ a. scale o (g.f 0) 1ˢ i ⊕ (shift o (λ j. g.f (suc j)) i ⊕ ⊖ (a ⊗ g.f i))) g.monic.lead
            ∙ both _ _ _
            ∙ ap (λ (w : ℕ → A). w i ⊕ ⊖ g.f i) (taken_apart g.f)
            ∙ R.add_neg l (g.f i)

    -- what stays below m + 1
    pub scale_below : (a : A) {u : ℕ → A} {n : ℕ} → Below o u n → Below o (scale o a u) n
    unfolding scale
    scale_below a b i h = ap (λ x. a ⊗ x) (b i h) ∙ R.mul-zero l.semi a

    pub sum_below : {u v : ℕ → A} {n : ℕ} → Below o u n → Below o v n → Below o (u +ˢ v) n
    unfolding series
    sum_below b c i h = ap₂ ◌⊕◌ (b i h) (c i h) ∙ R.add-zero l.semi 𝟘

    pub times_y_below : {u : ℕ → A} → Below o u (suc g.m) → Below o (times_y o g u) (suc g.m)
    unfolding times_y shift
    times_y_below b zero h = absurd (omega arith)
    times_y_below {u} b (suc j) h = elim (ℕ_discrete j g.m) [
      | yes e ↦ rw (times_y, e, g.monic.lead) (simp (R.ring, l, l.semi))
      | no e ↦ rw (times_y, b j (omega arith), g.monic.above (suc j) (omega arith)) (simp (R.ring, l, l.semi))
    ]

    pub act_below : (k : ℕ) (u : ℕ → A) {v : ℕ → A} → Below o v (suc g.m) → Below o (act o g k u v) (suc g.m)
    act_below zero u b = rw act_zero (λ i h. zero_at o i)
    act_below (suc k) u b = rw act_suc (sum_below (scale_below (u 0) b) (times_y_below (act_below k (λ i. u (suc i)) b)))

-- Two polynomials over a field have u f + v g = 1 for some u and v, or a common divisor that is not a constant. So f and g are
-- coprime exactly if u f + v g = 1 has a solution, and it can be decided whether they are.
-- By Euclid's algorithm: r = f + t g has fewer coefficients than g, and what is found of g and r goes back to f and g.
use Rattle.std.specs.Prelude.{◌≡◌, List, map, ◌⊎◌, ◌↔◌, ℕ, zero, suc, ◌+◌, ◌-◌, ◌≤◌, ◌<◌}
use Rattle.std.proofs.Common.{sym, ap, ◌∙◌, inl, inr, ⊎_elim, zero-add, arith}
use Rattle.std.proofs.Math.Path.{fun_ext}
use Rattle.std.proofs.Math.Decide.{dec_le, map_dec}
use Rattle.algebra.specs.Ring.{Ops, Laws, Field}
use Rattle.algebra.specs.Ring as R
use Rattle.algebra.specs.Natural.{strong}
use Rattle.algebra.specs.Series.{series, series_laws, monomial, monomial_here, monomial_past, monomial_over, one_at, add_at}
use Rattle.residues.specs.Prime.{Prime}
use Rattle.residues.specs.Residues.{ring, reduce}
use Rattle.residues.specs.Field.{field}
use Rattle.polynomials.specs.Divisors.{Below, Divides, Coprime, Simple}
use Rattle.polynomials.proofs.Bounds.{below_zero, below_monomial, below_add, below_mul, below_neg, below_monic, below_derivative}
use Rattle.polynomials.proofs.Euclid.{Degree, degree, x_degree, undone, divides_add, divides_mul, divides_self, divides_zero, coprime_by_bezout, not_coprime_by_divisor}

module _ {A : Type 0} (o : Ops A) where
  -- u f + v g = 1
  pub record Bezout (f g : ℕ → A) : Type 0 where
    pub u : ℕ → A
    pub v : ℕ → A
    pub u_bound : ℕ
    pub v_bound : ℕ
    pub u_below : Below o u u_bound
    pub v_below : Below o v v_bound
    pub one : (series o).add ((series o).mul u f) ((series o).mul v g) ≡ (series o).one

  -- a common divisor that is not a constant
  pub record Shared (f g : ℕ → A) : Type 0 where
    pub divisor : ℕ → A
    pub top : ℕ
    pub some : 0 < top
    pub has_degree : Degree o divisor top
    pub left : Divides o divisor f
    pub right : Divides o divisor g

  -- f + t g has no coefficient from x^k on
  record Reduction (f g : ℕ → A) (k : ℕ) : Type 0 where
    t : ℕ → A
    bound : ℕ
    below : Below o t bound
    less : Below o ((series o).add f ((series o).mul t g)) k

-- identities of any ring
module _ {A : Type 0} {o : Ops A} (l : Laws o) where
  open o use {zero as 𝟘, one as 𝟙, add as ◌⊕◌, mul as ◌⊗◌, neg as ⊖◌}

  infixl 60 ◌⊕◌
  infixl 70 ◌⊗◌
  infix 80 ⊖◌
  nothing : (x y : A) → x ⊕ 𝟘 ⊗ y ≡ x
  nothing x y = simp (R.semiring, l.semi)

  twice : (x y s t : A) → x ⊕ s ⊗ y ⊕ t ⊗ y ≡ x ⊕ (s ⊕ t) ⊗ y
  twice x y s t = simp (R.semiring, l.semi)

  collect : (x y t u v : A) → v ⊗ x ⊕ (u ⊕ v ⊗ t) ⊗ y ≡ u ⊗ y ⊕ v ⊗ (x ⊕ t ⊗ y)
  collect x y t u v = simp (R.semiring, l.semi)

  cancelled : (x y z : A) → z ⊗ y ≡ 𝟙 → x ⊕ ⊖ (x ⊗ y) ⊗ z ≡ 𝟘
  cancelled x y z e =
      ap (λ w. x ⊕ w) (R.neg_mul l (x ⊗ y) z ∙ ap ⊖◌ (R.mul_assoc l.semi x y z ∙ ap (λ w. x ⊗ w) (R.mul_comm l.semi y z ∙ e) ∙ R.mul-one l.semi x))
      ∙ R.add_neg l x

module _ {A : Type 0} {o : Ops A} (F : Field o) where
  open series o use {add as ◌+ˢ◌, mul as ◌*ˢ◌}

  infixl 60 ◌+ˢ◌
  infixl 70 ◌*ˢ◌
  l : Laws o
  l = F.laws

  lˢ : Laws (series o)
  lˢ = series_laws F.laws

  -- the coefficient of x^n goes
  lead : (f g : ℕ → A) (n k : ℕ) → k ≤ n → Below o f (suc n) → Degree o g k → (c : A) × Below o (f +ˢ monomial o c (n - k) *ˢ g) n
  lead f g n k h b e =
      let i = F.inverse (g k) e.top in
      let c = o.neg (o.mul (f n) i.0) in (
        c,
        λ j q.
            let place : n - k + (j - (n - k)) ≡ j = omega arith in
            add_at o f _ j ∙ ap (λ x. o.add (f j) x) (ap (monomial o c (n - k) *ˢ g) (sym place) ∙ monomial_over l.semi c (n - k) g (j - (n - k)))
            ∙ elim (dec_le (suc n) j) [
              | yes r ↦ rw (b j r, e.above (j - (n - k)) (omega arith)) (R.zero-add l.semi _ ∙ R.mul-zero l.semi c)
              | no r ↦ let top : j ≡ n = omega arith in let same : n - (n - k) ≡ k = omega arith in rw (top, same) (cancelled l (f n) i.0 (g k) i.1)
            ],
      )

  short : (f g : ℕ → A) (k : ℕ) → Below o f k → Reduction o f g k
  short f g k b = record { t = (series o).zero; bound = 0; below = below_zero o; less = rw (nothing lˢ f g) b }

  divide : (g : ℕ → A) (k : ℕ) → Degree o g k → (n : ℕ) (f : ℕ → A) → Below o f n → Reduction o f g k
  divide g k e zero f b = short f g k (λ j h. b j (omega arith))
  divide g k e (suc n) f b = elim (dec_le k n) [
    | no q ↦ short f g k (λ j h. b j (omega arith))
    | yes q ↦
        let c = lead f g n k q b e in
        let s = monomial o c.0 (n - k) in
        let r = divide g k e n (f +ˢ s *ˢ g) c.1 in
        record {
          t = s +ˢ r.t;
          bound = suc (n - k) + r.bound;
          below = below_add l.semi (below_monomial o c.0 (n - k)) r.below;
          less = rw (twice lˢ f g s r.t) at r.less;
        }
  ]

  -- where g is zero
  bezout_zero : (f g : ℕ → A) (n : ℕ) → Below o f n → ((j : ℕ) → g j ≡ o.zero) → Bezout o f g ⊎ Shared o f g
  bezout_zero f g n b z = by (degree F f n b)
    where
      unit : (c : A) → o.mul c (f 0) ≡ o.one → Below o f 1 → (k : ℕ) → o.mul c (f k) ≡ (series o).one k
      unit c q e zero = q ∙ sym (one_at o 0 ∙ monomial_here o _)
      unit c q e (suc k) = ap (o.mul c) (e (suc k) (omega arith)) ∙ R.mul-zero l.semi c ∙ sym (one_at o (suc k) ∙ monomial_past o _ k)

      by : ((j : ℕ) → f j ≡ o.zero) ⊎ ((m : ℕ) × Degree o f m) → Bezout o f g ⊎ Shared o f g
      by (inl y) = inr (record { divisor = monomial o o.one 1; top = 1; some = omega arith; has_degree = x_degree F; left = divides_zero l.semi y _; right = divides_zero l.semi z _ })
      by (inr (zero, e)) =
          let i = F.inverse (f 0) e.top in
          inl (record {
            u = monomial o i.0 0;
            v = (series o).zero;
            u_bound = 1;
            v_bound = 0;
            u_below = below_monomial o i.0 0;
            v_below = below_zero o;
            one = nothing lˢ _ g ∙ fun_ext (λ k.
                ap (monomial o i.0 0 *ˢ f) (sym (zero-add k)) ∙ monomial_over l.semi i.0 0 f k
                ∙ unit i.0 (R.mul_comm l.semi _ _ ∙ i.1) e.above k);
          })
      by (inr (suc m, e)) = inr (record { divisor = f; top = suc m; some = omega arith; has_degree = e; left = divides_self l.semi f; right = divides_zero l.semi z f })

  -- from g and the remainder to f and g
  back_up : {f g : ℕ → A} {k : ℕ} (r : Reduction o f g k) → Bezout o g (f +ˢ r.t *ˢ g) ⊎ Shared o g (f +ˢ r.t *ˢ g) → Bezout o f g ⊎ Shared o f g
  back_up {f} {g} r (inl z) = inl (record {
    u = z.v;
    v = z.u +ˢ z.v *ˢ r.t;
    u_bound = z.v_bound;
    v_bound = z.u_bound + (z.v_bound + r.bound);
    u_below = z.v_below;
    v_below = below_add l.semi z.u_below (below_mul l.semi z.v_bound r.bound _ _ z.v_below r.below);
    one = collect lˢ f g r.t z.u z.v ∙ z.one;
  })
  back_up {f} {g} r (inr z) = inr (record {
    divisor = z.divisor;
    top = z.top;
    some = z.some;
    has_degree = z.has_degree;
    left = rw (undone lˢ f g r.t) at (divides_add l.semi z.right (divides_mul l.semi (below_neg l r.below) z.left));
    right = z.left;
  })

  pub bezout_or_shared : (m : ℕ) (f g : ℕ → A) (n : ℕ) → Below o f n → Below o g m → Bezout o f g ⊎ Shared o f g
  bezout_or_shared = strong (λ m. (f g : ℕ → A) (n : ℕ) → Below o f n → Below o g m → Bezout o f g ⊎ Shared o f g) (λ m ih f g n b c. elim (degree F g m c) [
    | inl z ↦ bezout_zero f g n b z
    | inr (k, e) ↦
        let inside : k < m = elim (dec_le m k) [ yes q ↦ absurd (e.top (c k q)) | no q ↦ omega arith ] in
        let r = divide g k e n f b in
        back_up r (ih k inside g (f +ˢ r.t *ˢ g) (suc k) e.above r.less)
  ])

  shared_not : {f g : ℕ → A} → Shared o f g → Coprime o f g → ⊥
  shared_not z = not_coprime_by_divisor z.some z.has_degree z.left z.right

  pub coprime_bezout : {f g : ℕ → A} {n m : ℕ} → Below o f n → Below o g m → Coprime o f g ↔ Bezout o f g
  coprime_bezout {f} {g} {n} {m} b c = (
    λ h. ⊎_elim (λ z. z) (λ z. absurd (shared_not z h)) (bezout_or_shared m f g n b c),
    λ z. coprime_by_bezout F z.u_below z.v_below z.one,
  )

  pub decide_coprime : {f g : ℕ → A} {n m : ℕ} → Below o f n → Below o g m → Dec (Coprime o f g)
  decide_coprime {f} {g} {n} {m} b c = ⊎_elim (λ z. yes ((coprime_bezout b c).1 z)) (λ z. no (shared_not z)) (bezout_or_shared m f g n b c)

-- the mark can be decided
pub decide_simple : {p : ℕ} → Prime p → (c : List ℕ) → Dec (Simple p c)
decide_simple {p} h c =
    let ends = below_monic (ring p) (map (reduce p) c) in
    map_dec (λ z. record { coprime = z }) (λ s. s.coprime) (decide_coprime (field h) ends (below_derivative (field h).laws.semi ends))

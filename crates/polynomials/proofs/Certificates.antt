-- Tests that compute, on words modulo p: u f + v g = 1 shows that f and g are coprime, and a common divisor that they are not.
-- What is tested is the definition's own product, over `residues p`, at each place up to where both sides end; `reduce` carries
-- it to the ring. Lists of coefficients start with the constant, but for the monic f and d, which are listed as in document 01.
use Rattle.std.specs.Prelude.{◌≡◌, refl, Bool, true, false, ◌&&◌, List, map, ◌↔◌, ℕ, zero, suc, ◌+◌, ◌<◌, eqb}
use Rattle.std.proofs.Common.{sym, ap, ap₂, ◌∙◌, arith, ltb-true, eqb-true}
use Rattle.std.proofs.Math.Path.{fun_ext}
use Rattle.std.proofs.lemmas.Bool.{false≢true}
use Rattle.std.proofs.Math.Bool.{and-eq-true_iff}
use Rattle.std.proofs.Math.Decide.{dec_le, ℕ_discrete}
use Rattle.std.proofs.Math.Dec.{ltb}
use Rattle.std.proofs.Math.ListN.{length}
use Rattle.std.proofs.lemmas.List.{length-map}
use Rattle.algebra.specs.Ring.{Semi}
use Rattle.algebra.specs.Power.{nat}
use Rattle.algebra.specs.Sum.{sum}
use Rattle.algebra.specs.Series.{series, monomial, add_at}
use Rattle.residues.specs.Prime.{Prime}
use Rattle.residues.specs.Residues.{Z, residues, ring, reduce, reduce_hom}
use Rattle.residues.specs.Field.{field}
use Rattle.polynomials.specs.Divisors.{Below, Divides, Coprime, derivative, poly, monic, Simple}
use Rattle.polynomials.proofs.Bounds.{below_add, below_mul, below_one, below_poly, below_monic, below_derivative}
use Rattle.polynomials.proofs.Euclid.{monic_degree, coprime_by_bezout, not_coprime_by_divisor}
use Rattle.polynomials.proofs.Carried.{hom_poly, hom_monic, hom_derivative, hom_series_one, hom_series_mul}

-- whether two sequences agree at every place below n
unfoldable pub agree : ℕ → (ℕ → ℕ) → (ℕ → ℕ) → Bool
agree zero f g = true
agree (suc n) f g = eqb (f n) (g n) && agree n f g

agree_at : (n : ℕ) (f g : ℕ → ℕ) → agree n f g ≡ true → (k : ℕ) → k < n → f k ≡ g k
unfolding agree
agree_at zero f g e k h = absurd (omega arith)
agree_at (suc n) f g e k h =
    let t = (and-eq-true_iff (eqb (f n) (g n)) (agree n f g)).0 e in
    elim (ℕ_discrete k n) [ yes q ↦ rw q (eqb-true _ _ t.0) | no q ↦ agree_at n f g t.1 k (omega arith) ]

module _ (p : ℕ) where
  open series (residues p) use {add as ◌+ˢ◌, mul as ◌*ˢ◌}

  infixl 60 ◌+ˢ◌
  infixl 70 ◌*ˢ◌
  -- u f + v g is 1, where f ends before n and g before m
  unfoldable pub unit_test : ℕ → ℕ → (ℕ → ℕ) → (ℕ → ℕ) → List ℕ → List ℕ → Bool
  unfolding agree residues series monomial sum poly
  unit_test n m f g u v =
      agree (length u + n + (length v + m) + 1) (poly (residues p) u *ˢ f +ˢ poly (residues p) v *ˢ g) (series (residues p)).one

  -- x^k + d1 x^(k-1) + .. + dk, times a, is f, where f ends before n
  unfoldable pub product_test : ℕ → (ℕ → ℕ) → List ℕ → List ℕ → Bool
  unfolding agree residues series sum poly monic
  product_test n f d a = agree (suc (length d) + length a + n) (monic (residues p) d *ˢ poly (residues p) a) f

  -- it is not a constant, and with a it makes f, with b it makes g
  unfoldable pub common_test : ℕ → ℕ → (ℕ → ℕ) → (ℕ → ℕ) → List ℕ → List ℕ → List ℕ → Bool
  unfolding product_test
  common_test n m f g d a b = ltb 0 (length d) && (product_test n f d a && product_test m g d b)

-- what shows the mark of a polynomial
pub data Certificate : Type 0 where
  bezout : (u v : List ℕ) → Certificate
  common : (d a b : List ℕ) → Certificate

abbrev pub shown : Certificate → Bool
shown (bezout u v) = true
shown (common d a b) = false

-- the two tests for x^n + c1 x^(n-1) + .. + cn and its derivative
unfoldable pub mark_test : ℕ → List ℕ → Certificate → Bool
unfolding unit_test common_test monic derivative nat
mark_test p c (bezout u v) = unit_test p (suc (length c)) (length c) (monic (residues p) c) (derivative (residues p) (monic (residues p) c)) u v
mark_test p c (common d a b) = common_test p (suc (length c)) (length c) (monic (residues p) c) (derivative (residues p) (monic (residues p) c)) d a b

module _ {p : ℕ} (h : Prime p) where
  s : Semi (ring p)
  s = (field h).laws.semi

  -- f, as words, stands for F, which ends before n
  record Lifts (f : ℕ → ℕ) (F : ℕ → Z p) (n : ℕ) : Type 0 where
    at : (k : ℕ) → reduce p (f k) ≡ F k
    ends : Below (ring p) F n

  listed : (l : List ℕ) → Lifts (poly (residues p) l) (poly (ring p) (map (reduce p) l)) (length l)
  listed l = record { at = hom_poly (reduce_hom p) l; ends = rw (length-map l (reduce p)) at (below_poly (ring p) (map (reduce p) l)) }

  monic_listed : (l : List ℕ) → Lifts (monic (residues p) l) (monic (ring p) (map (reduce p) l)) (suc (length l))
  monic_listed l = record { at = hom_monic (reduce_hom p) l; ends = rw (length-map l (reduce p)) at (below_monic (ring p) (map (reduce p) l)) }

  derived : {f : ℕ → ℕ} {F : ℕ → Z p} {n : ℕ} → Lifts f F (suc n) → Lifts (derivative (residues p) f) (derivative (ring p) F) n
  derived {f} t = record {
    at = λ k. hom_derivative (reduce_hom p) f k ∙ ap (λ F. derivative (ring p) F k) (fun_ext t.at);
    ends = below_derivative s t.ends;
  }

  added : {f g : ℕ → ℕ} {F G : ℕ → Z p} {n m : ℕ} → Lifts f F n → Lifts g G m → Lifts ((series (residues p)).add f g) ((series (ring p)).add F G) (n + m)
  added {f} {g} {F} {G} t u = record {
    at = λ k. ap (reduce p) (add_at (residues p) f g k) ∙ (reduce_hom p).at_add _ _ ∙ ap₂ (ring p).add (t.at k) (u.at k) ∙ sym (add_at (ring p) F G k);
    ends = below_add s t.ends u.ends;
  }

  multiplied : {f g : ℕ → ℕ} {F G : ℕ → Z p} {n m : ℕ} → Lifts f F n → Lifts g G m → Lifts ((series (residues p)).mul f g) ((series (ring p)).mul F G) (n + m)
  multiplied {f} {g} {F} {G} {n} {m} t u = record {
    at = λ k. hom_series_mul (reduce_hom p) f g k ∙ ap₂ (λ x y. (series (ring p)).mul x y k) (fun_ext t.at) (fun_ext u.at);
    ends = below_mul s n m F G t.ends u.ends;
  }

  same : {f g : ℕ → ℕ} {F G : ℕ → Z p} {n m : ℕ} → Lifts f F n → Lifts g G m → agree (n + m) f g ≡ true → F ≡ G
  same {f} {g} {n = n} {m = m} t u e =
      fun_ext (λ k. elim (dec_le (n + m) k) [
        | yes q ↦ t.ends k (omega arith) ∙ sym (u.ends k (omega arith))
        | no q ↦ sym (t.at k) ∙ ap (reduce p) (agree_at (n + m) f g e k (omega arith)) ∙ u.at k
      ])

  unit_right : {f g : ℕ → ℕ} {F G : ℕ → Z p} {n m : ℕ} → Lifts f F n → Lifts g G m → (u v : List ℕ) → unit_test p n m f g u v ≡ true → Coprime (ring p) F G
  unfolding unit_test
  unit_right t r u v e =
      coprime_by_bezout (field h) (listed u).ends (listed v).ends
      (same (added (multiplied (listed u) t) (multiplied (listed v) r)) one e)
    where
      one : Lifts (series (residues p)).one (series (ring p)).one 1
      one = record { at = hom_series_one (reduce_hom p); ends = below_one (ring p) }

  product_right : {f : ℕ → ℕ} {F : ℕ → Z p} {n : ℕ} → Lifts f F n → (d a : List ℕ) → product_test p n f d a ≡ true → Divides (ring p) (monic (ring p) (map (reduce p) d)) F
  unfolding product_test
  product_right t d a e = record {
    quotient = poly (ring p) (map (reduce p) a);
    bound = length a;
    below = (listed a).ends;
    product = same (multiplied (monic_listed d) (listed a)) t e;
  }

  common_right : {f g : ℕ → ℕ} {F G : ℕ → Z p} {n m : ℕ} → Lifts f F n → Lifts g G m → (d a b : List ℕ) → common_test p n m f g d a b ≡ true → Coprime (ring p) F G → ⊥
  unfolding common_test
  common_right {f} {g} {n = n} {m = m} t r d a b e =
      let e₁ = (and-eq-true_iff (ltb 0 (length d)) (product_test p n f d a && product_test p m g d b)).0 e in
      let e₂ = (and-eq-true_iff (product_test p n f d a) (product_test p m g d b)).0 e₁.1 in
      not_coprime_by_divisor (ltb-true 0 (length d) e₁.0) (rw (length-map d (reduce p)) at (monic_degree (field h) (map (reduce p) d)))
      (product_right t d a e₂.0) (product_right r d b e₂.1)

  pub mark_test_right : (c : List ℕ) (k : Certificate) → mark_test p c k ≡ true → (shown k ≡ true) ↔ Simple p c
  unfolding mark_test
  mark_test_right c (bezout u v) e = (λ t. record { coprime = unit_right (monic_listed c) (derived (monic_listed c)) u v e }, λ s. refl)
  mark_test_right c (common d a b) e = (λ t. absurd (false≢true t), λ s. absurd (common_right (monic_listed c) (derived (monic_listed c)) d a b e s.coprime))

-- Every monic polynomial over a commutative ring has all its roots in a larger ring.
-- In A[y]/(f) the polynomial f has the root y. Horner's sums at y are the coefficients of f divided by x - y, since they are those
-- of f as a series divided by 1 - y z, and the last one, f(y), is 0. That quotient has a smaller degree, and so on.
use Rattle.std.specs.Prelude.{◌≡◌, List, [], ◌∷◌, map, ℕ, zero, suc, ◌+◌, length}
use Rattle.std.proofs.Math.Path.{refl, ap, fun_ext}
use Rattle.std.proofs.Common.{sym, ap₂, ◌∙◌, arith}
use Rattle.std.proofs.lemmas.Simd.{map-map}
use Rattle.std.proofs.lemmas.List.{length-map}
use Rattle.algebra.specs.Ring.{Ops, Laws}
use Rattle.algebra.specs.Ring as R
use Rattle.algebra.specs.Newton.{coeff, coeff_cons, times_root}
use Rattle.algebra.specs.Hom.{Hom}
use Rattle.polynomials.specs.Divisors.{Below, poly, monic}
use Rattle.polynomials.proofs.Bounds.{below_poly, below_monic, monic_top}
use Rattle.definition.specs.Product.{listed, product}
use Rattle.definition.proofs.Products.{length_listed, length_product}
use Rattle.splitting.specs.Values.{value_at, value_first, value_next, divided, divided_past, hom_times_root}
use Rattle.splitting.specs.Lists.{leading, monic_leading, listed_leading, product_leading, same_list, hom_leading}
use Rattle.splitting.specs.Steps.{Monic, Modulus}
use Rattle.splitting.specs.Extension.{itself, further}
use Rattle.splitting.specs.Splitting.{Splitting}
use Rattle.splitting.proofs.Adjoin.{K, ops, const, root, class}
use Rattle.splitting.proofs.AdjoinLaws.{laws, const_hom, class_zero, class_suc, class_modulus, adjoined}

-- division of x^(m+1) + c1 x^m + .. by x - y, where y is a root
module _ {A : Type 0} {o : Ops A} (l : Laws o) (c : List A) (m : ℕ) (long : length c ≡ suc m) (y : A)
    (zero_at_y : value_at o (leading o c) (suc m) y ≡ o.zero) where
  quotient : List A
  quotient = listed m (λ k. value_at o (leading o c) k y)

  length_quotient : length quotient ≡ m
  unfolding quotient
  length_quotient = length_listed m _

  times_quotient : (k : ℕ) → times_root o y (leading o quotient) k ≡ leading o c k
  unfolding quotient
  times_quotient k = ap (λ b. times_root o y b k) (fun_ext (listed_leading o m _ first past)) ∙ divided l (leading o c) y k
    where
      first : value_at o (leading o c) 0 y ≡ o.one
      first = value_first l (leading o c) y ∙ unfold poly in refl

      past : Below o (λ k. value_at o (leading o c) k y) (suc m)
      past = divided_past l (leading o c) (suc m) y (λ j h. below_poly o (o.one ∷ c) j (omega arith)) zero_at_y

  -- y and the roots of the quotient are the roots, in whatever ring these are
  one_root_more : {B : Type 0} {q : Ops B} (k : Laws q) {φ : A → B} → Hom o q φ → (rs : List B) → map φ quotient ≡ product q rs → map φ c ≡ product q (φ y ∷ rs)
  one_root_more {q = q} k {φ} h rs e = same_list q _ _ (length-map c φ ∙ long ∙ sym lengths) each
    where
      lengths : length (product q (φ y ∷ rs)) ≡ suc m
      lengths = length_product k (φ y ∷ rs) ∙ ap suc (sym (length_product k rs) ∙ ap length (sym e) ∙ length-map quotient φ ∙ length_quotient)

      others : (j : ℕ) → φ (leading o quotient j) ≡ coeff q rs j
      others j = hom_leading h quotient j ∙ ap (λ d. leading q d j) e ∙ product_leading k rs j

      each : (i : ℕ) → leading q (map φ c) i ≡ leading q (product q (φ y ∷ rs)) i
      each i =
          sym (hom_leading h c i) ∙ ap φ (sym (times_quotient i)) ∙ hom_times_root h y (leading o quotient) i
          ∙ ap (λ b. times_root q (φ y) b i) (fun_ext others)
          ∙ sym (product_leading k (φ y ∷ rs) i ∙ coeff_cons q (φ y) rs i)

module _ {A : Type 0} {o : Ops A} (l : Laws o) where
  -- f = x^(m+1) + c1 x^m + .. as a modulus
  modulus_monic : (c : List A) (m : ℕ) → length c ≡ suc m → Monic o (monic o c) (suc m)
  modulus_monic c m e = record { lead = ap (monic o c) (sym e) ∙ monic_top o c; above = λ j h. below_monic o c j (omega arith) }

  abbrev modulus : (c : List A) (m : ℕ) → length c ≡ suc m → Modulus o
  modulus c m e = record { f = monic o c; m = m; monic = modulus_monic c m e }

  -- the class of a polynomial is its value at the root: Horner's rule again
  class_value : (g : Modulus o) (c : ℕ → A) (n : ℕ) (u : ℕ → A) → ((k i : ℕ) → k + i ≡ n → u i ≡ c k)
      → class l g (suc n) u ≡ value_at (ops l g) (λ k. const l g (c k)) n (root l g)
  class_value g c zero u h =
      class_suc l g 0 u ∙ ap₂ (λ a v. (ops l g).add (const l g a) ((ops l g).mul (root l g) v)) (h 0 0 refl) (class_zero l g _)
      ∙ none (laws l g) _ _ ∙ sym (value_first (laws l g) _ _)
    where
      none : {B : Type 0} {q : Ops B} (k : Laws q) (a b : B) → q.add a (q.mul b q.zero) ≡ a
      none k a b = simp (R.semiring, k.semi)
  class_value g c (suc n) u h =
      class_suc l g (suc n) u
      ∙ ap₂ (λ a v. (ops l g).add (const l g a) ((ops l g).mul (root l g) v))
      (h (suc n) 0 (omega arith))
      (class_value g c n (λ i. u (suc i)) (λ k i e. h k (suc i) (omega arith)))
      ∙ sym (value_next (laws l g) _ n _)

  -- f has the root y
  root_value : (c : List A) (m : ℕ) (e : length c ≡ suc m)
      → let g = modulus c m e in value_at (ops l g) (λ k. const l g (leading o c k)) (suc m) (root l g) ≡ (ops l g).zero
  root_value c m e =
      let g = modulus c m e in
      sym (class_value g (leading o c) (suc m) (monic o c) (λ k i h. monic_leading o c k i (h ∙ sym e))) ∙ class_modulus l g

splitting_of : (n : ℕ) {A : Type 0} {o : Ops A} (l : Laws o) (c : List A) → length c ≡ n → Splitting o c
unfolding product listed
splitting_of zero l [] e = record { ring = itself l; roots = []; factors = refl }
splitting_of zero l (x ∷ c) e = absurd (omega arith)
splitting_of (suc m) {A} {o} l c e = extend (splitting_of m (laws l g) rest (length_quotient (laws l g) d m long (root l g) zero_there))
  where
    g : Modulus o
    g = modulus l c m e

    d : List (K l g)
    d = map (const l g) c

    long : length d ≡ suc m
    long = length-map c (const l g) ∙ e

    zero_there : value_at (ops l g) (leading (ops l g) d) (suc m) (root l g) ≡ (ops l g).zero
    zero_there = ap (λ b. value_at (ops l g) b (suc m) (root l g)) (sym (fun_ext (hom_leading (const_hom l g) c))) ∙ root_value l c m e

    rest : List (K l g)
    rest = quotient (laws l g) d m long (root l g) zero_there

    extend : Splitting (ops l g) rest → Splitting o c
    extend r = record {
      ring = further (adjoined l g) r.ring;
      roots = r.ring.embed (root l g) ∷ r.roots;
      factors =
          sym (map-map r.ring.embed (const l g) c)
          ∙ one_root_more (laws l g) d m long (root l g) zero_there r.ring.laws r.ring.hom r.roots r.factors;
    }

-- every monic polynomial has all its roots in some ring
pub splitting : {A : Type 0} {o : Ops A} (l : Laws o) (c : List A) → Splitting o c
splitting l c = splitting_of (length c) l c refl

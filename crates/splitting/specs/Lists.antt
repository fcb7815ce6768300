-- A monic polynomial by the list of its coefficients c1, .., cn: as a sequence from the leading coefficient down, 1, c1, .., cn, and
-- as one from the constant up, cn, .., c1, 1, which is `monic`. The first is at home with roots and Horner's rule, the second with
-- remainders; each is the other read from the end.
use Rattle.std.specs.Prelude.{◌≡◌, List, ◌∷◌, map, length}
use Rattle.std.proofs.Math.Path.{sym}
use Rattle.std.proofs.Common.{ap, ◌∙◌, arith}
use Prim.Native.Nat.{ℕ, zero, suc, ◌+◌, ◌≤◌}
use Rattle.std.proofs.Math.Decide.{dec_le}
use Rattle.std.proofs.Math.Seq.{ext_get_or}
use Rattle.algebra.specs.Ring.{Ops, Laws}
use Rattle.algebra.specs.Newton.{coeff, coeff_zero, coeff_past}
use Rattle.algebra.specs.Hom.{Hom}
use Rattle.polynomials.specs.Divisors.{Below, poly, monic}
use Rattle.polynomials.proofs.Reversed.{get_d_reverse}
use Rattle.polynomials.proofs.Bounds.{below_poly}
use Rattle.polynomials.proofs.Carried.{hom_poly}
use Rattle.definition.specs.Product.{listed, product}
use Rattle.definition.proofs.Products.{length_listed, get_or_listed}

module _ {A : Type 0} (o : Ops A) where
  -- 1, c1, .., cn, and zeros
  abbrev pub leading : List A → ℕ → A
  leading c = poly o (o.one ∷ c)

  -- the same coefficient from the constant up and from the leading one down
  pub monic_leading : (c : List A) (k i : ℕ) → k + i ≡ length c → monic o c i ≡ leading c k
  unfolding monic poly
  monic_leading c k i e = get_d_reverse (o.one ∷ c) o.zero k i (ap suc e)

  -- lists of one length are equal by their sequences
  pub same_list : (c d : List A) → length c ≡ length d → ((k : ℕ) → leading c k ≡ leading d k) → c ≡ d
  unfolding poly
  same_list c d e h = ext_get_or o.zero c d e (λ i b. h (suc i))

  -- a sequence that begins with 1 and ends at m, by its list
  pub listed_leading : (m : ℕ) (b : ℕ → A) → b 0 ≡ o.one → Below o b (suc m) → (k : ℕ) → leading (listed m b) k ≡ b k
  listed_leading m b e h k = elim (dec_le k m) [
    | yes q ↦ inside k q
    | no q ↦ below_poly o (o.one ∷ listed m b) k (omega (arith, length_listed m b)) ∙ sym (h k (omega arith))
  ]
    where
      inside : (k : ℕ) → k ≤ m → leading (listed m b) k ≡ b k
      inside zero h = unfold poly in sym e
      inside (suc i) h = unfold poly in get_or_listed m b o.zero i h

pub product_leading : {A : Type 0} {o : Ops A} (l : Laws o) (rs : List A) (k : ℕ) → leading o (product o rs) k ≡ coeff o rs k
unfolding product
product_leading {o = o} l rs = listed_leading o (length rs) (coeff o rs) (coeff_zero o rs) (λ j h. coeff_past l rs j h)

pub hom_leading : {A B : Type 0} {o : Ops A} {q : Ops B} {φ : A → B} → Hom o q φ → (c : List A) (k : ℕ) → φ (leading o c k) ≡ leading q (map φ c) k
hom_leading {o = o} {q} {φ} m c k = hom_poly m (o.one ∷ c) k ∙ ap (λ x. poly q (x ∷ map φ c) k) m.at_one

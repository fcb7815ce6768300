-- From the last weight to the first: one place more, and what is counted and multiplied grows by the weight that stands there, as the
-- definitions go from a list to the list with one weight more in front.
use Rattle.std.proofs.Math.Path.{◌≡◌, ◌∙◌}
use Rattle.std.proofs.Common.{sym, ap, filter, add-one, arith, length-drop, drop-cons}
use mathlib.Core.List.{List, [], ◌∷◌}
use Prim.Native.Nat.{ℕ, suc, ◌+◌, ◌*◌, ◌-◌, ◌≤◌, ◌<◌, ◌^◌}
use Rattle.std.proofs.Math.Nat.{mul_comm}
use Rattle.std.specs.Prelude.{true, false, ℤ, pos, length, drop}
use Rattle.std.proofs.Math.ListN.{get_or, drop_of_length-le}
use Rattle.std.specs.Ordering.{int_eq}
use Rattle.std.proofs.lemmas.Bool.{false_from_ne_true}
use Rattle.std.proofs.lemmas.Bool.Decides.{Decides-int_eq}
use Rattle.algebra.specs.Integer.{ℤ_eq}
use Rattle.limits.specs.Limits.{capacity}
use Rattle.placements.specs.Placements.{count, factorials}
use Rattle.placements.proofs.Multiplicity.{count_nil, count_same, count_other, count_le, factorials_nil, factorials_cons}
use Rattle.weights.specs.Numbers.{factorials_small}

-- the weight before place i
drop_back : (L : List ℤ) (i : ℕ) → 0 < i → i ≤ length L → drop (i - 1) L ≡ get_or L (i - 1) (pos 0) ∷ drop i L
drop_back L i some within = let e : suc (i - 1) ≡ i = omega arith in drop-cons L (i - 1) (pos 0) (omega arith) ∙ rw e

-- ---- the product of m!

-- the weights from place `at` on are multiplied
pub record Multiplied (L : List ℤ) (product at : ℕ) : Type 0 where
  pub within : at ≤ length L
  pub few : length L ≤ capacity
  pub so_far : product ≡ factorials ℤ_eq (drop at L)

pub multiplied_none : {L M : List ℤ} → M ≡ L → length M ≤ capacity → Multiplied L 1 (length M)
multiplied_none {L} {M} e few =
    let long : length M ≡ length L = ap length e in
    record { within = omega arith; few = omega arith; so_far = rw (drop_of_length-le L {i = length M} (omega arith), factorials_nil ℤ_eq) }

module _ {L : List ℤ} {product at copies : ℕ} (m : Multiplied L product at) (some : 0 < at)
    (is : copies ≡ count ℤ_eq (get_or L (at - 1) (pos 0)) (drop (at - 1 + 1) L)) where
  pub copies_few : copies ≤ capacity
  copies_few = omega (arith, m.few, count_le ℤ_eq (get_or L (at - 1) (pos 0)) (drop (at - 1 + 1) L), length-drop (at - 1 + 1) L)

  pub multiplied_more : Multiplied L (product * (copies + 1)) (at - 1)
  multiplied_more =
      let e : at - 1 + 1 ≡ at = omega arith in
      record {
        within = omega (arith, m.within);
        few = m.few;
        so_far = rw (m.so_far, is, e, drop_back L at some m.within, factorials_cons ℤ_eq (get_or L (at - 1) (pos 0)) (drop at L), add-one) (mul_comm _ _);
      }

  pub multiplied_fits : product * (copies + 1) < 2 ^ 32
  multiplied_fits = omega (arith, multiplied_more.so_far, factorials_small (drop (at - 1) L) (rw length-drop (omega (arith, m.few))))

-- ---- how often a weight occurs

-- those that the test keeps are as many as `count` counts
pub occurs : (w : ℤ) (L : List ℤ) → length (filter (λ x. int_eq x w) L) ≡ count ℤ_eq w L
occurs w [] = sym (count_nil ℤ_eq w)
occurs w (x ∷ L) = elim (ℤ_eq w x) [
  | yes e ↦ let t : int_eq x w ≡ true = (Decides-int_eq x w).1 (sym e) in rw (t, count_same ℤ_eq w x L e) (ap suc (occurs w L))
  | no n ↦ let t : int_eq x w ≡ false = false_from_ne_true _ (λ h. n (sym ((Decides-int_eq x w).0 h))) in rw (t, count_other ℤ_eq w x L n) (occurs w L)
]

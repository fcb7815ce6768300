-- Merging equal collisions leaves T as it was: T does not see the order of a list, so the first of equal weights may stand for all.
-- And the number of lists worked by it: there is one, since the rule goes by the length of the list, and it is at most V(r), since no
-- more weights are different than there are.
use Rattle.std.specs.Prelude.{◌≡◌, refl, ℕ, zero, suc, ◌+◌, ◌*◌, ◌≤◌, length, ℤ, pos, negsuc, ◌+ℤ◌}
use Rattle.std.proofs.Math.Path.{sym, fun_ext}
use Rattle.std.proofs.Common.{ap, ap₂, ◌∙◌, arith}
use mathlib.Core.List.{List, [], ◌∷◌, ◌++◌}
use Rattle.std.proofs.Math.Nat as N
use Rattle.algebra.specs.Ring.{Ops, Laws}
use Rattle.algebra.specs.Power.{nat}
use Rattle.algebra.specs.Sum.{total, total_nil, total_cons, total_append}
use Rattle.algebra.specs.Binomial.{expand}
use Rattle.algebra.specs.Mix.{mix}
use Rattle.algebra.specs.Natural.{naturals, naturals_semi}
use Rattle.algebra.specs.Integer.{ℤ_eq}
use Rattle.placements.specs.Placements.{count, except, different}
use Rattle.placements.specs.Places.{replaced}
use Rattle.placements.proofs.Merge.{replaced_length, different_length, merge}
use Rattle.definition.specs.Definition.{Rule₂}
use Rattle.definition.specs.Rules.{T}
use Rattle.definition.proofs.Rules.{by_length, spread_cong, T_meets, same_T}
use Rattle.definition.proofs.Order.{powers_times, T_mix, T_perm}
use Rattle.definition.specs.Cost.{met, merged, MergedRule₂, NumberOfLists, lists_up_to, lists, most_lists}

pub met_length : (e : ℤ) (M : List ℤ) (d : ℤ) → length (met e M d) ≡ length M
met_length e M d = replaced_length ℤ_eq d (d +ℤ e) M

-- ---- T

module _ {A : Type 0} {o : Ops A} (l : Laws o) (s : ℕ → A) where
  open o use {add as ◌⊕◌, mul as ◌⊗◌, neg as ⊖◌}

  infixl 60 ◌⊕◌
  infixl 70 ◌⊗◌
  infix 80 ⊖◌
  pub T_merged : (e : ℤ) (M : List ℤ) (k : ℕ) → T o s (e ∷ M) k ≡ mix o (powers_times o e s) (T o s M) k ⊕ ⊖ merged o (T o s) e M (different ℤ_eq M) k
  T_merged e M k = T_mix l s e M k ∙ ap (λ x. mix o (powers_times o e s) (T o s M) k ⊕ ⊖ x) (merge ℤ_eq l.semi ◌+ℤ◌ e (λ M'. T o s M' k) (λ M' M'' p. T_perm l s p k) M)

  -- the merged rule determines T as rule 2 does
  merged_only : {t t' : List ℤ → ℕ → A} → MergedRule₂ o s t → MergedRule₂ o s t' → (L : List ℤ) (k : ℕ) → t L k ≡ t' L k
  merged_only {t} {t'} a b = by_length (λ L. (k : ℕ) → t L k ≡ t' L k) start more
    where
      start : (k : ℕ) → t [] k ≡ t' [] k
      start zero = a.empty ∙ sym b.empty
      start (suc k) = a.empty_later (suc k) (omega arith) ∙ sym (b.empty_later (suc k) (omega arith))

      more : (e : ℤ) (M : List ℤ) → ((M' : List ℤ) → length M' ≡ length M → (k : ℕ) → t M' k ≡ t' M' k) → (k : ℕ) → t (e ∷ M) k ≡ t' (e ∷ M) k
      more e M ih k =
          a.longer e M k
          ∙ ap₂ (λ x y. x ⊕ ⊖ y)
          (spread_cong o s s t t' e M k (λ i b. refl) (λ j b. ih M refl j))
          (ap (total o (different ℤ_eq M)) (fun_ext (λ d. ap (λ x. nat o (count ℤ_eq d M) ⊗ x) (ih (met e M d) (met_length e M d) k))))
          ∙ sym (b.longer e M k)

  -- merging leaves the answer as it was: what the merged rule tells is what rule 2 tells
  pub merging : {t t' : List ℤ → ℕ → A} → Rule₂ o s t → MergedRule₂ o s t' → (L : List ℤ) (k : ℕ) → t L k ≡ t' L k
  unfolding mix expand powers_times
  merging a b L k =
      same_T o a (T_meets o s) L k (λ i h. refl)
      ∙ merged_only {t = T o s} (record { empty = (T_meets o s).empty; empty_later = (T_meets o s).empty_later; longer = T_merged }) b L k

-- ---- the number of lists

pub lists_number : NumberOfLists lists
unfolding lists lists_up_to
lists_number = record {
  empty = refl;
  longer = λ e M. ap (λ x. 1 + lists_up_to (length M) M + x)
      (ap (total naturals (different ℤ_eq M)) (fun_ext (λ d. ap (λ n. lists_up_to n (met e M d)) (sym (met_length e M d)))));
}

-- and no other number meets the rule
pub number_only : {n n' : List ℤ → ℕ} → NumberOfLists n → NumberOfLists n' → (L : List ℤ) → n L ≡ n' L
number_only {n} {n'} a b = by_length (λ L. n L ≡ n' L) (a.empty ∙ sym b.empty) (λ e M ih.
    a.longer e M ∙ ap₂ (λ x y. 1 + x + y) (ih M refl) (ap (total naturals (different ℤ_eq M)) (fun_ext (λ d. ih (met e M d) (met_length e M d)))) ∙ sym (b.longer e M))

-- the lists worked for e ∷ M when, of the collisions, those with the weights D are
unfoldable pub lists_so_far : ℤ → List ℤ → List ℤ → ℕ
lists_so_far e M D = 1 + lists M + total naturals D (λ d. lists (met e M d))

module _ (e : ℤ) (M : List ℤ) where
  pub so_far_none : lists_so_far e M [] ≡ 1 + lists M
  unfolding lists_so_far
  so_far_none = rw (total_nil naturals) (N.add-zero _)

  pub so_far_more : (D : List ℤ) (d : ℤ) → lists_so_far e M (D ++ d ∷ []) ≡ lists_so_far e M D + lists (met e M d)
  unfolding lists_so_far
  so_far_more D d = rw (total_append naturals_semi D (d ∷ []), total_cons naturals d [], total_nil naturals) (omega arith)

  pub so_far_all : lists_so_far e M (different ℤ_eq M) ≡ lists (e ∷ M)
  unfolding lists_so_far
  so_far_all = sym (lists_number.longer e M)

-- ---- at most V(r)

pub most_zero : most_lists 0 ≡ 1
unfolding most_lists
most_zero = refl

pub most_suc : (r : ℕ) → most_lists (suc r) ≡ 1 + suc r * most_lists r
unfolding most_lists
most_suc r = refl

pub most_mono : (r n : ℕ) → r ≤ n → most_lists r ≤ most_lists n
most_mono zero zero h = N.le_refl _
most_mono (suc r) zero h = absurd (omega arith)
most_mono zero (suc n) h = rw (most_zero, most_suc n) (omega arith)
most_mono (suc r) (suc n) h = rw (most_suc r, most_suc n) (omega (arith, N.mul-le-mul h (most_mono r n (omega arith))))

total_most : (D : List ℤ) (f : ℤ → ℕ) (c : ℕ) → ((d : ℤ) → f d ≤ c) → total naturals D f ≤ length D * c
total_most [] f c h = rw (total_nil naturals f) (omega arith)
total_most (d ∷ D) f c h = rw (total_cons naturals d D f) (omega (arith, h d, total_most D f c h))

-- where each shorter list keeps the bound
so_far_bound : (e : ℤ) (M D : List ℤ) → ((M' : List ℤ) → length M' ≡ length M → lists M' ≤ most_lists (length M)) → length D ≤ length M
    → lists_so_far e M D ≤ most_lists (suc (length M))
unfolding lists_so_far
so_far_bound e M D ih few = rw (most_suc (length M))
    (omega (arith, ih M refl, total_most D (λ d. lists (met e M d)) (most_lists (length M)) (λ d. ih (met e M d) (met_length e M d)), N.mul-le-mul_right (most_lists (length M)) few))

-- the number of lists is at most V(r)
pub lists_most : (L : List ℤ) → lists L ≤ most_lists (length L)
lists_most = by_length (λ L. lists L ≤ most_lists (length L)) (rw (lists_number.empty, most_zero) (N.le_refl 1)) (λ e M ih.
    rw (← so_far_all e M) (so_far_bound e M (different ℤ_eq M) (λ M' q. rw q at (ih M' q)) (different_length ℤ_eq M)))

pub so_far_most : (e : ℤ) (M D : List ℤ) → length D ≤ length M → lists_so_far e M D ≤ most_lists (suc (length M))
so_far_most e M D = so_far_bound e M D (λ M' q. rw q at (lists_most M'))

-- at most 1,957 for six weights and 109,601 for eight
pub six_weights : (L : List ℤ) → length L ≤ 6 → lists L ≤ 1957
unfolding most_lists
six_weights L h = omega (arith, lists_most L, most_mono (length L) 6 h)

pub eight_weights : (L : List ℤ) → length L ≤ 8 → lists L ≤ 109601
unfolding most_lists
eight_weights L h = omega (arith, lists_most L, most_mono (length L) 8 h)

-- six weights can need as many: no two of the sums that come up in one list are equal
pub most_reached : lists (pos 1 ∷ pos 2 ∷ pos 4 ∷ pos 8 ∷ pos 16 ∷ negsuc 4 ∷ []) ≡ 1957
unfolding lists lists_up_to different except replaced total ℤ_eq
most_reached = refl

-- the number goes by the job's order
pub one_order : lists (pos 1 ∷ pos 1 ∷ pos 1 ∷ pos 1 ∷ pos 2 ∷ negsuc 0 ∷ []) ≡ 1003
unfolding lists lists_up_to different except replaced total ℤ_eq
one_order = refl

pub other_order : lists (negsuc 0 ∷ pos 2 ∷ pos 1 ∷ pos 1 ∷ pos 1 ∷ pos 1 ∷ []) ≡ 176
unfolding lists lists_up_to different except replaced total ℤ_eq
other_order = refl

-- and it is the first of equal weights that meets: with the last it would be 28 for four ones
pub four_equal : lists (pos 1 ∷ pos 1 ∷ pos 1 ∷ pos 1 ∷ []) ≡ 23
unfolding lists lists_up_to different except replaced total ℤ_eq
four_equal = refl

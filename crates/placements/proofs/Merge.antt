-- Equal collisions merged: a weight that meets each position of a list meets its different weights, each as often as it occurs.
-- It is so for every function of lists that does not see their order, since the first of equal weights may stand for all.
-- A walk over the places of a list comes upon a different weight exactly where no equal one stands before (`different_new`).
use Rattle.std.specs.Prelude.{◌≡◌, get_or, take, drop, ℤ, pos, ◌+ℤ◌}
use Rattle.std.proofs.Math.Path.{refl, ap, fun_ext}
use Rattle.std.proofs.Common.{sym, ◌∙◌, suc-ne-zero, le_refl, arith}
use Rattle.std.proofs.Math.Logic.{if_pos, if_neg, by_cases}
use mathlib.Core.List.Permᴰ
use mathlib.Core.List.Permᴰ.{cons as pcons}
use mathlib.Core.List.Permᴰ.{swap as pswap}
use mathlib.Core.List.Permᴰ.{trans as ptrans}
use mathlib.Core.List.{List, [], ◌∷◌, ◌++◌, append-nil, Permᴰ}
use Prim.Native.Nat.{ℕ, suc, ◌≤◌, ◌<◌}
use Rattle.std.proofs.Math.Decide.{ℕ_discrete}
use Rattle.std.proofs.Math.ListN.{length}
use Rattle.std.proofs.Math.Seq.{split_at}
use Rattle.std.proofs.lemmas.List.{set_split}
use Rattle.algebra.specs.Ring.{Ops, Semi}
use Rattle.algebra.specs.Power.{nat}
use Rattle.algebra.specs.Sum.{total, total_cong}
use Rattle.algebra.specs.Integer.{ℤ_eq}
use Rattle.placements.specs.Placements.{count, except, different, without}
use Rattle.placements.specs.Places.{with_sum, replaced}
use Rattle.placements.proofs.Multiplicity.{count_nil, count_same, count_other, without_same, without_other}
use Rattle.placements.proofs.Multiplicity.{except_nil, except_same, except_other, different_nil, different_cons, different_there}
use Rattle.placements.proofs.Laying.{removals, collisions, removals_nil, removals_cons, collisions_nil, collisions_cons}
use Rattle.placements.proofs.Number.{removals_different}

module _ {W : Type 0} (eq : Discrete W) where
  module _ (d x y : W) (M : List W) where
    replaced_same : d ≡ y → replaced eq d x (y ∷ M) ≡ x ∷ M
    unfolding replaced
    replaced_same e = if_pos (eq d y) e _ _

    replaced_other : ¬ (d ≡ y) → replaced eq d x (y ∷ M) ≡ y ∷ replaced eq d x M
    unfolding replaced
    replaced_other n = if_neg (eq d y) n _ _

  pub replaced_length : (d x : W) (M : List W) → length (replaced eq d x M) ≡ length M
  unfolding replaced
  replaced_length d x [] = refl
  replaced_length d x (y ∷ M) = by_cases (eq d y)
      (λ e. ap length (replaced_same d x y M e))
      (λ n. ap length (replaced_other d x y M n) ∙ ap suc (replaced_length d x M))

  -- up to order, x takes the place of one d
  pub replaced_perm : (d x : W) (M : List W) → ¬ (count eq d M ≡ 0) → Permᴰ (x ∷ without eq d M) (replaced eq d x M)
  replaced_perm d x [] h = absurd (h (count_nil eq d))
  replaced_perm d x (y ∷ M) h = by_cases (eq d y)
      (λ e. rw (without_same eq d y M e, replaced_same d x y M e) (Permᴰ.refl _))
      (λ n. rw (without_other eq d y M n, replaced_other d x y M n) (ptrans (pswap refl refl) (pcons refl (replaced_perm d x M (λ z. h (count_other eq d y M n ∙ z))))))

  -- where no d stands before it, a d is the first
  pub replaced_at : (d x : W) (front back : List W) → count eq d front ≡ 0 → replaced eq d x (front ++ d ∷ back) ≡ front ++ x ∷ back
  replaced_at d x [] back h = replaced_same d x d back refl
  replaced_at d x (y ∷ front) back h = by_cases (eq d y)
      (λ e. absurd (suc-ne-zero _ (sym (count_same eq d y front e) ∙ h)))
      (λ n. rw (replaced_other d x y (front ++ d ∷ back) n, replaced_at d x front back (sym (count_other eq d y front n) ∙ h)))

  except_append : (x : W) (D E : List W) → except eq x (D ++ E) ≡ except eq x D ++ except eq x E
  except_append x [] E = rw (except_nil eq x)
  except_append x (y ∷ D) E = by_cases (eq x y)
      (λ e. rw (except_same eq x y (D ++ E) e, except_same eq x y D e) (except_append x D E))
      (λ n. rw (except_other eq x y (D ++ E) n, except_other eq x y D n, except_append x D E))

  -- one weight more, which is new
  pub different_new : (d : W) (M : List W) → count eq d M ≡ 0 → different eq (M ++ d ∷ []) ≡ different eq M ++ d ∷ []
  different_new d [] h = rw (different_cons eq d [], different_nil eq, except_nil eq d)
  different_new d (x ∷ M) h = by_cases (eq d x)
      (λ e. absurd (suc-ne-zero _ (sym (count_same eq d x M e) ∙ h)))
      (λ n. rw (
        different_cons eq x (M ++ d ∷ []),
        different_cons eq x M,
        different_new d M (sym (count_other eq d x M n) ∙ h),
        except_append x (different eq M) (d ∷ []),
        except_other eq x d [] (λ e. n (sym e)),
        except_nil eq x,
      ))

  -- and one that stood before
  pub different_old : (d : W) (M : List W) → ¬ (count eq d M ≡ 0) → different eq (M ++ d ∷ []) ≡ different eq M
  different_old d [] h = absurd (h (count_nil eq d))
  different_old d (x ∷ M) h = rw (different_cons eq x (M ++ d ∷ []), different_cons eq x M) (by_cases (ℕ_discrete (count eq d M) 0)
      (λ z. by_cases (eq d x)
      (λ e. rw (different_new d M z, except_append x (different eq M) (d ∷ []), except_same eq x d [] (sym e), except_nil eq x, append-nil))
      (λ n. absurd (h (count_other eq d x M n ∙ z))))
      (λ n. rw (different_old d M n)))

  except_length : (x : W) (D : List W) → length (except eq x D) ≤ length D
  except_length x [] = rw (except_nil eq x) (le_refl _)
  except_length x (y ∷ D) = by_cases (eq x y)
      (λ e. rw (except_same eq x y D e) (omega (arith, except_length x D)))
      (λ n. rw (except_other eq x y D n) (omega (arith, except_length x D)))

  pub different_length : (L : List W) → length (different eq L) ≤ length L
  different_length [] = rw (different_nil eq) (le_refl _)
  different_length (w ∷ L) = rw (different_cons eq w L) (omega (arith, different_length L, except_length w (different eq L)))

  module _ {A : Type 0} {o : Ops A} (s : Semi o) (plus : W → W → W) (e : W) where
    open o use {add as ◌⊕◌, mul as ◌⊗◌}

    infixl 60 ◌⊕◌
    infixl 70 ◌⊗◌
    collisions_removals : (F : List W → A) → ((M M' : List W) → Permᴰ M M' → F M ≡ F M') → (M : List W)
        → total o (collisions plus e M) F ≡ total o (removals M) (λ p. F (plus p.0 e ∷ p.1))
    collisions_removals F u [] = rw (collisions_nil s plus e F, removals_nil s)
    collisions_removals F u (d ∷ M) =
        rw (collisions_cons s plus e d M F, removals_cons s d M, collisions_removals (λ M. F (d ∷ M)) (λ M M' p. u _ _ (pcons refl p)) M)
        (ap (λ f. F (plus d e ∷ M) ⊕ total o (removals M) f) (fun_ext (λ p. u _ _ (pswap refl refl))))

    -- the collisions by position are the different ones, each as often as its weight occurs
    pub merge : (F : List W → A) → ((M M' : List W) → Permᴰ M M' → F M ≡ F M') → (M : List W)
        → total o (collisions plus e M) F ≡ total o (different eq M) (λ d. nat o (count eq d M) ⊗ F (replaced eq d (plus d e) M))
    merge F u M =
        collisions_removals F u M
        ∙ removals_different s eq (λ w L. F (plus w e ∷ L)) (λ w L L' p. u _ _ (pcons refl p)) M
        ∙ total_cong o (different eq M) _ _ (λ d m. ap (λ x. nat o (count eq d M) ⊗ x) (u _ _ (replaced_perm d (plus d e) M (different_there eq d M m))))

-- the collision at a place is that of its weight, where no equal one stands before
pub with_sum_first : (M : List ℤ) (j : ℕ) (e : ℤ) → j < length M → count ℤ_eq (get_or M j (pos 0)) (take j M) ≡ 0
    → with_sum M j e ≡ replaced ℤ_eq (get_or M j (pos 0)) (get_or M j (pos 0) +ℤ e) M
unfolding with_sum
with_sum_first M j e h z =
    set_split M j _ h
    ∙ sym (ap (replaced ℤ_eq (get_or M j (pos 0)) (get_or M j (pos 0) +ℤ e)) (split_at M j (pos 0) h)
    ∙ replaced_at ℤ_eq (get_or M j (pos 0)) (get_or M j (pos 0) +ℤ e) (take j M) (drop (suc j) M) z)

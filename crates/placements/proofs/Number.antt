-- N is the number of placements.
-- Taking a weight out by its position meets each different weight once for each of its copies, so the layings meet each placement
-- as often as equal weights can be exchanged: the product of m! (`layings_placements`). For g = 1 over the natural numbers that
-- counts placements, since there are n (n - 1) .. (n - r + 1) layings.
use Rattle.std.specs.Prelude.{◌≡◌, refl, ℕ, zero, suc, ◌*◌, length, replicate, ℤ}
use Rattle.std.proofs.Math.Path.{sym}
use Rattle.std.proofs.Common.{◌∙◌, ap, ap₂}
use Rattle.std.proofs.Math.Logic.{by_cases}
use mathlib.Core.List.{List, [], ◌∷◌}
use Rattle.std.proofs.Math.Nat as N
use Rattle.std.proofs.Math.Decide.{ℕ_discrete}
use Rattle.std.proofs.lemmas.List.{length-replicate}
use Rattle.algebra.specs.Ring.{Ops, Semi}
use Rattle.algebra.specs.Ring as R
use Rattle.algebra.specs.Power.{nat, nat_zero, nat_one, nat_suc, nat_add, nat_mul}
use Rattle.algebra.specs.Sum.{total, total_nil, total_cons, total_map, total_cong, total_append, total_flat_map, mul_total}
use Rattle.algebra.specs.Binomial.{falling, falling_zero, falling_none, falling_suc, falling_step}
use Rattle.algebra.specs.Natural.{naturals, naturals_semi, nat_naturals, total_ones}
use Rattle.algebra.specs.Integer.{ℤ_eq}
use Rattle.placements.specs.Placements.{count, different, factorials, placed, without, placements, value}
use Rattle.placements.proofs.Multiplicity.{count_same, count_other, without_same, without_other, without_perm, different_nil, different_cons, different_there}
use Rattle.placements.proofs.Multiplicity.{Fold, bring_first, except_cong, factorials_nil, factorials_without, factorials_positive}
use Rattle.placements.proofs.Laying.{removals, layings, removals_nil, removals_cons, removals_cong, layings_none, layings_cons, layings_empty}
use Rattle.placements.proofs.Laying.{Unordered, cons_unordered, layings_perm}

module _ {A : Type 0} {o : Ops A} (s : Semi o) where
  open o use {zero as 𝟘, one as 𝟙, add as ◌⊕◌, mul as ◌⊗◌}

  infixl 60 ◌⊕◌
  infixl 70 ◌⊗◌
  abbrev sums : {W : Type 0} → Fold W A
  sums = record { op = ◌⊕◌; start = 𝟘; start_op = R.zero-add s; left_comm = R.add_left_comm s; over = total o; over_nil = total_nil o; over_cons = total_cons o }

  module _ {W : Type 0} (eq : Discrete W) where
    -- x put back where it was taken from; where there is none, the factor is 0
    put_back : (G : W → List W → A) → Unordered G → (x : W) (M : List W)
        → nat o (count eq x M) ⊗ G x (x ∷ without eq x M) ≡ nat o (count eq x M) ⊗ G x M
    put_back G u x M = by_cases (ℕ_discrete (count eq x M) 0)
        (λ z. rw (z, nat_zero o) (R.zero-mul s _ ∙ sym (R.zero-mul s _)))
        (λ n. rw (u x (x ∷ without eq x M) M (without_perm eq x M n)))

    -- a weight that is taken out by its position is met once for each of its copies
    pub removals_different : (G : W → List W → A) → Unordered G → (L : List W)
        → total o (removals L) (λ p. G p.0 p.1) ≡ total o (different eq L) (λ w. nat o (count eq w L) ⊗ G w (without eq w L))
    removals_different G u [] = rw (removals_nil s, different_nil eq, total_nil o)
    removals_different G u (x ∷ M) =
        let h : W → A = λ w. nat o (count eq w M) ⊗ G w (x ∷ without eq w M) in
        simp (removals_cons s, different_cons eq, total_cons o, removals_different (λ w L. G w (x ∷ L)) (cons_unordered s x G u) M)
        (rw (
          bring_first eq sums x M h (λ z. rw (z, nat_zero o) (R.zero-mul s _)),
          except_cong eq sums x (different eq M) (λ w. nat o (count eq w (x ∷ M)) ⊗ G w (without eq w (x ∷ M))) h
              (λ w n. rw (count_other eq w x M (λ e. n (sym e)), without_other eq w x M (λ e. n (sym e)))),
          put_back G u x M,
          count_same eq x x M refl,
          without_same eq x x M refl,
          nat_suc o,
          R.add-mul s,
          R.one-mul s,
          R.add_assoc s,
        ))

  module _ {W : Type 0} (eq : Discrete W) (cast : W → A) where
    -- the sum over the placements, by the first place
    pub placements_cons : (a : A) (rs : List A) (L : List W) (g : A → A)
        → total o (placements eq (length (a ∷ rs)) L) (λ π. g (value o cast (a ∷ rs) π))
        ≡ total o (placements eq (length rs) L) (λ π. g (value o cast rs π))
        ⊕ total o (different eq L) (λ w. total o (placements eq (length rs) (without eq w L)) (λ π. g (cast w ⊗ a ⊕ value o cast rs π)))
    unfolding placements value
    placements_cons a rs L g = rw (total_append s, total_flat_map) (simp (total_map o))

    none_placed : (L : List W) (g : A → A)
        → layings o cast [] L g ≡ nat o (factorials eq L) ⊗ total o (placements eq 0 L) (λ π. g (value o cast [] π))
    unfolding layings placements total value nat
    none_placed [] g = rw (factorials_nil eq) (simp (R.add-zero s, R.one-mul s))
    none_placed (w ∷ L) g = sym (R.mul-zero s _)

    pub layings_placements : (rs : List A) (L : List W) (g : A → A)
        → layings o cast rs L g ≡ nat o (factorials eq L) ⊗ total o (placements eq (length rs) L) (λ π. g (value o cast rs π))
    layings_placements [] L g = none_placed L g
    layings_placements (a ∷ rs) L g =
        -- g of a sum with w at the first root
        let on-first : W → A → A = λ w v. g (cast w ⊗ a ⊕ v) in
        rw (layings_cons o cast a rs L g, placements_cons a rs L g, R.mul-add s, layings_placements rs L g)
        (ap (λ x. nat o (factorials eq L) ⊗ total o (placements eq (length rs) L) (λ π. g (value o cast rs π)) ⊕ x)
        (removals_different eq (λ w M. layings o cast rs M (on-first w)) (λ w M M' p. layings_perm s cast rs (on-first w) p) L
        ∙ total_cong o (different eq L) _ _ (λ w m. rw (
          layings_placements rs (without eq w L) (on-first w),
          ← R.mul_assoc s,
          ← nat_mul,
          factorials_without eq w L (different_there eq w L m),
        ))
        ∙ sym (mul_total s _ _ _)))

  removals_const : {W : Type 0} (L : List W) (c : A) → total o (removals L) (λ p. c) ≡ nat o (length L) ⊗ c
  removals_const [] c = rw (removals_nil s, nat_zero o) (sym (R.zero-mul s c))
  removals_const (w ∷ L) c = rw (removals_cons s w L (λ p. c), removals_const L c, nat_suc o (length L), R.add-mul s, R.one-mul s)

  -- there are n (n - 1) .. (n - r + 1) layings
  layings_one : {W : Type 0} (cast : W → A) (rs : List A) (L : List W) → layings o cast rs L (λ v. 𝟙) ≡ nat o (falling (length rs) (length L))
  layings_one cast [] [] = rw (falling_zero, nat_one s) (layings_empty s cast [] _)
  layings_one cast [] (w ∷ L) = rw (falling_none, nat_zero o) (layings_none o cast w L _)
  layings_one cast (a ∷ rs) [] = rw (falling_zero, nat_one s) (layings_empty s cast (a ∷ rs) _)
  layings_one cast (a ∷ rs) (w ∷ L) =
      rw (layings_cons o cast a rs (w ∷ L), layings_one cast rs (w ∷ L))
      (ap (λ x. nat o (falling (length rs) (suc (length L))) ⊕ x)
      (removals_cong s (w ∷ L) _ (λ p. nat o (falling (length rs) (length L))) (λ p q. rw (layings_one cast rs p.1, N.suc_inj q)) ∙ removals_const (w ∷ L) _)
      ∙ rw (← nat_mul s, ← nat_add s, ← falling_step, falling_suc))

-- the product of m! times the number of placements is n (n - 1) .. (n - r + 1)
placements_number : {W : Type 0} (eq : Discrete W) (n : ℕ) (L : List W) → factorials eq L * length (placements eq n L) ≡ falling n (length L)
placements_number {W} eq n L =
    let rs : List ℕ = replicate n 0 in
    let cast : W → ℕ = λ w. 0 in
    let law : layings naturals cast rs L (λ v. 1) ≡ factorials eq L * length (placements eq (length rs) L) =
    layings_placements naturals_semi eq cast rs L (λ v. 1) ∙ ap₂ ◌*◌ (nat_naturals _) (total_ones _) in
    rw (length-replicate {A = ℕ} n 0) at (sym law ∙ layings_one naturals_semi cast rs L ∙ nat_naturals _)

-- N is the number of placements
pub placed_number : (n : ℕ) (L : List ℤ) → length (placements ℤ_eq n L) ≡ placed n L
unfolding placed
placed_number n L = sym (N.div-eq_of_eq-mul_right (factorials_positive ℤ_eq L) (sym (placements_number ℤ_eq n L)))

-- and a whole number: the division leaves nothing
pub placed_whole : (n : ℕ) (L : List ℤ) → factorials ℤ_eq L * placed n L ≡ falling n (length L)
placed_whole n L = rw (← placed_number n L) (placements_number ℤ_eq n L)

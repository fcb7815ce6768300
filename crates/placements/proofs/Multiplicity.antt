-- How often weights occur, the different ones among them, and the product of m!.
-- The product grows by the factor 1 + count when a weight joins (`factorials_cons`): apart from that weight nothing changes. To take
-- it apart it is brought to the front (`bring_first`), which is said once, of sums and of products over the different weights.
use Rattle.std.specs.Prelude.{◌≡◌, ℕ, suc, ◌+◌, ◌*◌, ◌≤◌, ◌<◌, length}
use Rattle.std.proofs.Math.Path.{refl, ap}
use Rattle.std.proofs.Common.{sym, ◌∙◌, ⊎_elim, zero-add, mul_assoc, mul_left_comm, one-mul, mul-pos, suc-ne-zero, arith}
use Rattle.std.proofs.Math.Logic.{if_pos, if_neg, by_cases, ∥∥₁_elim}
use mathlib.Core.HLevel.{⊥_prop}
use mathlib.Core.List.Permᴰ
use mathlib.Core.List.Permᴰ.{cons as pcons}
use mathlib.Core.List.Permᴰ.{nil as pnil}
use mathlib.Core.List.Permᴰ.{swap as pswap}
use mathlib.Core.List.Permᴰ.{trans as ptrans}
use mathlib.Core.List.{List, [], ◌∷◌, ◌++◌, Permᴰ}
use mathlib.Core.List.Memᴰ
use mathlib.Core.List.Memᴰ.{head as mhead}
use mathlib.Core.List.Memᴰ.{tail as mtail}
use mathlib.Core.List.{Memᴰ, Nodup, Nodup-nil, Nodup-cons}
use Rattle.std.proofs.Math.Decide.{ℕ_discrete}
use Rattle.algebra.specs.Binomial.{fact, fact_zero, fact_suc}
use Rattle.placements.specs.Placements.{prod, count, except, different, factorials, without}

-- a sum or a product over the members of a list
pub record Fold (W A : Type 0) : Type 0 where
  pub op : A → A → A
  pub start : A
  pub start_op : (a : A) → op start a ≡ a
  pub left_comm : (a b c : A) → op a (op b c) ≡ op b (op a c)
  pub over : List W → (W → A) → A
  pub over_nil : (f : W → A) → over [] f ≡ start
  pub over_cons : (w : W) (L : List W) (f : W → A) → over (w ∷ L) f ≡ op (f w) (over L f)

module _ {W : Type 0} where
  prod_nil : (f : W → ℕ) → prod [] f ≡ 1
  unfolding prod
  prod_nil f = refl

  prod_cons : (w : W) (L : List W) (f : W → ℕ) → prod (w ∷ L) f ≡ f w * prod L f
  unfolding prod
  prod_cons w L f = refl

  abbrev products : Fold W ℕ
  products = record { op = ◌*◌; start = 1; start_op = one-mul; left_comm = mul_left_comm; over = prod; over_nil = prod_nil; over_cons = prod_cons }

module _ {W : Type 0} (eq : Discrete W) where
  module _ (w x : W) (L : List W) where
    pub count_same : w ≡ x → count eq w (x ∷ L) ≡ suc (count eq w L)
    unfolding count
    count_same e = if_pos (eq w x) e _ _

    pub count_other : ¬ (w ≡ x) → count eq w (x ∷ L) ≡ count eq w L
    unfolding count
    count_other n = if_neg (eq w x) n _ _

    pub without_same : w ≡ x → without eq w (x ∷ L) ≡ L
    unfolding without
    without_same e = if_pos (eq w x) e _ _

    pub without_other : ¬ (w ≡ x) → without eq w (x ∷ L) ≡ x ∷ without eq w L
    unfolding without
    without_other n = if_neg (eq w x) n _ _

    pub except_same : w ≡ x → except eq w (x ∷ L) ≡ except eq w L
    unfolding except
    except_same e = if_pos (eq w x) e _ _

    pub except_other : ¬ (w ≡ x) → except eq w (x ∷ L) ≡ x ∷ except eq w L
    unfolding except
    except_other n = if_neg (eq w x) n _ _

  pub count_nil : (w : W) → count eq w [] ≡ 0
  unfolding count
  count_nil w = refl

  pub without_nil : (w : W) → without eq w [] ≡ []
  unfolding without
  without_nil w = refl

  pub except_nil : (w : W) → except eq w [] ≡ []
  unfolding except
  except_nil w = refl

  pub different_nil : different eq [] ≡ []
  unfolding different
  different_nil = refl

  pub different_cons : (w : W) (L : List W) → different eq (w ∷ L) ≡ w ∷ except eq w (different eq L)
  unfolding different
  different_cons w L = refl

  count_step : (w x : W) (L M : List W) → count eq w L ≡ count eq w M → count eq w (x ∷ L) ≡ count eq w (x ∷ M)
  count_step w x L M h = by_cases (eq w x) (λ e. simp (count_same) (ap suc h)) (λ n. simp (count_other) h)

  -- ---- the different weights are there once each
  count_except : (x : W) (D : List W) → count eq x (except eq x D) ≡ 0
  count_except x [] = rw (except_nil x) (count_nil x)
  count_except x (y ∷ D) = by_cases (eq x y)
      (λ e. rw (except_same x y D e) (count_except x D))
      (λ n. rw (except_other x y D n, count_other x y (except eq x D) n) (count_except x D))

  count_except_other : (x w : W) → ¬ (x ≡ w) → (D : List W) → count eq x (except eq w D) ≡ count eq x D
  count_except_other x w n [] = rw (except_nil w)
  count_except_other x w n (y ∷ D) = by_cases (eq w y)
      (λ e. rw (except_same w y D e, count_other x y D (λ q. n (q ∙ sym e))) (count_except_other x w n D))
      (λ m. rw (except_other w y D m) (count_step x y _ _ (count_except_other x w n D)))

  -- a weight that occurs is among them once, and no other is
  count_different : (x : W) (M : List W) → (count eq x M ≡ 0 → count eq x (different eq M) ≡ 0) × (¬ (count eq x M ≡ 0) → count eq x (different eq M) ≡ 1)
  count_different x [] = rw (different_nil) (λ z. z, λ h. absurd (h (count_nil x)))
  count_different x (y ∷ M) = rw (different_cons y M) (by_cases (eq x y)
      (λ e. (λ z. absurd (suc-ne-zero _ (sym (count_same x y M e) ∙ z)), λ h. count_same x y _ e ∙ ap suc (rw (← e) (count_except x (different eq M)))))
      (λ n. rw (count_other x y (except eq y (different eq M)) n, count_other x y M n, count_except_other x y n (different eq M)) (count_different x M)))

  at_most_once : (x : W) (M : List W) → count eq x (different eq M) ≤ 1
  at_most_once x M = let d = count_different x M in by_cases (ℕ_discrete (count eq x M) 0) (λ z. omega (arith, d.0 z)) (λ n. omega (arith, d.1 n))

  absent : (x : W) (D : List W) → count eq x D ≡ 0 → except eq x D ≡ D
  absent x [] z = except_nil x
  absent x (y ∷ D) z = by_cases (eq x y)
      (λ e. absurd (suc-ne-zero _ (sym (count_same x y D e) ∙ z)))
      (λ n. rw (except_other x y D n, absent x D (sym (count_other x y D n) ∙ z)))

  module _ {A : Type 0} (F : Fold W A) where
    pub except_cong : (x : W) (D : List W) (h k : W → A) → ((w : W) → ¬ (x ≡ w) → h w ≡ k w) → F.over (except eq x D) h ≡ F.over (except eq x D) k
    except_cong x [] h k c = rw (except_nil x) (F.over_nil h ∙ sym (F.over_nil k))
    except_cong x (y ∷ D) h k c = by_cases (eq x y)
        (λ e. rw (except_same x y D e) (except_cong x D h k c))
        (λ n. rw (except_other x y D n, F.over_cons y (except eq x D) h, F.over_cons y (except eq x D) k, c y n, except_cong x D h k c))

    once_first : (x : W) (D : List W) (h : W → A) → count eq x D ≤ 1 → (count eq x D ≡ 0 → h x ≡ F.start) → F.over D h ≡ F.op (h x) (F.over (except eq x D) h)
    once_first x [] h a c = simp (except_nil, F.over_nil, c (count_nil x), F.start_op)
    once_first x (y ∷ D) h a c = by_cases (eq x y)
        (λ e. rw (except_same x y D e, absent x D (omega (arith, count_same x y D e)), F.over_cons y D h, e))
        (λ n. rw (
          except_other x y D n,
          F.over_cons y D h,
          F.over_cons y (except eq x D) h,
          once_first x D h (rw (count_other x y D n) at a) (λ z. c (count_other x y D n ∙ z)),
        ) (F.left_comm _ _ _))

    -- x goes first; a member that is not there counts for nothing
    pub bring_first : (x : W) (M : List W) (h : W → A) → (count eq x M ≡ 0 → h x ≡ F.start)
        → F.over (different eq M) h ≡ F.op (h x) (F.over (except eq x (different eq M)) h)
    bring_first x M h c = once_first x (different eq M) h (at_most_once x M)
        (λ z. by_cases (ℕ_discrete (count eq x M) 0) c (λ n. absurd (suc-ne-zero 0 (sym ((count_different x M).1 n) ∙ z))))

  pub factorials_nil : factorials eq [] ≡ 1
  unfolding factorials different prod
  factorials_nil = refl

  -- one more x: its multiplicity is the factor that comes
  pub factorials_cons : (x : W) (L : List W) → factorials eq (x ∷ L) ≡ suc (count eq x L) * factorials eq L
  unfolding factorials
  factorials_cons x L = rw (
    different_cons x L,
    prod_cons x (except eq x (different eq L)),
    count_same x x L refl,
    fact_suc (count eq x L),
    except_cong products x (different eq L) (λ w. fact (count eq w (x ∷ L))) (λ w. fact (count eq w L)) (λ w n. ap fact (count_other w x L (λ e. n (sym e)))),
    bring_first products x L (λ w. fact (count eq w L)) (λ z. ap fact z ∙ fact_zero),
  ) (mul_assoc _ _ _)

  -- what is left does not lose other members
  pub count_without : (x w : W) → ¬ (x ≡ w) → (L : List W) → count eq x (without eq w L) ≡ count eq x L
  count_without x w n [] = rw without_nil
  count_without x w n (y ∷ L) = by_cases (eq w y)
      (λ e. rw (without_same w y L e, count_other x y L (λ f. n (f ∙ sym e))))
      (λ m. rw (without_other w y L m) (count_step x y _ _ (count_without x w n L)))

  -- w is taken out: its multiplicity is the factor that goes
  pub factorials_without : (w : W) (L : List W) → ¬ (count eq w L ≡ 0) → count eq w L * factorials eq (without eq w L) ≡ factorials eq L
  factorials_without w [] h = absurd (h (count_nil w))
  factorials_without w (x ∷ L) h = by_cases (eq w x)
      (λ e. rw (e, count_same x x L refl, without_same x x L refl, factorials_cons))
      (λ n. rw (
        count_other w x L n,
        without_other w x L n,
        factorials_cons x L,
        factorials_cons x (without eq w L),
        count_without x w (λ e. n (sym e)) L,
        mul_left_comm,
        factorials_without w L (λ z. h (count_other w x L n ∙ z)),
      ))

  pub without_perm : (w : W) (L : List W) → ¬ (count eq w L ≡ 0) → Permᴰ (w ∷ without eq w L) L
  without_perm w [] h = absurd (h (count_nil w))
  without_perm w (x ∷ L) h = by_cases (eq w x)
      (λ e. rw (without_same w x L e) (pcons e (Permᴰ.refl L)))
      (λ n. rw (without_other w x L n) (ptrans (pswap refl refl) (pcons refl (without_perm w L (λ z. h (count_other w x L n ∙ z))))))

  pub factorials_positive : (L : List W) → 0 < factorials eq L
  factorials_positive [] = rw factorials_nil (omega arith)
  factorials_positive (w ∷ L) = rw (factorials_cons w L) (mul-pos (omega arith) (factorials_positive L))

  -- no weight occurs more often than there are weights
  pub count_le : (w : W) (L : List W) → count eq w L ≤ length L
  count_le w [] = rw (count_nil w) (omega arith)
  count_le w (x ∷ L) =
      let ih : count eq w L ≤ length L = count_le w L in
      by_cases (eq w x) (λ e. rw (count_same w x L e) (omega arith)) (λ n. rw (count_other w x L n) (omega arith))

  pub count_append : (w : W) (L M : List W) → count eq w (L ++ M) ≡ count eq w L + count eq w M
  count_append w [] M = sym (ap (λ n. n + count eq w M) (count_nil w) ∙ zero-add _)
  count_append w (x ∷ L) M =
      let ih : count eq w (L ++ M) ≡ count eq w L + count eq w M = count_append w L M in
      by_cases (eq w x)
      (λ e. rw (count_same w x L e, count_same w x (L ++ M) e) (omega (arith, ih)))
      (λ n. rw (count_other w x L n, count_other w x (L ++ M) n) ih)

  count_swap : (w x y : W) (L : List W) → count eq w (x ∷ y ∷ L) ≡ count eq w (y ∷ x ∷ L)
  count_swap w x y L = by_cases (eq w x)
      (λ e. by_cases (eq w y) (λ f. simp (count_same)) (λ n. simp (count_same, count_other)))
      (λ m. by_cases (eq w y) (λ f. simp (count_same, count_other)) (λ n. simp (count_other)))

  pub count_perm : (w : W) {L M : List W} → Permᴰ L M → count eq w L ≡ count eq w M
  count_perm w pnil = refl
  count_perm w (pcons {b = b} {l₁ = L} {l₂ = M} e p) = rw e (count_step w b L M (count_perm w p))
  count_perm w (pswap {a = a} {b = b} {l = L} e f) = rw (← e, ← f) (count_swap w a b L)
  count_perm w (ptrans p q) = count_perm w p ∙ count_perm w q

  without_swap : (w x y : W) (L : List W) → Permᴰ (without eq w (x ∷ y ∷ L)) (without eq w (y ∷ x ∷ L))
  without_swap w x y L = by_cases (eq w x)
      (λ e. by_cases (eq w y)
      (λ f. simp (without_same) (pcons (sym f ∙ e) (Permᴰ.refl L)))
      (λ n. simp (without_same, without_other) (Permᴰ.refl (y ∷ L))))
      (λ m. by_cases (eq w y)
      (λ f. simp (without_same, without_other) (Permᴰ.refl (x ∷ L)))
      (λ n. simp (without_other) (pswap refl refl)))

  pub without_cong : (w : W) {L M : List W} → Permᴰ L M → Permᴰ (without eq w L) (without eq w M)
  without_cong w pnil = rw without_nil pnil
  without_cong w (pcons {a = a} {b = b} {l₁ = L} {l₂ = M} e p) = rw e (by_cases (eq w b)
      (λ f. rw (without_same w b L f, without_same w b M f) p)
      (λ n. rw (without_other w b L n, without_other w b M n) (pcons refl (without_cong w p))))
  without_cong w (pswap {a = a} {b = b} {l = L} e f) = rw (← e, ← f) (without_swap w a b L)
  without_cong w (ptrans p q) = ptrans (without_cong w p) (without_cong w q)

  -- ---- members, by how often they occur
  mem_count : (w : W) (D : List W) → Memᴰ w D → ¬ (count eq w D ≡ 0)
  mem_count w [] m z = Memᴰ.not-nil m
  mem_count w (x ∷ D) m z = by_cases (eq w x)
      (λ e. suc-ne-zero _ (sym (count_same w x D e) ∙ z))
      (λ n. ⊎_elim n (λ k. mem_count w D k (sym (count_other w x D n) ∙ z)) (Memᴰ.cases_cons m))

  count_mem : (w : W) (D : List W) → ¬ (count eq w D ≡ 0) → Memᴰ w D
  count_mem w [] h = absurd (h (count_nil w))
  count_mem w (x ∷ D) h = by_cases (eq w x) mhead (λ n. mtail (count_mem w D (λ z. h (count_other w x D n ∙ z))))

  count_once : (D : List W) → ((x : W) → count eq x D ≤ 1) → Nodup D
  count_once [] h = Nodup-nil
  count_once (x ∷ D) h = Nodup-cons.1 (
    λ m. ∥∥₁_elim m ⊥_prop (λ k. mem_count x D k (omega (arith, h x, count_same x x D refl))),
    count_once D (λ y. by_cases (eq y x) (λ e. omega (arith, h y, count_same y x D e)) (λ n. omega (arith, h y, count_other y x D n))),
  )

  -- the different members of a list are its members, each once
  pub different_there : (w : W) (L : List W) → Memᴰ w (different eq L) → ¬ (count eq w L ≡ 0)
  different_there w L m z = mem_count w (different eq L) m ((count_different w L).0 z)

  pub different_in : (w : W) (L : List W) → ¬ (count eq w L ≡ 0) → Memᴰ w (different eq L)
  different_in w L h = count_mem w (different eq L) (λ z. suc-ne-zero 0 (sym ((count_different w L).1 h) ∙ z))

  pub different_once : (L : List W) → Nodup (different eq L)
  different_once L = count_once (different eq L) (λ x. at_most_once x L)

-- The lists that come of a collision, one for each place: each is as long as the list was, two weights may collide one after the
-- other in either order, and the order of the list matters to a sum over its collisions only as it matters to the summand.
-- All are inductions on the list, by the collision with its first weight and those with the rest.
use Rattle.std.specs.Prelude.{◌≡◌, refl, ℕ, suc, length, ℤ, ◌+ℤ◌}
use Rattle.std.proofs.Common.{sym, ap, ap₂, ◌∙◌, length-set}
use mathlib.Core.List.Permᴰ.{cons as pcons}
use mathlib.Core.List.Permᴰ.{nil as pnil}
use mathlib.Core.List.Permᴰ.{swap as pswap}
use mathlib.Core.List.Permᴰ.{trans as ptrans}
use mathlib.Core.List.{List, [], ◌∷◌, Permᴰ}
use Rattle.algebra.specs.Ring.{Ops, Semi}
use Rattle.algebra.specs.Ring as R
use Rattle.algebra.specs.Sum.{sum, sum_zero, sum_first, total, total_add}
use Rattle.placements.specs.Places.{with_sum}
use Rattle.placements.proofs.Laying.{collisions, collisions_nil, collisions_cons}

pub length_with_sum : (M : List ℤ) (j : ℕ) (e : ℤ) → length (with_sum M j e) ≡ length M
unfolding with_sum
length_with_sum M j e = length-set M j _

-- one collision for each place
pub collisions_places : {A : Type 0} {o : Ops A} (s : Semi o) (e : ℤ) (M : List ℤ) (F : List ℤ → A)
    → total o (collisions ◌+ℤ◌ e M) F ≡ sum o (length M) (λ j. F (with_sum M j e))
unfolding with_sum
collisions_places {o = o} s e [] F = collisions_nil s ◌+ℤ◌ e F ∙ sym (sum_zero o _)
collisions_places {o = o} s e (d ∷ M) F =
    collisions_cons s ◌+ℤ◌ e d M F ∙ ap (o.add (F ((d +ℤ e) ∷ M))) (collisions_places s e M (λ M'. F (d ∷ M'))) ∙ sym (sum_first s (length M) _)

pub perm_length : {W : Type 0} {L L' : List W} → Permᴰ L L' → length L ≡ length L'
perm_length pnil = refl
perm_length (pcons e p) = ap suc (perm_length p)
perm_length (pswap e f) = refl
perm_length (ptrans p q) = perm_length p ∙ perm_length q

module _ {A : Type 0} {o : Ops A} (s : Semi o) {W : Type 0} (plus : W → W → W) where
  open o use {add as ◌⊕◌}

  infixl 60 ◌⊕◌
  -- each list that comes of a collision is as long as the list was
  pub collisions_cong : (e : W) (M : List W) (F G : List W → A) → ((M' : List W) → length M' ≡ length M → F M' ≡ G M')
      → total o (collisions plus e M) F ≡ total o (collisions plus e M) G
  collisions_cong e [] F G h = rw (collisions_nil s plus e F, collisions_nil s plus e G)
  collisions_cong e (d ∷ M) F G h = rw (collisions_cons s plus e d M F, collisions_cons s plus e d M G, h (plus d e ∷ M) refl)
      (ap (λ x. G (plus d e ∷ M) ⊕ x) (collisions_cong e M (λ M'. F (d ∷ M')) (λ M'. G (d ∷ M')) (λ M' q. h (d ∷ M') (ap suc q))))

  -- two weights may collide with a list in either order
  pub collisions_swap : (d e : W) → ((x : W) → plus (plus x e) d ≡ plus (plus x d) e) → (M : List W) (F : List W → A)
      → total o (collisions plus e M) (λ M'. total o (collisions plus d M') F) ≡ total o (collisions plus d M) (λ M'. total o (collisions plus e M') F)
  collisions_swap d e c [] F = simp (collisions_nil s)
  collisions_swap d e c (x ∷ M) F = simp (collisions_cons s, total_add s, collisions_swap d e c M (λ M'. F (x ∷ M')), c, R.sums, s)

  -- the order of a list does not matter to the sum over its collisions, if it does not matter to F at lists of that length
  pub collisions_perm : (e : W) {L L' : List W} → Permᴰ L L' → (F : List W → A) → ((M M' : List W) → length M ≡ length L → Permᴰ M M' → F M ≡ F M')
      → total o (collisions plus e L) F ≡ total o (collisions plus e L') F
  collisions_perm e pnil F u = refl
  collisions_perm e (pcons {a = a} {b = b} {l₁ = L} {l₂ = L'} h p) F u = rw (collisions_cons s plus e a L F, collisions_cons s plus e b L' F)
      (ap₂ ◌⊕◌ (u _ _ refl (pcons (ap (λ x. plus x e) h) p))
      (collisions_perm e p (λ M. F (a ∷ M)) (λ M M' q r. u (a ∷ M) (a ∷ M') (ap suc q) (pcons refl r)) ∙ ap (λ x. total o (collisions plus e L') (λ M. F (x ∷ M))) h))
  collisions_perm e (pswap {a = a} {b = b} {l = L} h g) F u = rw (← h, ← g)
      (simp (collisions_cons s) (R.add_left_comm s _ _ _
      ∙ ap₂ ◌⊕◌ (u _ _ refl (pswap refl refl)) (ap₂ ◌⊕◌ (u _ _ refl (pswap refl refl)) (collisions_cong e L _ _ (λ M q. u _ _ (ap (λ n. suc (suc n)) q) (pswap refl refl))))))
  collisions_perm e (ptrans p q) F u = collisions_perm e p F u ∙ collisions_perm e q F (λ M M' h r. u M M' (h ∙ sym (perm_length p)) r)

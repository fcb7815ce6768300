-- T_k does not depend on the order of the weights. Rule 2 written out for the first two weights is the same for both orders, since
-- binomial products change places and so do two additions; the rest is induction on the length. It holds for every sequence s,
-- power sums or not, so it needs no roots.
use Rattle.std.specs.Prelude.{◌≡◌, refl, ℕ, ◌≤◌, ◌<◌, length, ℤ, ◌+ℤ◌}
use Rattle.std.proofs.Common.{sym, ap₂, ◌∙◌, arith}
use Rattle.std.proofs.Math.Path.{ap, fun_ext}
use mathlib.Core.List.Permᴰ.{cons as pcons}
use mathlib.Core.List.Permᴰ.{nil as pnil}
use mathlib.Core.List.Permᴰ.{swap as pswap}
use mathlib.Core.List.Permᴰ.{trans as ptrans}
use mathlib.Core.List.{List, ◌∷◌, Permᴰ}
use Rattle.std.proofs.Math.IntN.{+ℤ_comm, +ℤ_assoc}
use Rattle.algebra.specs.Ring.{Ops, Laws}
use Rattle.algebra.specs.Ring as R
use Rattle.algebra.specs.Power.{pow, int}
use Rattle.algebra.specs.Sum.{total, total_add, total_neg}
use Rattle.algebra.specs.Binomial.{expand}
use Rattle.algebra.specs.Mix.{mix, mix_add, mix_neg, mix_total, mix_swap}
use Rattle.algebra.specs.Natural.{strong}
use Rattle.placements.proofs.Laying.{collisions, collisions_cons}
use Rattle.placements.proofs.Collisions.{collisions_places, collisions_swap, collisions_perm, perm_length}
use Rattle.definition.specs.Rules.{T}
use Rattle.definition.proofs.Rules.{T_cons}

module _ {A : Type 0} (o : Ops A) where
  -- the powers of e times u
  unfoldable pub powers_times : ℤ → (ℕ → A) → ℕ → A
  powers_times e u k = o.mul (pow o (int o e) k) (u k)

module _ {A : Type 0} {o : Ops A} (l : Laws o) (s : ℕ → A) where
  open o use {add as ◌⊕◌, neg as ⊖◌}

  infixl 60 ◌⊕◌
  infix 80 ⊖◌
  -- what rule 2 makes of a weight e: the binomial product of its row with a sequence, and a sum over its collisions with a list
  abbrev by : ℤ → (ℕ → A) → ℕ → A
  by e = mix o (powers_times o e s)

  abbrev over : ℤ → List ℤ → (List ℤ → A) → A
  over e M = total o (collisions ◌+ℤ◌ e M)

  pub T_mix : (e : ℤ) (M : List ℤ) (k : ℕ) → T o s (e ∷ M) k ≡ mix o (powers_times o e s) (T o s M) k ⊕ ⊖ total o (collisions ◌+ℤ◌ e M) (λ M'. T o s M' k)
  unfolding mix expand powers_times
  T_mix e M k = T_cons o s e M k ∙ ap (λ x. by e (T o s M) k ⊕ ⊖ x) (sym (collisions_places l.semi e M _))

  -- the first two weights written out
  two : (e d : ℤ) (M : List ℤ) (k : ℕ)
      → T o s (e ∷ d ∷ M) k
      ≡ (by e (by d (T o s M)) k ⊕ ⊖ over d M (λ M'. by e (T o s M') k))
      ⊕ ⊖ (T o s ((d +ℤ e) ∷ M) k ⊕ (over e M (λ M'. by d (T o s M') k) ⊕ ⊖ over e M (λ M'. over d M' (λ M''. T o s M'' k))))
  two e d M k = T_mix e (d ∷ M) k ∙ ap₂ (λ x y. x ⊕ ⊖ y) left (collisions_cons l.semi ◌+ℤ◌ e d M _ ∙ ap (λ x. T o s ((d +ℤ e) ∷ M) k ⊕ x) right)
    where
      left : by e (T o s (d ∷ M)) k ≡ by e (by d (T o s M)) k ⊕ ⊖ over d M (λ M'. by e (T o s M') k)
      left =
          ap (λ t. by e t k) (fun_ext (T_mix d M))
          ∙ mix_add l.semi k _ _ _
          ∙ ap (λ x. by e (by d (T o s M)) k ⊕ x) (mix_neg l k _ _ ∙ ap ⊖◌ (mix_total l.semi (collisions ◌+ℤ◌ d M) k _ (λ M'. T o s M')))

      right : over e M (λ M'. T o s (d ∷ M') k) ≡ over e M (λ M'. by d (T o s M') k) ⊕ ⊖ over e M (λ M'. over d M' (λ M''. T o s M'' k))
      right =
          ap (over e M) (fun_ext (λ M'. T_mix d M' k))
          ∙ total_add l.semi (collisions ◌+ℤ◌ e M) _ _
          ∙ ap (λ x. over e M (λ M'. by d (T o s M') k) ⊕ x) (total_neg l (collisions ◌+ℤ◌ e M) _)

  rearrange : (m a t b u m' t' u' : A) → m ≡ m' → t ≡ t' → u ≡ u' → (m ⊕ ⊖ a) ⊕ ⊖ (t ⊕ (b ⊕ ⊖ u)) ≡ (m' ⊕ ⊖ b) ⊕ ⊖ (t' ⊕ (a ⊕ ⊖ u'))
  rearrange m a t b u m' t' u' p q r = rw (p, q, r) (simp (R.ring, l, l.semi))

  T_swap : (e d : ℤ) (M : List ℤ) (k : ℕ) → T o s (e ∷ d ∷ M) k ≡ T o s (d ∷ e ∷ M) k
  T_swap e d M k =
      two e d M k
      ∙ rearrange _ _ _ _ _ _ _ _ (mix_swap l.semi k _ _ _) (ap (λ w. T o s (w ∷ M) k) (+ℤ_comm d e)) (collisions_swap l.semi ◌+ℤ◌ d e moved M _)
      ∙ sym (two d e M k)
    where
      moved : (x : ℤ) → (x +ℤ e) +ℤ d ≡ (x +ℤ d) +ℤ e
      moved x = +ℤ_assoc x e d ∙ ap (λ y. x +ℤ y) (+ℤ_comm e d) ∙ sym (+ℤ_assoc x d e)

  by_swaps : (n : ℕ) → ((L L' : List ℤ) → length L < n → Permᴰ L L' → (k : ℕ) → T o s L k ≡ T o s L' k)
      → {L L' : List ℤ} → Permᴰ L L' → length L ≤ n → (k : ℕ) → T o s L k ≡ T o s L' k
  by_swaps n ih pnil h k = refl
  by_swaps n ih (pcons {a = a} {b = b} {l₁ = L} {l₂ = L'} e p) h k =
      ap (λ x. T o s (x ∷ L) k) e
      ∙ T_mix b L k
      ∙ ap₂ (λ x y. by b x k ⊕ ⊖ y) (fun_ext (ih L L' (omega arith) p)) (collisions_perm l.semi ◌+ℤ◌ b p (λ M. T o s M k) (λ M M' q r. ih M M' (omega arith) r k))
      ∙ sym (T_mix b L' k)
  by_swaps n ih (pswap {a = a} {b = b} {l = L} e f) h k = rw (← e, ← f) (T_swap a b L k)
  by_swaps n ih (ptrans p q) h k = by_swaps n ih p h k ∙ by_swaps n ih q (let e = perm_length p in omega arith) k

  -- lists of the same weights have the same T_k
  pub T_perm : {L L' : List ℤ} → Permᴰ L L' → (k : ℕ) → T o s L k ≡ T o s L' k
  T_perm {L} {L'} p k =
      strong (λ n. (L L' : List ℤ) → length L ≤ n → Permᴰ L L' → (k : ℕ) → T o s L k ≡ T o s L' k)
      (λ n ih L L' h p. by_swaps n (λ M M' b. ih (length M) b M M' (omega arith)) p h) (length L) L L' (omega arith) p k

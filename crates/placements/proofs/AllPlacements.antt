-- The list `placements` has exactly the placements, each once. By induction on the positions: in a placement of L the first position
-- has nothing, or a weight w that occurs in L, and then the others have a placement of L without one w. Two in the list that
-- begin alike differ later, since the lists for the other positions have no repeats and no weight is tried twice.
use Rattle.std.specs.Prelude.{◌≡◌, ◌↔◌, length}
use Rattle.std.proofs.Math.Path.{refl, sym}
use Rattle.std.proofs.Common.{◌∙◌, ap}
use Rattle.std.proofs.Math.Logic.{⊎_elim, ∥∥₁_elim}
use mathlib.Core.HLevel.{⊥_prop, ¬_prop}
use mathlib.Core.List.{List, [], ◌∷◌, map, flat_map, head-eq_of_cons-eq, tail-eq_of_cons-eq}
use mathlib.Core.List.Perm
use mathlib.Core.List.Permᴰ.{cons as pcons}
use mathlib.Core.List.Permᴰ.{nil as pnil}
use mathlib.Core.List.Permᴰ.{trans as ptrans}
use mathlib.Core.List.{Permᴰ}
use mathlib.Core.List.Memᴰ
use mathlib.Core.List.Memᴰ.{head as mhead}
use mathlib.Core.List.Memᴰ.{tail as mtail}
use mathlib.Core.List.{Memᴰ}
use mathlib.Core.List.{not-mem-nil, mem-cast}
use mathlib.Core.List.Pairwise
use mathlib.Core.List.{Nodup, Nodup-nil, Nodup-cons, Nodup-append}
use Rattle.std.proofs.Math.Option.{Option, none, some, none-ne-some, some-injective}
use Prim.Native.Nat.{ℕ, zero, suc}
use Rattle.std.proofs.Math.Nat.{suc_inj, suc-ne-zero}
use Rattle.placements.specs.Placements.{different, without, used, Placement, placements}
use Rattle.placements.proofs.Multiplicity.{count_same, count_perm, without_same, without_perm, without_cong}
use Rattle.placements.proofs.Multiplicity.{different_in, different_there, different_once}

module _ {X Y : Type 0} where
  flat_map_inv : (h : X → List Y) (xs : List X) {y : Y} → Memᴰ y (flat_map h xs) → (x : X) × Memᴰ x xs × Memᴰ y (h x)
  unfolding flat_map
  flat_map_inv h [] m = absurd (Memᴰ.not-nil m)
  flat_map_inv h (x ∷ xs) m = ⊎_elim (λ k. (x, mhead refl, k)) (λ k. let r = flat_map_inv h xs k in (r.0, mtail r.1, r.2)) (Memᴰ.append_cases (h x) m)

  flat_map_in : (h : X → List Y) {x : X} {xs : List X} {y : Y} → Memᴰ x xs → Memᴰ y (h x) → Memᴰ y (flat_map h xs)
  unfolding flat_map
  flat_map_in h {y = y} (mhead {xs = xs} e) k = Memᴰ.append_left (flat_map h xs) (rw e at k)
  flat_map_in h (mtail {x = x} m) k = Memᴰ.append_right (h x) (flat_map_in h m k)

  flat_map_once : (h : X → List Y) (xs : List X) → Nodup xs → ((x : X) → Nodup (h x))
      → ((x x' : X) → ¬ (x ≡ x') → (y : Y) → Memᴰ y (h x) → Memᴰ y (h x') → ⊥) → Nodup (flat_map h xs)
  unfolding flat_map
  flat_map_once h [] d e f = Nodup-nil
  flat_map_once h (x ∷ xs) d e f = let r = Nodup-cons.0 d in Nodup-append.1 (
    e x,
    flat_map_once h xs r.1 e f,
    λ y k m. ∥∥₁_elim k ⊥_prop (λ k'. ∥∥₁_elim m ⊥_prop (λ m'.
        let t = flat_map_inv h xs m' in
        f x t.0 (λ q. r.0 (mem-cast q ∣ t.1 ∣₁)) y k' t.2)),
  )

module _ {W : Type 0} (eq : Discrete W) where
  -- no placement is there twice
  pub each_once : (n : ℕ) (L : List W) → Nodup (placements eq n L)
  unfolding placements
  each_once zero [] = Nodup-cons.1 (not-mem-nil, Nodup-nil)
  each_once zero (w ∷ L) = Nodup-nil
  each_once (suc n) L = Nodup-append.1 (
    Pairwise.map (λ a b. ¬_prop) (λ π. none ∷ π) (λ a b h e. h (tail-eq_of_cons-eq e)) (each_once n L),
    flat_map_once (λ w. map (λ π. some w ∷ π) (placements eq n (without eq w L))) (different eq L) (different_once eq L)
        (λ w. Pairwise.map (λ a b. ¬_prop) (λ π. some w ∷ π) (λ a b h e. h (tail-eq_of_cons-eq e)) (each_once n (without eq w L)))
        (λ v w h π k m. let r = Memᴰ.of_map _ (placements eq n (without eq v L)) k in let s = Memᴰ.of_map _ (placements eq n (without eq w L)) m in
        h (some-injective v w (head-eq_of_cons-eq (r.2 ∙ sym s.2)))),
    λ π k m. ∥∥₁_elim k ⊥_prop (λ k'. ∥∥₁_elim m ⊥_prop (λ m'.
        let r = Memᴰ.of_map _ (placements eq n L) k' in
        let t = flat_map_inv _ (different eq L) m' in
        let s = Memᴰ.of_map _ (placements eq n (without eq t.0 L)) t.2 in
        none-ne-some t.0 (head-eq_of_cons-eq (r.2 ∙ sym s.2)))),
  )

  -- each list that is there is a placement
  placements_sound : (n : ℕ) (L : List W) (π : List (Option W)) → Memᴰ π (placements eq n L) → (length π ≡ n) × Permᴰ (used π) L
  unfolding placements used
  placements_sound zero [] π m = rw (Memᴰ.eq_of_singleton m) (refl, pnil)
  placements_sound zero (w ∷ L) π m = absurd (Memᴰ.not-nil m)
  placements_sound (suc n) L π m = ⊎_elim
      (λ k. let r = Memᴰ.of_map _ (placements eq n L) k in
      let s = placements_sound n L r.0 r.1 in
      rw (← r.2) (ap suc s.0, s.1))
      (λ k. let t = flat_map_inv _ (different eq L) k in
      let r = Memᴰ.of_map _ (placements eq n (without eq t.0 L)) t.2 in
      let s = placements_sound n (without eq t.0 L) r.0 r.1 in
      rw (← r.2) (ap suc s.0, ptrans (pcons refl s.1) (without_perm eq t.0 L (different_there eq t.0 L t.1))))
      (Memᴰ.append_cases (map (λ π. none ∷ π) (placements eq n L)) m)

  -- and each placement is there
  placements_complete : (n : ℕ) (L : List W) (π : List (Option W)) → length π ≡ n → Permᴰ (used π) L → Memᴰ π (placements eq n L)
  unfolding placements used
  placements_complete zero L [] e p = rw (← Perm.nil-eq ∣ p ∣₁) (mhead refl)
  placements_complete zero L (x ∷ π) e p = absurd (suc-ne-zero _ e)
  placements_complete (suc n) L [] e p = absurd (suc-ne-zero _ (sym e))
  placements_complete (suc n) L (none ∷ π) e p = Memᴰ.append_left _ (Memᴰ.map (λ π. none ∷ π) (placements_complete n L π (suc_inj e) p))
  placements_complete (suc n) L (some w ∷ π) e p = Memᴰ.append_right (map (λ π. none ∷ π) (placements eq n L))
      (flat_map_in (λ w. map (λ π. some w ∷ π) (placements eq n (without eq w L)))
      (different_in eq w L (λ z. suc-ne-zero _ (sym (count_same eq w w (used π) refl) ∙ count_perm eq w p ∙ z)))
      (Memᴰ.map (λ π. some w ∷ π) (placements_complete n (without eq w L) π (suc_inj e) (rw (without_same eq w w (used π) refl) at (without_cong eq w p)))))

  -- the list has exactly the placements
  pub all_placements : (n : ℕ) (L : List W) (π : List (Option W)) → Memᴰ π (placements eq n L) ↔ Placement n L π
  all_placements n L π = (
    λ m. let r = placements_sound n L π m in record { positions = r.0; used_up = r.1 },
    λ q. placements_complete n L π q.positions q.used_up,
  )

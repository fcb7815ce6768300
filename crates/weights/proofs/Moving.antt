-- The places while the later weights move up: those from `at` on up to i hold what stood one place further, the rest is as it was.
-- A turn stores at the seam between the two parts, and so does the 0 of the place that is freed.
use Rattle.std.proofs.Math.Path.{◌≡◌, ◌∙◌}
use Rattle.std.proofs.Common.{sym, ap, add-one, arith, length-append, length-take, length-drop, take-append-drop, take-suc, drop-cons, length-take-le}
use Rattle.std.specs.Prelude.{true, ℤ, pos, length, take, drop, set}
use mathlib.Core.List.{List, [], ◌∷◌, ◌++◌, append-nil, append_assoc}
use Prim.Native.Nat.{ℕ, ◌+◌, ◌-◌, ◌≤◌, ◌<◌}
use Rattle.std.proofs.Math.ListN.{get_or}
use Rattle.std.proofs.Math.Seq.{slice, slice_empty, set_at, append_snoc, get_or-append-add, get_or-drop}
use Rattle.std.proofs.lemmas.List.{drop-append-le}
use Rattle.limits.specs.Limits.{capacity}
use Rattle.weights.specs.Lists.{among, taken_out, without_at}
use Rattle.weights.specs.Laws.{among_there, there_among, without_taken}
use Rattle.weights.specs.declared.Weights.{Weights}

abbrev moved : List ℤ → ℕ → ℕ → List ℤ
moved l at i = take at l ++ slice (at + 1) (i + 1) l ++ drop i l

module _ (l : List ℤ) (at i : ℕ) (from : at ≤ i) (within : i < length l) where
  abbrev front : List ℤ
  front = take at l ++ slice (at + 1) (i + 1) l

  front_length : length front ≡ i
  front_length = simp (length-append, length-drop, length-take) (omega arith)

  stored : (v : ℤ) → set (moved l at i) i v ≡ front ++ v ∷ drop (i + 1) l
  stored v = rw (drop-cons l i (pos 0) within, ← add-one i) (set_at front (get_or l i (pos 0)) (drop (i + 1) l) v i front_length)

  -- one weight more has moved up
  slice_more : i + 1 < length l → slice (at + 1) (i + 1 + 1) l ≡ slice (at + 1) (i + 1) l ++ get_or l (i + 1) (pos 0) ∷ []
  slice_more further =
      let short : at + 1 ≤ length (take (i + 1) l) = rw (length-take-le (i + 1) l (omega arith)) (omega arith) in
      rw (add-one (i + 1), take-suc l (i + 1) (pos 0) further) (drop-append-le (at + 1) (take (i + 1) l) _ short)

  -- the place behind i is as it was
  moved_next : get_or (moved l at i) (i + 1) (pos 0) ≡ get_or l (i + 1) (pos 0)
  moved_next =
      ap (λ (n : ℕ). get_or (moved l at i) (n + 1) (pos 0)) (sym front_length)
      ∙ get_or-append-add front (drop i l) 1 (pos 0)
      ∙ get_or-drop i l 1 (pos 0)

-- the places w of a list s after the turns up to i
pub record Moving (s : Weights) (at : ℕ) (w : List ℤ) (i : ℕ) : Type 0 where
  pub full : length s.places ≡ capacity
  pub short : s.len ≤ capacity
  pub from : at ≤ i
  pub within : i < s.len
  pub so_far : w ≡ moved s.places at i

pub moving_none : {s : Weights} {at : ℕ} → length s.places ≡ capacity → among s at ≡ true → Moving s at s.places at
moving_none {s} {at} full there =
    let h = there_among s at there in
    record {
      full = full;
      short = h.0;
      from = omega arith;
      within = h.1;
      so_far = rw (slice_empty (at + 1) s.places, append-nil (take at s.places)) (sym (take-append-drop at s.places));
    }

pub moving_more : {s : Weights} {at : ℕ} {w : List ℤ} {i : ℕ} {v : ℤ} → Moving s at w i → i + 1 < s.len → v ≡ get_or w (i + 1) (pos 0) → Moving s at (set w i v) (i + 1)
moving_more {s} {at} {w} {i} {v} m further k =
    let l = s.places in
    let near : i < length l = omega (arith, m.full, m.short) in
    let far : i + 1 < length l = omega (arith, m.full, m.short) in
    record {
      full = m.full;
      short = m.short;
      from = omega (arith, m.from);
      within = further;
      so_far =
          rw (k, m.so_far, moved_next l at i m.from near)
          (stored l at i m.from near (get_or l (i + 1) (pos 0))
          ∙ sym (append_snoc (front l at i m.from near) (get_or l (i + 1) (pos 0)) (drop (i + 1) l))
          ∙ rw (slice_more l at i m.from near far) (simp append_assoc));
    }

-- behind the last weight the freed place holds 0
pub freed : {s : Weights} {at : ℕ} {w : List ℤ} {i : ℕ} → Moving s at w i → s.len ≤ i + 1 → record { places = set w i (pos 0); len = i } ≡ without_at s at
unfolding taken_out
freed {s} {at} {w} {i} m end =
    let last : i + 1 ≡ s.len = omega (arith, m.within) in
    let one_less : i ≡ s.len - 1 = omega arith in
    let there = among_there s at m.short (omega (arith, m.from, m.within)) in
    rw (m.so_far, stored s.places at i m.from (omega (arith, m.full, m.short)) (pos 0), last, without_taken s at there, ← one_less)

-- What callers use of the definitions: the cases by plain facts, and what becomes of the weights that a list holds.
-- A field that is an array is a list whose length is known only where a function starts (`.good`), so the laws that need it ask for it.
use Rattle.std.specs.Prelude.{◌≡◌, Bool, true, false, cond, ◌&&◌, List, [], ◌∷◌, ◌++◌, ℕ, suc, ◌+◌, ◌-◌, ◌≤◌, ◌<◌, ◌^◌, min}
use Rattle.std.specs.Prelude.{ℤ, pos, ◌+ℤ◌, take, get_or, replicate, leb, ltb}
use Rattle.std.proofs.Math.Path.{refl}
use Rattle.std.proofs.Common.{◌∙◌, append-nil, add-one, arith, drop_of_length-le, length-append, drop-cons, take_all, take_at}
use Rattle.std.proofs.Math.Bool.{and-false, and-eq-true_iff}
use Rattle.std.proofs.Math.Decide.{dec_le}
use Rattle.std.specs.Int.Signed.{mag}
use Rattle.std.proofs.Math.ListN.{length, drop, length-take, length-drop}
use Rattle.std.proofs.Math.Seq.{slice, take-append_seam, take-set-lt, get_or-take, take-take}
use borrow.Author.Tests.{lt-ltb, le-leb, lt-leb, leb-true, ltb-true}
use Rattle.placements.specs.Places.{with_sum}
use Rattle.placements.proofs.Collisions.{length_with_sum}
use Rattle.limits.specs.Limits.{capacity}
use Rattle.weights.specs.Lists.{of_slice, listed, among, fits, taken_out, put_in, without_at, with_sum_at}
use Rattle.weights.specs.declared.Weights.{Weights}

module _ (s : Weights) (at : ℕ) where
  -- ---- the cases

  pub among_long : capacity < s.len → among s at ≡ false
  unfolding among
  among_long h = rw (lt-leb s.len capacity h)

  pub among_short : s.len ≤ capacity → among s at ≡ ltb at s.len
  unfolding among
  among_short h = rw (le-leb s.len capacity h)

  pub among_there : s.len ≤ capacity → at < s.len → among s at ≡ true
  among_there h k = among_short h ∙ lt-ltb at s.len k

  pub there_among : among s at ≡ true → (s.len ≤ capacity) × (at < s.len)
  unfolding among
  there_among h =
      let both = (and-eq-true_iff (leb s.len capacity) (ltb at s.len)).0 h in
      (leb-true s.len capacity both.0, ltb-true at s.len both.1)

  pub without_kept : among s at ≡ false → without_at s at ≡ s
  unfolding without_at
  without_kept h = rw h

  pub without_taken : among s at ≡ true → without_at s at ≡ taken_out s at
  unfolding without_at
  without_taken h = rw h

  module _ (e : ℤ) where
    pub with_sum_kept : among s at ≡ false → with_sum_at s at e ≡ s
    unfolding with_sum_at
    with_sum_kept h = rw h

    pub with_sum_unfit : fits (get_or s.places at (pos 0) +ℤ e) ≡ false → with_sum_at s at e ≡ s
    unfolding with_sum_at
    with_sum_unfit h = rw (h, and-false (among s at))

    pub with_sum_put : among s at ≡ true → fits (get_or s.places at (pos 0) +ℤ e) ≡ true → with_sum_at s at e ≡ put_in s at e
    unfolding with_sum_at
    with_sum_put h k = rw (h, k)

  -- whatever the case, a sum leaves the count and the number of places
  cond_same : {A : Type 0} (t : Bool) (r : Weights) (f : Weights → A) → f r ≡ f s → f (cond t r s) ≡ f s
  cond_same true r f h = h
  cond_same false r f h = refl

  pub with_sum_len : (e : ℤ) → (with_sum_at s at e).len ≡ s.len
  unfolding with_sum_at put_in
  with_sum_len e = cond_same (among s at && fits (get_or s.places at (pos 0) +ℤ e)) (put_in s at e) (λ r. r.len) refl

  pub with_sum_places : (e : ℤ) → length (with_sum_at s at e).places ≡ length s.places
  unfolding with_sum_at put_in
  with_sum_places e = cond_same (among s at && fits (get_or s.places at (pos 0) +ℤ e)) (put_in s at e) (λ r. length r.places) (simp length_with_sum)

-- ---- what becomes of the weights

-- a list made of given weights holds those that have a place
pub of_slice_holds : {s : Weights} (w : List ℤ) → s ≡ of_slice w → (s.len ≡ length w) × (listed s ≡ take capacity w)
unfolding of_slice listed
of_slice_holds w e = rw e (refl, front capacity (replicate capacity (pos 0)) refl)
  where
    front : (n : ℕ) (z : List ℤ) → length z ≡ n → take (length w) (take n w ++ drop (length w) z) ≡ take n w
    front n z l = elim (dec_le (length w) n) [
      | yes h ↦ rw (take_all n w h) (take-append_seam w _)
      | no h ↦ rw (drop_of_length-le z {i = length w} (omega arith), append-nil) (take_all (length w) (take n w) (rw length-take (omega arith)))
    ]

module _ (s : Weights) where
  pub listed_min : length (listed s) ≡ min s.len (length s.places)
  unfolding listed
  listed_min = length-take s.len s.places

  pub listed_none : s.len ≡ 0 → listed s ≡ []
  unfolding listed
  listed_none h = rw h

  pub listed_at : (i : ℕ) → i < s.len → get_or (listed s) i (pos 0) ≡ get_or s.places i (pos 0)
  unfolding listed
  listed_at i h = get_or-take s.len s.places i (pos 0) h

module _ (s : Weights) (full : length s.places ≡ capacity) (short : s.len ≤ capacity) where
  pub listed_length : length (listed s) ≡ s.len
  listed_length = omega (arith, listed_min s)

  module _ (at : ℕ) (within : at < s.len) where
    pub without_len : (without_at s at).len ≡ s.len - 1
    unfolding taken_out
    without_len = rw (without_taken s at (among_there s at short within))

    left : List ℤ
    left = take at s.places ++ slice (at + 1) s.len s.places

    left_length : length left ≡ s.len - 1
    unfolding left
    left_length = simp (length-append, length-drop, length-take) (omega arith)

    pub without_places : length (without_at s at).places ≡ capacity
    unfolding taken_out
    without_places = rw (without_taken s at (among_there s at short within)) (simp (length-append, length-drop, length-take) (omega arith))

    -- the others, in order; of the first weight (at = 0) they are `drop 1 (listed s)`
    pub without_listed : listed (without_at s at) ≡ take at (listed s) ++ drop (suc at) (listed s)
    unfolding listed taken_out left
    without_listed =
        rw (without_taken s at (among_there s at short within))
        (take_at left (pos 0 ∷ drop s.len s.places) (s.len - 1) left_length
        ∙ rw (add-one at, take-take at s.len s.places (omega arith)))

    pub with_sum_listed : (e : ℤ) → mag (get_or (listed s) at (pos 0) +ℤ e) < 2 ^ 31 → listed (with_sum_at s at e) ≡ with_sum (listed s) at e
    unfolding listed with_sum put_in
    with_sum_listed e fit =
        rw (with_sum_put s at e (among_there s at short within) (lt-ltb _ _ (rw (listed_at s at within) at fit)))
        (take-set-lt s.len s.places at _ within ∙ rw (listed_at s at within))

  -- the first weight, and the others
  pub listed_first : 0 < s.len → listed s ≡ get_or s.places 0 (pos 0) ∷ listed (without_at s 0)
  listed_first some =
      drop-cons (listed s) 0 (pos 0) (omega (arith, listed_length))
      ∙ rw (without_listed 0 some, listed_at s 0 some)

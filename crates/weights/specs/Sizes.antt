-- The list's rule: the sizes of its weights add up to at most the largest weight times the capacity, so every weight in it is at
-- most that, and sums fit their word. A job's list has it, since none of its weights is above the largest. A list that comes of it by taking a weight out, and by
-- adding that weight to another, has it too: the sum of two weights is not larger than the two together.
use Rattle.std.specs.Prelude.{◌≡◌, Bool, true, false, cond, List, [], ◌∷◌, ◌++◌, ℕ, zero, suc, ◌+◌, ◌*◌, ◌-◌, ◌≤◌, ◌<◌, ◌^◌}
use Rattle.std.specs.Prelude.{ℤ, pos, negsuc, ◌+ℤ◌, nat_abs, ltb, length, take, drop, get_or}
use Rattle.std.proofs.Common.{sym, ◌∙◌, arith}
use Rattle.std.specs.Int.Signed.{mag}
use Rattle.algebra.specs.Natural.{naturals}
use Rattle.algebra.specs.Sum.{total, total_nil, total_cons}
use Rattle.placements.specs.Places.{with_sum}
use Rattle.limits.specs.Limits.{capacity, largest_weight}
use Rattle.weights.specs.Lists.{listed, without_at, with_sum_at}
use Rattle.weights.specs.Laws.{listed_length, listed_at, without_len, without_places, without_listed, with_sum_len, with_sum_places, with_sum_listed}
use Rattle.weights.specs.declared.Weights.{Weights}

-- the sizes of the weights, added up
unfoldable pub size : List ℤ → ℕ
size L = total naturals L nat_abs

-- each weight is from -b to b
abbrev pub Within : ℕ → List ℤ → Type 0
Within b L = (i : ℕ) → i < length L → nat_abs (get_or L i (pos 0)) ≤ b

pub record Bounded (s : Weights) : Type 0 where
  pub full : length s.places ≡ capacity
  pub short : s.len ≤ capacity
  pub small : size (listed s) ≤ largest_weight * capacity

-- ---- sizes of whole numbers (laws of ℤ that name no list)

nat_abs_cond : (t : Bool) (a b : ℕ) → nat_abs (cond t (negsuc (suc b - suc a)) (pos (a - suc b))) ≤ a + suc b
nat_abs_cond true a b = omega arith
nat_abs_cond false a b = omega arith

pub nat_abs_add : (x y : ℤ) → nat_abs (x +ℤ y) ≤ nat_abs x + nat_abs y
nat_abs_add (pos a) (pos b) = omega arith
nat_abs_add (pos a) (negsuc b) = nat_abs_cond (ltb a (suc b)) a b
nat_abs_add (negsuc a) (pos b) = omega (arith, nat_abs_cond (ltb b (suc a)) b a)
nat_abs_add (negsuc a) (negsuc b) = omega arith

pub mag_nat_abs : (z : ℤ) → mag z ≤ nat_abs z
mag_nat_abs (pos n) = omega arith
mag_nat_abs (negsuc n) = omega arith

-- ---- sizes of lists

pub size_nil : size [] ≡ 0
unfolding size
size_nil = total_nil naturals nat_abs

pub size_cons : (w : ℤ) (L : List ℤ) → size (w ∷ L) ≡ nat_abs w + size L
unfolding size
size_cons w L = total_cons naturals w L nat_abs

-- no weight is larger than all together
pub size_at : (L : List ℤ) (i : ℕ) → nat_abs (get_or L i (pos 0)) ≤ size L
size_at [] i = rw size_nil (omega arith)
size_at (w ∷ L) zero = rw (size_cons w L) (omega arith)
size_at (w ∷ L) (suc i) = rw (size_cons w L) (omega (arith, size_at L i))

pub size_within : (b : ℕ) (L : List ℤ) → Within b L → size L ≤ b * length L
size_within b [] h = rw size_nil (omega arith)
size_within b (w ∷ L) h = rw (size_cons w L) (omega (arith, h 0 (omega arith), size_within b L (λ i k. h (suc i) (omega arith))))

pub size_without : (L : List ℤ) (at : ℕ) → at < length L → nat_abs (get_or L at (pos 0)) + size (take at L ++ drop (suc at) L) ≡ size L
size_without [] at h = absurd (omega arith)
size_without (w ∷ L) zero h = sym (size_cons w L)
size_without (w ∷ L) (suc at) h = rw (size_cons w L, size_cons w (take at L ++ drop (suc at) L)) (omega (arith, size_without L at (omega arith)))

pub size_with_sum : (M : List ℤ) (j : ℕ) (e : ℤ) → size (with_sum M j e) ≤ size M + nat_abs e
unfolding with_sum
size_with_sum [] j e = omega arith
size_with_sum (d ∷ M) zero e = rw (size_cons d M, size_cons (d +ℤ e) M) (omega (arith, nat_abs_add d e))
size_with_sum (d ∷ M) (suc j) e = rw (size_cons d M, size_cons d (with_sum M j e)) (omega (arith, size_with_sum M j e))

-- ---- the rule is kept

pub job_bounded : (s : Weights) → length s.places ≡ capacity → s.len ≤ capacity → Within largest_weight (listed s) → Bounded s
job_bounded s full short h = record { full = full; short = short; small = omega (arith, size_within largest_weight (listed s) h, listed_length s full short) }

-- a weight is taken out, and added to another
module _ (s : Weights) (b : Bounded s) (at : ℕ) (within : at < s.len) where
  abbrev rest : Weights
  rest = without_at s at

  abbrev weight : ℤ
  weight = get_or s.places at (pos 0)

  pub rest_size : nat_abs weight + size (listed rest) ≡ size (listed s)
  rest_size =
      rw (without_listed s b.full b.short at within, ← listed_at s at within)
      (size_without (listed s) at (rw (listed_length s b.full b.short) within))

  pub rest_bounded : Bounded rest
  rest_bounded = record {
    full = without_places s b.full b.short at within;
    short = omega (arith, without_len s b.full b.short at within, b.short);
    small = omega (arith, rest_size, b.small);
  }

  -- the sum fits its word
  pub collision_fits : (j : ℕ) → mag (get_or (listed rest) j (pos 0) +ℤ weight) < 2 ^ 31
  collision_fits j = omega (
    arith,
    mag_nat_abs (get_or (listed rest) j (pos 0) +ℤ weight),
    nat_abs_add (get_or (listed rest) j (pos 0)) weight,
    size_at (listed rest) j,
    rest_size,
    b.small,
  )

  module _ (j : ℕ) (there : j < rest.len) where
    abbrev met : Weights
    met = with_sum_at rest j weight

    pub collision_listed : listed met ≡ with_sum (listed rest) j weight
    collision_listed = with_sum_listed rest rest_bounded.full rest_bounded.short j there weight (collision_fits j)

    pub collision_size : size (listed met) ≤ size (listed s)
    collision_size = rw collision_listed (omega (arith, size_with_sum (listed rest) j weight, rest_size))

    pub collision_bounded : Bounded met
    collision_bounded = record {
      full = with_sum_places rest j weight ∙ rest_bounded.full;
      short = omega (arith, with_sum_len rest j weight, rest_bounded.short);
      small = omega (arith, collision_size, b.small);
    }

-- The product of m! and N (document 01, "A job in numbers"), of the weights that a list holds: how large they can be, that N is a
-- whole number, and that what stands behind the r-th place makes no difference.
use Rattle.std.specs.Prelude.{◌≡◌, List, [], ◌∷◌, ℕ, zero, suc, ◌*◌, ◌^◌, ◌≤◌, ◌<◌, ℤ, pos, length, get_or}
use Rattle.std.proofs.Common.{sym, ◌∙◌, mul-le-mul, mul-zero, le_trans, arith, ext_get_or}
use Rattle.std.proofs.Math.Nat.{pow-zero, pow-succ', pow-le-pow_right}
use Rattle.algebra.specs.Binomial.{fact, fact_zero, fact_suc, fact_positive, falling, falling_zero, falling_none, falling_suc}
use Rattle.algebra.specs.Integer.{ℤ_eq}
use Rattle.placements.specs.Placements.{count, factorials, placed}
use Rattle.placements.proofs.Multiplicity.{factorials_nil, factorials_cons, count_le}
use Rattle.placements.proofs.Number.{placed_whole}
use Rattle.limits.specs.Limits.{capacity}
use Rattle.weights.specs.Lists.{listed}
use Rattle.weights.specs.Laws.{listed_min, listed_at}
use Rattle.weights.specs.declared.Weights.{Weights}

-- ---- laws of factorials, multiplicities and falling products, whatever the list

pub fact_mono : (m n : ℕ) → m ≤ n → fact m ≤ fact n
fact_mono zero n h = rw fact_zero (fact_positive n)
fact_mono (suc m) zero h = absurd (omega arith)
fact_mono (suc m) (suc n) h = rw (fact_suc m, fact_suc n) (mul-le-mul h (fact_mono m n (omega arith)))

pub factorials_le : {W : Type 0} (eq : Discrete W) (L : List W) → factorials eq L ≤ fact (length L)
factorials_le eq [] = rw (factorials_nil eq, fact_zero) (omega arith)
factorials_le eq (w ∷ L) =
    let h : count eq w L ≤ length L = count_le eq w L in
    rw (factorials_cons eq w L, fact_suc (length L)) (mul-le-mul (omega arith) (factorials_le eq L))

pub falling_past : (n r : ℕ) → n < r → falling n r ≡ 0
falling_past n zero h = absurd (omega arith)
falling_past zero (suc r) h = falling_none r
falling_past (suc n) (suc r) h = rw (falling_suc n r, falling_past n r (omega arith)) (mul-zero (suc n))

pub falling_le : (b n r : ℕ) → n ≤ b → falling n r ≤ b ^ r
falling_le b n zero h = rw (falling_zero n, pow-zero b) (omega arith)
falling_le b zero (suc r) h = rw (falling_none r) (omega arith)
falling_le b (suc n) (suc r) h = rw (falling_suc n r, pow-succ' b r) (mul-le-mul h (falling_le b n r (omega arith)))

-- ---- of a list's weights

-- at most the factorial of the capacity, a word of 32 bits
pub factorials_small : (L : List ℤ) → length L ≤ capacity → factorials ℤ_eq L < 2 ^ 32
unfolding fact
factorials_small L h = omega (arith, factorials_le ℤ_eq L, fact_mono (length L) capacity h)

-- at most 255 to the capacity, a word of 64 bits
pub falling_small : (n r : ℕ) → n ≤ 255 → r ≤ capacity → falling n r < 2 ^ 64
falling_small n r h k = omega (arith, le_trans (falling_le 255 n r h) (pow-le-pow_right {n = 255} (omega arith) k))

-- N is a whole number: the product of m! goes into n (n - 1) .. (n - r + 1) and leaves nothing
pub whole : (s : Weights) (n : ℕ) → factorials ℤ_eq (listed s) * placed n (listed s) ≡ falling n (length (listed s))
whole s n = placed_whole n (listed s)

-- two lists with the same r and the same first r places hold the same weights, so what stands behind them makes no difference
module _ (s t : Weights) (long : length s.places ≡ length t.places) (r : s.len ≡ t.len)
    (same : (i : ℕ) → i < s.len → get_or s.places i (pos 0) ≡ get_or t.places i (pos 0)) where
  pub listed_behind : listed s ≡ listed t
  listed_behind = ext_get_or (pos 0) (listed s) (listed t) (rw (listed_min s, listed_min t, r, long))
      (λ i k.
      let l : i < s.len = omega (arith, listed_min s) in
      listed_at s i l ∙ same i l ∙ sym (listed_at t i (omega arith)))

  pub factorials_behind : factorials ℤ_eq (listed s) ≡ factorials ℤ_eq (listed t)
  factorials_behind = rw listed_behind

  pub placed_behind : (n : ℕ) → placed n (listed s) ≡ placed n (listed t)
  placed_behind n = rw listed_behind

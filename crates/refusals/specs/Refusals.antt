-- Document 01, "The numbers we send back": the checks of the resolvent entry, rows 2 to 12 in that order, then 16; the number of the
-- first that applies; and what is known of a call to which none does. Other entries combine the same parts.
use Rattle.std.specs.Prelude.{◌≡◌, Bool, not, ◌||◌, List, [], ◌∷◌, ◌++◌, ℕ, suc, ◌≤◌, ◌<◌, ◌%◌, leb, ltb, eqb, length, get_or, take, ℤ, pos, nat_abs}
use Rattle.limits.specs.Limits.{least_modulus, largest_modulus, highest_degree, capacity, largest_weight, most_placements, room}
use Rattle.checks.specs.Checks.{Table, first, some_below}
use Rattle.algebra.specs.Integer.{ℤ_eq}
use Rattle.residues.specs.Prime.{Prime}
use Rattle.residues.specs.Trial.{is_prime}
use Rattle.residues.specs.Residues.{Words}
use Rattle.placements.specs.Placements.{factorials, placed}

-- what a call is given: the modulus, the coefficients of f, the places of the weight list with their count, the output slice
-- and the work room
pub record Call : Type 0 where
  pub p : ℕ
  pub f : List ℕ
  pub places : List ℤ
  pub r : ℕ
  pub output : List ℕ
  pub work : List ℕ

-- the first r weights: "places after the r-th count for nothing"
abbrev pub weights : Call → List ℤ
weights c = take c.r c.places

-- the number of placements
abbrev pub N : Call → ℕ
N c = placed (length c.f) (weights c)

-- ---- the table: a test and its number in each row
unfoldable pub zero_or_above : ℕ → ℕ → Bool
zero_or_above limit n = eqb n 0 || ltb limit n

-- "0 or outside -16 to 16"
abbrev pub bad_weight : ℤ → Bool
bad_weight e = zero_or_above largest_weight (nat_abs e)

abbrev pub some_bad : List ℤ → Bool
some_bad L = some_below (λ i. bad_weight (get_or L i (pos 0))) (length L)

unfoldable pub modulus_checks : ℕ → Table
modulus_checks p =
    -- p is below 257 or above 2,147,483,647
    (ltb p least_modulus || ltb largest_modulus p, 2)
    -- p is not prime
    ∷ (not (is_prime p), 3)
    ∷ []

unfoldable pub degree_checks : List ℕ → Table
degree_checks f =
    -- n is 0 or above 12
    (zero_or_above highest_degree (length f), 4)
    ∷ []

unfoldable pub coefficient_checks : ℕ → List ℕ → Table
coefficient_checks p f =
    -- some coefficient is p or more
    (some_below (λ i. leb p (get_or f i 0)) (length f), 5)
    ∷ []

unfoldable pub weight_checks : ℕ → ℕ → List ℤ → Table
weight_checks n r L =
    -- r is 0 or above 6
    (zero_or_above capacity r, 6)
    -- r is above n
    ∷ (ltb n r, 7)
    -- some weight is 0 or outside -16 to 16
    ∷ (some_bad L, 8)
    ∷ []

unfoldable pub number_checks : ℕ → ℕ → Table
number_checks p N =
    -- N is above 1,024
    (ltb most_placements N, 9)
    -- N is p or more
    ∷ (leb p N, 10)
    ∷ []

unfoldable pub room_checks : ℕ → ℕ → ℕ → Table
room_checks N output work =
    -- the output slice is shorter than N
    (ltb output N, 11)
    -- the work room is shorter than 12(N+1)
    ∷ (ltb work (room N), 12)
    ∷ []

unfoldable pub divisor_checks : ℕ → ℕ → ℕ → Table
divisor_checks p product N =
    -- a number that rule 3 (the product of m!) or rule 4 (each from 1 to N) of the definition divides by is zero modulo p
    (eqb (product % p) 0 || some_below (λ i. eqb (suc i % p) 0) N, 16)
    ∷ []

-- rows 2 to 10: what a job breaks by itself, whatever is lent
unfoldable pub job_checks : ℕ → List ℕ → ℕ → List ℤ → Table
job_checks p f r L =
    modulus_checks p
    ++ (degree_checks f
    ++ (coefficient_checks p f
    ++ (weight_checks (length f) r L
    ++ number_checks p (placed (length f) L))))

-- rows 2 to 12
unfoldable pub call_checks : Call → Table
call_checks c = job_checks c.p c.f c.r (weights c) ++ room_checks (N c) (length c.output) (length c.work)

-- "The resolvent entry checks 2 to 12 in that order, then 16."
unfoldable pub checks : Call → Table
checks c = call_checks c ++ divisor_checks c.p (factorials ℤ_eq (weights c)) (N c)

unfoldable pub refusal : Call → ℕ
refusal c = first (checks c)

-- of these rows, those that a weight list breaks by itself, whatever the polynomial (request 13)
unfoldable pub list_checks : ℕ → List ℤ → Table
list_checks r L = (zero_or_above capacity r, 6) ∷ (some_bad L, 8) ∷ []

unfoldable pub list_refusal : ℕ → List ℤ → ℕ
list_refusal r L = first (list_checks r L)

-- ---- what holds where no row of a part applies, in plain facts
pub record GoodModulus (p : ℕ) : Type 0 where
  pub low : least_modulus ≤ p
  pub high : p ≤ largest_modulus
  pub prime : Prime p

pub record GoodDegree (f : List ℕ) : Type 0 where
  pub some : 1 ≤ length f
  pub high : length f ≤ highest_degree

-- a weight other than 0, from -16 to 16
abbrev pub Weight : ℤ → Type 0
Weight e = (1 ≤ nat_abs e) × (nat_abs e ≤ largest_weight)

pub record GoodWeights (n r : ℕ) (L : List ℤ) : Type 0 where
  pub some : 1 ≤ r
  pub high : r ≤ capacity
  pub fits : r ≤ n
  pub each : (i : ℕ) → i < length L → Weight (get_or L i (pos 0))

pub record GoodNumber (p N : ℕ) : Type 0 where
  pub high : N ≤ most_placements
  pub below : N < p

pub record GoodJob (p : ℕ) (f : List ℕ) (r : ℕ) (L : List ℤ) : Type 0 where
  pub modulus : GoodModulus p
  pub degree : GoodDegree f
  pub words : Words p f
  pub list : GoodWeights (length f) r L
  pub number : GoodNumber p (placed (length f) L)

pub record GoodRoom (N output work : ℕ) : Type 0 where
  pub output_fits : N ≤ output
  pub work_fits : room N ≤ work

pub record GoodDivisors (p product N : ℕ) : Type 0 where
  pub product_apart : product % p ≡ 0 → ⊥
  pub each_apart : (k : ℕ) → 1 ≤ k → k ≤ N → k % p ≡ 0 → ⊥

pub record GoodCall (c : Call) : Type 0 where
  pub job : GoodJob c.p c.f c.r (weights c)
  pub rooms : GoodRoom (N c) (length c.output) (length c.work)

-- a call that no row refuses
pub record Accepted (c : Call) : Type 0 where
  pub good : GoodCall c
  pub divisors : GoodDivisors c.p (factorials ℤ_eq (weights c)) (N c)

-- Document 01, "At the edges": N and the number of each of its calls, computed.
use Rattle.std.specs.Prelude.{◌≡◌, refl, List, [], ◌∷◌, map, ℕ, length, replicate, ℤ, pos}
use Rattle.algebra.specs.Binomial.{fact, falling}
use Rattle.algebra.specs.Integer.{ℤ_eq}
use Rattle.residues.specs.Trial.{is_prime}
use Rattle.placements.specs.Placements.{prod, count, except, different, factorials, placed}
use Rattle.limits.specs.Limits.{most_placements, largest_room}
use Rattle.checks.specs.Checks.{first, some_below}
use Rattle.refusals.specs.Refusals.{Call, N, zero_or_above, modulus_checks, degree_checks, coefficient_checks, weight_checks, number_checks, room_checks, divisor_checks}
use Rattle.refusals.specs.Refusals.{job_checks, call_checks, checks, refusal}

-- the number that a call is given and N, with all that they are made of open, so that they compute
unfoldable number : Call → ℕ
unfolding refusal first checks call_checks job_checks modulus_checks degree_checks coefficient_checks weight_checks number_checks room_checks divisor_checks some_below zero_or_above is_prime
number c = refusal c

unfoldable pub outcome : Call → ℕ × ℕ
unfolding number placed falling factorials prod fact count except different ℤ_eq
outcome c = (N c, number c)

pub outcome_is : (c : Call) → outcome c ≡ (N c, refusal c)
unfolding outcome number
outcome_is c = refl

-- a call with as much room as any call needs
abbrev call : ℕ → List ℕ → List ℤ → Call
call p f w = record { p = p; f = f; places = w; r = length w; output = replicate most_placements 0; work = replicate largest_room 0 }

abbrev zeros : ℕ → List ℕ
zeros n = replicate n 0

abbrev ones : ℕ → List ℤ
ones r = replicate r (pos 1)

abbrev one_two_three : List ℤ
one_two_three = pos 1 ∷ pos 2 ∷ pos 3 ∷ []

-- 251 gets 2, 257 is taken, 259 = 7 times 37 gets 3, 2,147,483,647 is taken, 2,147,483,648 gets 2
pub moduli : map (λ p. (outcome (call p (zeros 4) (ones 2))).1) (251 ∷ 257 ∷ 259 ∷ 2147483647 ∷ 2147483648 ∷ []) ≡ 2 ∷ 0 ∷ 3 ∷ 0 ∷ 2 ∷ []
unfolding outcome
moduli = refl

-- n = 12 with six ones: 10 at p = 257, taken at 1,009
pub six_ones : map (λ p. outcome (call p (zeros 12) (ones 6))) (257 ∷ 1009 ∷ []) ≡ (924, 10) ∷ (924, 0) ∷ []
unfolding outcome
six_ones = refl

-- 1,2,3 with n = 11 is taken at 1,009, with n = 12 it gets 9
pub three_weights : map (λ n. outcome (call 1009 (zeros n) one_two_three)) (11 ∷ 12 ∷ []) ≡ (990, 0) ∷ (1320, 9) ∷ []
unfolding outcome
three_weights = refl

-- at 257, n = 10 with five ones is taken, n = 8 with 1,2,3 gets 10, and n = 12 with 1,2,3 still gets 9
pub around_257 : map outcome (call 257 (zeros 10) (ones 5) ∷ call 257 (zeros 8) one_two_three ∷ call 257 (zeros 12) one_two_three ∷ [])
    ≡ (252, 0) ∷ (336, 10) ∷ (1320, 9) ∷ []
unfolding outcome
around_257 = refl

-- modulus 251 with a weight 0 gets 2; coefficient 257 with no weights, at 257, gets 5; three weights 0 on two coefficients get 7; the
-- weight 0 gets 8
pub orders : map (λ c. (outcome c).1) (call 251 (zeros 4) (pos 0 ∷ []) ∷ call 257 (257 ∷ []) [] ∷ call 257 (zeros 2) (replicate 3 (pos 0)) ∷ call 257 (zeros 4) (pos 0 ∷ []) ∷ [])
    ≡ 2 ∷ 5 ∷ 7 ∷ 8 ∷ []
unfolding outcome
orders = refl

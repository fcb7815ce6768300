-- Cases A to L hold. What the table claims is computed for all of them at once: the number, rules 1 to 4, and a certificate of the mark.
-- That it means what the definition says was proved for every job (`Resolved`) and every certificate, so no case has a proof of its own.
use Rattle.std.specs.Prelude.{◌≡◌, refl, Bool, true, ℕ, ◌≤◌, length, ℤ}
use Rattle.std.proofs.Common.{ap, ⊎_elim, le_refl, arith}
use mathlib.Core.List.Memᴰ
use mathlib.Core.List.{List, [], ◌∷◌, ◌++◌, map, head-eq_of_cons-eq, tail-eq_of_cons-eq, Memᴰ}
use Rattle.std.proofs.Math.Seq.{take-append_seam}
use Rattle.limits.specs.Limits.{room}
use Rattle.checks.specs.Checks.{first, some_below}
use Rattle.algebra.specs.Power.{pow, nat, int}
use Rattle.algebra.specs.Sum.{sum}
use Rattle.algebra.specs.Binomial.{fact, choose, falling}
use Rattle.algebra.specs.Series.{monomial}
use Rattle.algebra.specs.Integer.{ℤ_eq}
use Rattle.residues.specs.Prime.{inverse_of}
use Rattle.residues.specs.Trial.{is_prime}
use Rattle.residues.specs.Residues.{ring, reduce}
use Rattle.residues.specs.Field.{inverse}
use Rattle.placements.specs.Placements.{prod, count, except, different, factorials, placed}
use Rattle.placements.specs.Places.{with_sum}
use Rattle.polynomials.proofs.Certificates.{Certificate, bezout, common, shown, mark_test, mark_test_right}
use Rattle.definition.specs.Definition.{nth, sum₁}
use Rattle.definition.specs.Rules.{T_up_to, T}
use Rattle.definition.proofs.Answer.{grow, next_sum, sums, next_coefficient, coefficients, divided, answer, resolvent}
use Rattle.refusals.specs.Refusals.{Call, weights, zero_or_above, modulus_checks, degree_checks, coefficient_checks, weight_checks, number_checks, job_checks, GoodJob, Accepted}
use Rattle.refusals.proofs.Reading.{job_good}
use Rattle.refusals.proofs.ResolvedOnly.{divisors_apart, worked_out}
use Rattle.refusals.specs.Cases.{Case, cases, Holds}

-- what shows the mark of each: numbers with which f and f' make 1, or a common divisor
abbrev certificates : List Certificate
certificates =
    bezout [] (1 ∷ [])
    ∷ bezout (253 ∷ []) (254 ∷ 2 ∷ [])
    ∷ bezout (253 ∷ []) (254 ∷ 2 ∷ [])
    ∷ bezout (253 ∷ []) (254 ∷ 2 ∷ [])
    ∷ common (256 ∷ []) (256 ∷ 1 ∷ []) (2 ∷ [])
    ∷ bezout (171 ∷ []) (0 ∷ 43 ∷ [])
    ∷ bezout (256 ∷ []) (0 ∷ 86 ∷ [])
    ∷ bezout (9 ∷ 124 ∷ []) (5 ∷ 251 ∷ 130 ∷ [])
    ∷ bezout (9 ∷ 124 ∷ []) (5 ∷ 251 ∷ 130 ∷ [])
    ∷ bezout (9 ∷ 124 ∷ []) (5 ∷ 251 ∷ 130 ∷ [])
    ∷ bezout (256 ∷ []) (0 ∷ 193 ∷ [])
    ∷ bezout (1 ∷ []) (0 ∷ 64 ∷ [])
    ∷ []

-- the number that the job is given, and rules 1 to 4 worked out, with all that they are made of open, so that they compute
unfoldable number : Case → ℕ
unfolding first job_checks modulus_checks degree_checks coefficient_checks weight_checks number_checks some_below zero_or_above is_prime placed
number k = first (job_checks 257 k.f (length k.weights) k.weights)

unfoldable worked : Case → List ℕ
unfolding resolvent answer coefficients next_coefficient divided sums next_sum grow inverse inverse_of ring reduce nat pow int sum choose with_sum nth sum₁ monomial T_up_to T
worked k = resolvent 257 k.f k.weights

-- with whether the certificate is one, and the mark that it shows
unfoldable found : Case → Certificate → ℕ × List ℕ × Bool × Bool
unfolding number worked falling factorials prod fact count except different ℤ_eq mark_test
found k c = (number k, worked k, mark_test 257 k.f c, shown c)

abbrev claimed : Case → ℕ × List ℕ × Bool × Bool
claimed k = (0, k.resolvent, true, k.mark)

-- g at the members of two lists, pair by pair
abbrev pairwise : {X K Y : Type 0} → (X → K → Y) → List X → List K → List Y
pairwise g [] ks = []
pairwise g (x ∷ xs) [] = []
pairwise g (x ∷ xs) (k ∷ ks) = g x k ∷ pairwise g xs ks

computed : pairwise found cases certificates ≡ map claimed cases
unfolding found cases
computed = refl

-- what holds of all members at once holds of each
at_each : {X K Y : Type 0} (g : X → K → Y) (h : X → Y) (xs : List X) (ks : List K) → pairwise g xs ks ≡ map h xs → (x : X) → Memᴰ x xs → (k : K) × (g x k ≡ h x)
at_each g h [] ks e x m = absurd (Memᴰ.not-nil m)
at_each g h (y ∷ ys) [] e x m = absurd (let z : ◌≡◌ {A = ℕ} 0 (length (map h (y ∷ ys))) = ap length e in omega arith)
at_each g h (y ∷ ys) (k ∷ ks) e x m = ⊎_elim (λ q. (k, rw q (head-eq_of_cons-eq e))) (λ n. at_each g h ys ks (tail-eq_of_cons-eq e) x n) (Memᴰ.cases_cons m)

holds : (k : Case) (c : Certificate) → found k c ≡ claimed k → Holds k
unfolding found number worked
holds k c e =
    let good : GoodJob 257 k.f (length k.weights) k.weights = (job_good _ _ _ _).0 (ap (λ x. x.0) e) in
    let mark = mark_test_right good.modulus.prime k.f c (ap (λ x. x.2) e) in
    record { good = good; resolved = rw (← ap (λ x. x.1) e, ← ap (λ x. x.3) e) (worked_out good (le_refl _) _ mark) }

-- cases A to L
pub table : (k : Case) → Memᴰ k cases → Holds k
table k m = let c = at_each found claimed cases certificates computed k m in holds k c.0 c.1

-- the case as a call, with more places behind its weights, and the slices lent
abbrev pub call : Case → List ℤ → List ℕ → List ℕ → Call
call k more output work = record { p = 257; f = k.f; places = k.weights ++ more; r = length k.weights; output = output; work = work }

-- given room enough it is accepted, whatever stands behind the weights
pub case_accepted : (k : Case) → Holds k → (more : List ℤ) (output work : List ℕ) → length k.resolvent ≤ length output → room (length k.resolvent) ≤ length work
    → Accepted (call k more output work)
case_accepted k h more output work o w =
    let seam : weights (call k more output work) ≡ k.weights = take-append_seam k.weights more in
    let size = h.resolved.resolvent.size in
    record {
      good = record { job = rw seam h.good; rooms = rw seam (record { output_fits = rw (← size) o; work_fits = rw (← size) w }) };
      divisors = rw seam (divisors_apart h.good (le_refl _));
    }

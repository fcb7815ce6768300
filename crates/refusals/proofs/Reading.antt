-- How the table of refusals is read: no row of a part applies exactly when the part's plain facts hold, and each number is given
-- exactly when its row's test holds and no earlier one does.
use Rattle.std.specs.Prelude.{◌≡◌, true, false, not, ◌↔◌, ℕ, zero, suc, ◌≤◌, ◌<◌, ◌%◌, eqb, length, ℤ}
use Rattle.std.proofs.Math.Path.{refl}
use Rattle.std.proofs.Common.{ap, ◌∙◌, arith, ltb-false, leb-false, lt-ltb, le-ltb, eq-eqb, ne_eqb}
use mathlib.Core.List.{List, [], ◌∷◌, ◌++◌, Memᴰ}
use Rattle.std.proofs.Math.Nat as N
use Rattle.std.proofs.lemmas.Bool.{eqb-false, lt-leb, not-false}
use Rattle.checks.specs.Checks.{Table, first, row, Numbered, some_below}
use Rattle.checks.specs.Laws.{or_left, or_right, or_none, neither, none_below, below_none, first_nil, first_passes, first_clear, first_listed}
use Rattle.checks.specs.Laws.{first_none, first_both, first_exactly, numbered_test, numbered_right}
use Rattle.residues.specs.Trial.{is_prime_iff}
use Rattle.residues.specs.Residues.{Words}
use Rattle.refusals.specs.Refusals.{Call, zero_or_above, modulus_checks, degree_checks, coefficient_checks, weight_checks, number_checks, room_checks, divisor_checks}
use Rattle.refusals.specs.Refusals.{job_checks, call_checks, checks, refusal, GoodModulus, GoodDegree, GoodWeights, GoodNumber, GoodJob, GoodRoom, GoodDivisors, GoodCall, Accepted}

pub zero_taken : (limit n : ℕ) → n ≡ 0 → zero_or_above limit n ≡ true
unfolding zero_or_above
zero_taken limit n e = or_left _ (eq-eqb n 0 e)

pub above_taken : (limit n : ℕ) → limit < n → zero_or_above limit n ≡ true
unfolding zero_or_above
above_taken limit n h = or_right (eqb n 0) (lt-ltb limit n h)

-- neither 0 nor above it
pub within : (limit n : ℕ) → (zero_or_above limit n ≡ false) ↔ ((1 ≤ n) × (n ≤ limit))
unfolding zero_or_above
within limit n = (
  λ e. let w = neither _ _ e in (N.pos_of_ne-zero (eqb-false _ _ w.0), ltb-false _ _ w.1),
  λ h. or_none (ne_eqb n 0 (λ e. omega (arith, h.0))) (le-ltb limit n h.1),
)

pub modulus_good : (p : ℕ) → (first (modulus_checks p) ≡ 0) ↔ GoodModulus p
unfolding modulus_checks
modulus_good p = (
  λ e.
      let a = first_clear _ _ _ (omega arith) e in
      let b = first_clear _ _ _ (omega arith) a.1 in
      let w = neither _ _ a.0 in
      record { low = ltb-false _ _ w.0; high = ltb-false _ _ w.1; prime = (is_prime_iff p).0 (not-false _ b.0) },
  λ g.
      first_passes _ _ (or_none (le-ltb _ _ g.low) (le-ltb _ _ g.high))
      ∙ first_passes _ _ (ap not ((is_prime_iff p).1 g.prime))
      ∙ first_nil,
)

pub degree_good : (f : List ℕ) → (first (degree_checks f) ≡ 0) ↔ GoodDegree f
unfolding degree_checks
degree_good f = (
  λ e.
      let w = (within _ _).0 (first_clear _ _ _ (omega arith) e).0 in
      record { some = w.0; high = w.1 },
  λ g. first_passes _ _ ((within _ _).1 (g.some, g.high)) ∙ first_nil,
)

pub coefficient_good : (p : ℕ) (f : List ℕ) → (first (coefficient_checks p f) ≡ 0) ↔ Words p f
unfolding coefficient_checks
coefficient_good p f = (
  λ e i h. leb-false _ _ (none_below _ _ (first_clear _ _ _ (omega arith) e).0 i h),
  λ g. first_passes _ _ (below_none _ _ (λ i h. lt-leb _ _ (g i h))) ∙ first_nil,
)

pub weight_good : (n r : ℕ) (L : List ℤ) → (first (weight_checks n r L) ≡ 0) ↔ GoodWeights n r L
unfolding weight_checks
weight_good n r L = (
  λ e.
      let a = first_clear _ _ _ (omega arith) e in
      let b = first_clear _ _ _ (omega arith) a.1 in
      let d = first_clear _ _ _ (omega arith) b.1 in
      let w = (within _ _).0 a.0 in
      record { some = w.0; high = w.1; fits = ltb-false _ _ b.0; each = λ i h. (within _ _).0 (none_below _ _ d.0 i h) },
  λ g.
      first_passes _ _ ((within _ _).1 (g.some, g.high))
      ∙ first_passes _ _ (le-ltb _ _ g.fits)
      ∙ first_passes _ _ (below_none _ _ (λ i h. (within _ _).1 (g.each i h)))
      ∙ first_nil,
)

pub number_good : (p n : ℕ) → (first (number_checks p n) ≡ 0) ↔ GoodNumber p n
unfolding number_checks
number_good p n = (
  λ e.
      let a = first_clear _ _ _ (omega arith) e in
      let b = first_clear _ _ _ (omega arith) a.1 in
      record { high = ltb-false _ _ a.0; below = leb-false _ _ b.0 },
  λ g. first_passes _ _ (le-ltb _ _ g.high) ∙ first_passes _ _ (lt-leb _ _ g.below) ∙ first_nil,
)

pub room_good : (n output work : ℕ) → (first (room_checks n output work) ≡ 0) ↔ GoodRoom n output work
unfolding room_checks
room_good n output work = (
  λ e.
      let a = first_clear _ _ _ (omega arith) e in
      let b = first_clear _ _ _ (omega arith) a.1 in
      record { output_fits = ltb-false _ _ a.0; work_fits = ltb-false _ _ b.0 },
  λ g. first_passes _ _ (le-ltb _ _ g.output_fits) ∙ first_passes _ _ (le-ltb _ _ g.work_fits) ∙ first_nil,
)

pub divisor_good : (p product n : ℕ) → (first (divisor_checks p product n) ≡ 0) ↔ GoodDivisors p product n
unfolding divisor_checks
divisor_good p product n = (
  λ e.
      let w = neither _ _ (first_clear _ _ _ (omega arith) e).0 in
      record { product_apart = eqb-false _ _ w.0; each_apart = λ k a b. each w.1 k a b },
  λ g. first_passes _ _ (or_none (ne_eqb _ _ g.product_apart) (below_none _ _ (λ i h. ne_eqb _ _ (g.each_apart (suc i) (omega arith) h)))) ∙ first_nil,
)
  where
    each : some_below (λ i. eqb (suc i % p) 0) n ≡ false → (k : ℕ) → 1 ≤ k → k ≤ n → k % p ≡ 0 → ⊥
    each e zero a b = absurd (omega arith)
    each e (suc i) a b = eqb-false _ _ (none_below _ _ e i b)

-- two parts one after the other
after : {A B : Type 0} (rows more : Table) → Numbered rows → (first rows ≡ 0) ↔ A → (first more ≡ 0) ↔ B → (first (rows ++ more) ≡ 0) ↔ (A × B)
after rows more h a b = (
  λ e. let z = first_both rows h more e in (a.0 z.0, b.0 z.1),
  λ g. first_none rows h more (a.1 g.0) ∙ b.1 g.1,
)

pub modulus_numbered : (p : ℕ) → Numbered (modulus_checks p)
unfolding modulus_checks numbered_test
modulus_numbered p = numbered_right (modulus_checks p) refl

pub degree_numbered : (f : List ℕ) → Numbered (degree_checks f)
unfolding degree_checks numbered_test
degree_numbered f = numbered_right (degree_checks f) refl

pub coefficient_numbered : (p : ℕ) (f : List ℕ) → Numbered (coefficient_checks p f)
unfolding coefficient_checks numbered_test
coefficient_numbered p f = numbered_right (coefficient_checks p f) refl

pub weight_numbered : (n r : ℕ) (L : List ℤ) → Numbered (weight_checks n r L)
unfolding weight_checks numbered_test
weight_numbered n r L = numbered_right (weight_checks n r L) refl

pub number_numbered : (p n : ℕ) → Numbered (number_checks p n)
unfolding number_checks numbered_test
number_numbered p n = numbered_right (number_checks p n) refl

pub job_numbered : (p : ℕ) (f : List ℕ) (r : ℕ) (L : List ℤ) → Numbered (job_checks p f r L)
unfolding job_checks modulus_checks degree_checks coefficient_checks weight_checks number_checks numbered_test
job_numbered p f r L = numbered_right (job_checks p f r L) refl

pub call_numbered : (c : Call) → Numbered (call_checks c)
unfolding call_checks job_checks modulus_checks degree_checks coefficient_checks weight_checks number_checks room_checks numbered_test
call_numbered c = numbered_right (call_checks c) refl

pub job_good : (p : ℕ) (f : List ℕ) (r : ℕ) (L : List ℤ) → (first (job_checks p f r L) ≡ 0) ↔ GoodJob p f r L
unfolding job_checks
job_good p f r L =
    let list = after _ _ (weight_numbered _ _ _) (weight_good _ _ _) (number_good _ _) in
    let words = after _ _ (coefficient_numbered _ _) (coefficient_good _ _) list in
    let degree = after _ _ (degree_numbered _) (degree_good _) words in
    let all = after _ _ (modulus_numbered _) (modulus_good _) degree in (
      λ e. let g = all.0 e in record { modulus = g.0; degree = g.1.0; words = g.1.1.0; list = g.1.1.1.0; number = g.1.1.1.1 },
      λ g. all.1 (g.modulus, (g.degree, (g.words, (g.list, g.number)))),
    )

pub call_good : (c : Call) → (first (call_checks c) ≡ 0) ↔ GoodCall c
unfolding call_checks
call_good c =
    let all = after _ _ (job_numbered _ _ _ _) (job_good _ _ _ _) (room_good _ _ _) in
    (λ e. let g = all.0 e in record { job = g.0; rooms = g.1 }, λ g. all.1 (g.job, g.rooms))

module _ (c : Call) where
  numbered : Numbered (checks c)
  unfolding checks call_checks job_checks modulus_checks degree_checks coefficient_checks weight_checks number_checks room_checks divisor_checks numbered_test
  numbered = numbered_right (checks c) refl

  -- document 01's numbers for this entry
  pub refusal_listed : Memᴰ (refusal c) (0 ∷ 2 ∷ 3 ∷ 4 ∷ 5 ∷ 6 ∷ 7 ∷ 8 ∷ 9 ∷ 10 ∷ 11 ∷ 12 ∷ 16 ∷ [])
  unfolding refusal checks call_checks job_checks modulus_checks degree_checks coefficient_checks weight_checks number_checks room_checks divisor_checks
  refusal_listed = first_listed (checks c)

  -- each number of the table exactly when its row's test holds and no earlier one does
  pub row_exactly : (j : ℕ) → j < length (checks c)
      → (refusal c ≡ (row (checks c) j).1) ↔ (((row (checks c) j).0 ≡ true) × ((i : ℕ) → i < j → (row (checks c) i).0 ≡ false))
  unfolding refusal
  row_exactly = first_exactly (checks c) numbered

  -- and no number exactly when the call is accepted
  pub not_refused : (refusal c ≡ 0) ↔ Accepted c
  unfolding refusal checks
  not_refused =
      let all = after _ _ (call_numbered c) (call_good c) (divisor_good _ _ _) in
      (λ e. let a = all.0 e in record { good = a.0; divisors = a.1 }, λ a. all.1 (a.good, a.divisors))

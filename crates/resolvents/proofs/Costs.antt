-- What is told of a job's weights is what the entry returns. A weight list breaks rows 6 and 8 by itself, whatever the polynomial; where it
-- breaks neither, the number is the one that an answered job is worked by.
use Rattle.std.specs.Prelude.{◌≡◌, refl, Bool, true, false, ℕ, ltb, ℤ}
use Rattle.std.proofs.Common.{sym, ◌∙◌, le_refl, arith, le-ltb}
use mathlib.Core.List.{List, [], ◌∷◌}
use Rattle.limits.specs.Limits.{capacity}
use Rattle.checks.specs.Checks.{first}
use Rattle.checks.specs.Laws.{first_holds, first_passes, answers_decide}
use Rattle.definition.specs.Cost.{lists}
use Rattle.refusals.specs.Refusals.{Call, weights, zero_or_above, some_bad, list_checks, list_refusal, refusal}
use Rattle.refusals.specs.Refusals.{modulus_checks, degree_checks, coefficient_checks, weight_checks, number_checks, room_checks, divisor_checks, job_checks, call_checks, checks}
use Rattle.refusals.proofs.Reading.{weight_good, row_exactly, not_refused}
use Rattle.resolvents.specs.Results.{Cost}
use Rattle.resolvents.specs.Promise.{Exit, Promise}
use Rattle.resolvents.specs.Cost.{Told}

pub told_decides : (r : ℕ) (L : List ℤ) (t t' : Cost) → Told r L t → Told r L t' → t ≡ t'
told_decides r L = answers_decide (λ t. t.code) (λ t. t.lists ≡ 0) (λ t. t.lists ≡ lists L) (λ n t t' k a b. same k (a ∙ sym b)) (λ z t t' k a b. same k (a ∙ sym b))
  where
    same : {t t' : Cost} → t.code ≡ t'.code → t.lists ≡ t'.lists → t ≡ t'
    same k e = λ i. record { code = k i; lists = e i }

-- of n = r positions row 7 never applies
pub alone : (r : ℕ) (L : List ℤ) → first (weight_checks r r L) ≡ list_refusal r L
unfolding weight_checks list_refusal list_checks
alone r L = by (zero_or_above capacity r)
  where
    by : (t : Bool) → first ((t, 6) ∷ (ltb r r, 7) ∷ (some_bad L, 8) ∷ []) ≡ first ((t, 6) ∷ (some_bad L, 8) ∷ [])
    by true = first_holds 6 _ refl ∙ sym (first_holds 6 _ refl)
    by false = first_passes 6 _ refl ∙ first_passes 7 _ (le-ltb r r (le_refl r)) ∙ sym (first_passes 6 _ refl)

-- what is told of the weights of a call, and what an allowed exit of that call returns
module _ (c : Call) (e : Exit) (q : Promise c e) (t : Cost) (h : Told c.r (weights c) t) where
  -- an answered job returns the number that is told before
  pub answered_told : e.outcome.code ≡ 0 → (t.code ≡ 0) × (t.lists ≡ e.outcome.lists)
  answered_told k =
      let z : refusal c ≡ 0 = sym q.code ∙ k in
      let g = ((not_refused c).0 z).good.job.list in
      let none : list_refusal c.r (weights c) ≡ 0 =
      sym (alone c.r (weights c)) ∙ (weight_good _ _ _).1 (record { some = g.some; high = g.high; fits = le_refl _; each = g.each }) in
      (h.code ∙ none, h.done none ∙ sym (q.done z).lists)

  -- so no job with a list that is refused is answered
  pub never_answered : (t.code ≡ 0 → ⊥) → e.outcome.code ≡ 0 → ⊥
  never_answered n k = n (answered_told k).0

  -- and a list that the entry refuses by row 6 or 8 is refused by that number
  pub refused_told_6 : e.outcome.code ≡ 6 → t.code ≡ 6
  unfolding list_refusal list_checks checks call_checks job_checks modulus_checks degree_checks coefficient_checks weight_checks number_checks room_checks divisor_checks
  refused_told_6 k = h.code ∙ first_holds 6 _ ((row_exactly c 4 (omega arith)).0 (sym q.code ∙ k)).0

  pub refused_told_8 : e.outcome.code ≡ 8 → t.code ≡ 8
  unfolding list_refusal list_checks checks call_checks job_checks modulus_checks degree_checks coefficient_checks weight_checks number_checks room_checks divisor_checks
  refused_told_8 k =
      let r = (row_exactly c 6 (omega arith)).0 (sym q.code ∙ k) in
      h.code ∙ first_passes 6 _ (r.1 4 (omega arith)) ∙ first_holds 8 [] r.0

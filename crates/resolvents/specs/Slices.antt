-- The entry's promise for weights in a list of any length. The entry gets a weight list of as many as it holds, which makes no
-- difference: of more row 6 makes a refusal before any row that reads a weight.
use Rattle.std.specs.Prelude.{◌≡◌, refl, Bool, true, List, [], ◌∷◌, ◌++◌, ℕ, ◌≤◌, ◌<◌, length, take, ℤ}
use Rattle.std.proofs.Math.Path.{sym}
use Rattle.std.proofs.Common.{◌∙◌, arith}
use Rattle.std.proofs.Math.Decide.{dec_le}
use Rattle.std.proofs.Math.Seq.{take-length, take_all}
use Rattle.limits.specs.Limits.{capacity}
use Rattle.checks.specs.Checks.{first}
use Rattle.checks.specs.Laws.{first_holds, first_same, answers_moved}
use Rattle.weights.specs.declared.Weights.{Weights}
use Rattle.weights.specs.Lists.{listed}
use Rattle.refusals.specs.Refusals.{Call, weights, modulus_checks, degree_checks, coefficient_checks, weight_checks, job_checks, call_checks, checks, refusal, list_checks, list_refusal}
use Rattle.refusals.proofs.Reading.{above_taken, not_refused}
use Rattle.refusals.specs.Judged.{given}
use Rattle.refusals.specs.Success.{Success}
use Rattle.resolvents.specs.Results.{Cost}
use Rattle.resolvents.specs.Promise.{Exit, Promise}
use Rattle.resolvents.specs.Cost.{Told}

-- a call with weights in a list of any length: r is their count
abbrev pub asked : ℕ → List ℕ → List ℤ → List ℕ → List ℕ → Call
asked p f weights output work = record { p = p; f = f; places = weights; r = length weights; output = output; work = work }

-- more weights than a list holds: rows 2 to 5, then row 6, whatever the weights are
many_weights : (c : Call) → capacity < c.r → refusal c ≡ first (modulus_checks c.p ++ (degree_checks c.f ++ (coefficient_checks c.p c.f ++ (true, 6) ∷ [])))
unfolding refusal checks call_checks job_checks modulus_checks degree_checks coefficient_checks weight_checks
many_weights c h =
    first_same (modulus_checks c.p) _ _
    (first_same (degree_checks c.f) _ _
    (first_same (coefficient_checks c.p c.f) _ _ (first_holds 6 _ (above_taken capacity c.r h) ∙ sym (first_holds 6 [] refl))))

module _ (p : ℕ) (f : List ℕ) (w : List ℤ) (out work : List ℕ) (list : Weights) (all : list.len ≡ length w) (front : listed list ≡ take capacity w) where
  abbrev c : Call
  c = given p f list out work

  abbrev d : Call
  d = asked p f w out work

  same_weights : length w ≤ capacity → weights c ≡ weights d
  unfolding listed
  same_weights h = front ∙ take_all capacity w h ∙ sym (take-length w)

  same_refusal : refusal c ≡ refusal d
  unfolding refusal checks call_checks
  same_refusal = elim (dec_le (length w) capacity) [
    | yes h ↦ rw (same_weights h, all)
    | no h ↦ many_weights c (rw all (omega arith)) ∙ sym (many_weights d (omega arith))
  ]

  success_kept : {n : ℕ} {s : Bool} {o v : List ℕ} → length w ≤ capacity → Success c n s o v → Success d n s o v
  success_kept h x =
      let same = same_weights h in
      record { number = rw same at x.number; resolved = rw same at x.resolved; later = rw same at x.later; zeros = rw same at x.zeros; rest = rw same at x.rest }

  pub promise_moved : (e : Exit) → Promise c e → Promise d e
  promise_moved e = answers_moved same_refusal
      (λ r. let u = r.untouched in record {
        untouched = record { no_number = u.no_number; no_mark = u.no_mark; same_output = u.same_output; same_work = u.same_work };
        lists = r.lists;
      })
      (λ z x. let few = ((not_refused d).0 z).good.job.list.high in record { success = success_kept few x.success; lists = rw (same_weights few) at x.lists })

many_alone : (r : ℕ) (L : List ℤ) → capacity < r → list_refusal r L ≡ 6
unfolding list_refusal list_checks
many_alone r L h = first_holds 6 _ (above_taken capacity r h)

-- what is told of the weights that a list holds is told of all, since more are refused
pub told_moved : (w : List ℤ) (list : Weights) → list.len ≡ length w → listed list ≡ take capacity w → (t : Cost) → Told list.len (listed list) t → Told (length w) w t
told_moved w list all front t h = elim (dec_le (length w) capacity) [
  | yes few ↦ alike all (front ∙ take_all capacity w few) h
  | no many ↦
      let refused = many_alone (length w) w (omega arith) in
      answers_moved (many_alone list.len (listed list) (omega (arith, all)) ∙ sym refused) (λ r. r) (λ z. absurd (let e : 6 ≡ 0 = sym refused ∙ z in omega arith)) h
]
  where
    alike : {r r' : ℕ} {L L' : List ℤ} → r ≡ r' → L ≡ L' → Told r L t → Told r' L' t
    alike e f g = rw (e, f) at g

-- Demands 1 to 3, of the text that answers a text. The table of refusals is read row by row, rules 1 to 4 have one answer, and
-- where f is a product of x - a, in whatever ring over the residues, that answer is the product over the placements.
use Rattle.std.specs.Prelude.{◌≡◌, refl, Bool, true, false, List, [], ◌∷◌, ◌++◌, map, ◌↔◌, ◌⊎◌, ℕ, ◌≤◌, ◌<◌, length, get_or, drop, ℤ}
use Rattle.std.proofs.Common.{sym, ◌∙◌, inl, inr, le_refl, arith}
use Rattle.std.proofs.Math.Path.{ap}
use Rattle.std.proofs.Math.Decide.{ℕ_discrete}
use Rattle.checks.specs.Checks.{row}
use Rattle.checks.specs.Laws.{first_exactly, row_not_zero}
use Rattle.algebra.specs.Ring.{Ops, Laws}
use Rattle.algebra.specs.Hom.{Hom}
use Rattle.algebra.specs.Integer.{ℤ_eq}
use Rattle.residues.specs.Residues.{residues, Words}
use Rattle.placements.specs.Placements.{placements}
use Rattle.polynomials.specs.Divisors.{Simple}
use Rattle.definition.specs.Definition.{Resolvent}
use Rattle.definition.specs.Product.{product, values}
use Rattle.refusals.proofs.Reading.{job_numbered}
use Rattle.refusals.proofs.ResolvedOnly.{resolved_exists, words_only, degree_is, resolved_product, resolved_anywhere}
use Rattle.decimal.specs.Spelling.{Word, decimal}
use Rattle.decimal.specs.Scan.{got, digit_of, number}
use Rattle.decimal.specs.NumberLaws.{numbers}
use Rattle.lines.specs.Lines.{bytes, head_text, refused_line}
use Rattle.records.specs.Records.{Answer, Job, JobHolds, job, job_text, answer, answer_text}
use Rattle.records.proofs.Theorems.{is_job, job_one_spelling}
use Rattle.linres_text.specs.Texts.{rows_of, job_refusal, AnswerRecord, AnswerTo, TextOf}
use Rattle.linres_text.proofs.Jobs.{Good, good_exactly, good_holds}
use Rattle.linres_text.proofs.Lengths.{job_length, refusal_at_most, row_number_at_most}

-- ---- Demand 1: every text is answered, or refused by the first rule that it breaks
job_exists : (j : Job) → (bytes : List ℕ) × AnswerTo j bytes
job_exists j = elim (ℕ_discrete (job_refusal j) 0) [
  | yes z ↦
      let a = resolved_exists ((good_exactly j).0 z) (le_refl _) in
      (_, record { refused = λ n. absurd (n z); answered = λ _. record { mark = a.0; b = _; resolved = a.1; text = refl } })
  | no n ↦ (refused_line (job_refusal j), record { refused = λ _. refl; answered = λ z. absurd (n z) })
]

of_job : (text bytes : List ℕ) (j : Job) → JobHolds j → text ≡ job_text j → AnswerTo j bytes → TextOf text bytes
of_job text bytes j h e a = record {
  long = λ l. absurd (let short : length text ≤ 1068 = rw e (job_length j h) in omega arith);
  none = λ n. absurd (n j h e);
  job = λ _ k g f. rw (job_one_spelling j k h g (sym e ∙ f)) at a;
}

pub every_text : (text : List ℕ) → (bytes : List ℕ) × TextOf text bytes
every_text text = elim (is_job text) [
  | no n ↦ (refused_line 1, record { long = λ _. refl; none = λ _. refl; job = λ _ j h e. absurd (n (j, h, e)) })
  | yes i ↦ let a = job_exists i.0 in (a.0, of_job text a.0 i.0 i.1 i.2 a.1)
]

-- an answer starts with an m, a refusal with an r
never_both : (a : Answer) (k : ℕ) → answer_text a ≡ refused_line k → ⊥
unfolding answer_text head_text refused_line bytes
never_both a k e = let z : ◌≡◌ {A = ℕ} 109 114 = ap (λ (l : List ℕ). get_or l 0 0) e in omega arith

-- a line of a refusal tells its number: reading it gives the number back
refused_same : (k n : ℕ) → Word k → Word n → refused_line k ≡ refused_line n → k ≡ n
unfolding refused_line bytes digit_of
refused_same k n a b e = got_same (sym (back k a) ∙ ap number (ap (drop 8) e) ∙ back n b)
  where
    back : (k : ℕ) → Word k → number (decimal k ++ (10 ∷ [])) ≡ got k (length (decimal k))
    back k h = numbers.complete k (10 ∷ []) h (omega arith)

    got_same : {k n i j : ℕ} → got k i ≡ got n j → k ≡ n
    got_same e = cc

module _ (text bytes : List ℕ) (t : TextOf text bytes) where
  -- a text that is no job is refused with 1
  pub no_job : ((j : Job) → JobHolds j → text ≡ job_text j → ⊥) → bytes ≡ refused_line 1
  no_job = t.none

  module _ (j : Job) (h : JobHolds j) (e : text ≡ job_text j) where
    answer_to : AnswerTo j bytes
    answer_to = t.job (rw e (omega (arith, job_length j h))) j h e

    -- a job is refused with a number exactly when that row's test holds and no earlier one does
    pub first_row : (i : ℕ) → i < length (rows_of j)
        → (bytes ≡ refused_line (row (rows_of j) i).1) ↔ (((row (rows_of j) i).0 ≡ true) × ((k : ℕ) → k < i → (row (rows_of j) k).0 ≡ false))
    unfolding job_refusal
    first_row i l =
        let exactly = first_exactly (rows_of j) (job_numbered _ _ _ _) i l in (
          λ e. exactly.0 (elim (ℕ_discrete (job_refusal j) 0) [
            | yes z ↦ let a = answer_to.answered z in absurd (never_both _ _ (sym a.text ∙ e))
            | no n ↦ refused_same _ _ (omega (arith, refusal_at_most j)) (omega (arith, row_number_at_most j i l)) (sym (answer_to.refused n) ∙ e)
          ]),
          λ t. let k = exactly.1 t in answer_to.refused (λ z. row_not_zero (rows_of j) (job_numbered _ _ _ _) i l (sym k ∙ z)) ∙ ap refused_line k,
        )

  -- every text is answered by an answer record, or by a refusal with a number from 1 to 10
  pub answered_or_refused : ((a : Answer) × (bytes ≡ answer_text a)) ⊎ ((k : ℕ) × (1 ≤ k) × (k ≤ 10) × (bytes ≡ refused_line k))
  answered_or_refused = elim (is_job text) [
    | no n ↦ inr (1, omega arith, omega arith, no_job (λ j h e. n (j, h, e)))
    | yes i ↦ elim (ℕ_discrete (job_refusal i.0) 0) [
      | yes z ↦ let a = (answer_to i.0 i.1 i.2).answered z in inl (answer i.0.modulus a.mark a.b, a.text)
      | no n ↦ inr (job_refusal i.0, omega arith, refusal_at_most i.0, (answer_to i.0 i.1 i.2).refused n)
    ]
  ]

  -- ---- Demand 2: a job that breaks no row is answered with the one resolvent, its degree N, its mark
  module _ (j : Job) (g : Good j) (e : text ≡ job_text j) where
    pub answered : AnswerRecord j bytes
    answered = (answer_to j (good_holds j g) e).answered ((good_exactly j).1 g)

    -- any words below p that rules 1 to 4 allow are the coefficients
    pub coefficients_only : (b : List ℕ) → Words j.modulus b → Resolvent (residues j.modulus) j.coeffs j.weights b → answered.b ≡ b
    coefficients_only = words_only g (le_refl _) answered.resolved

    -- the degree is the number of the placements
    pub degree_placements : length answered.b ≡ length (placements ℤ_eq (length j.coeffs) j.weights)
    degree_placements = degree_is g (le_refl _) answered.resolved

  -- an answer record comes back exactly for the jobs that break no row, so never for what is refused
  pub answered_exactly : ((a : Answer) × (bytes ≡ answer_text a)) ↔ ((j : Job) × Good j × (text ≡ job_text j))
  answered_exactly = (
    λ a. elim (is_job text) [
      | no n ↦ absurd (never_both a.0 1 (sym a.1 ∙ no_job (λ j h e. n (j, h, e))))
      | yes i ↦ elim (ℕ_discrete (job_refusal i.0) 0) [
        | yes z ↦ (i.0, (good_exactly i.0).0 z, i.2)
        | no n ↦ absurd (never_both a.0 _ (sym a.1 ∙ (answer_to i.0 i.1 i.2).refused n))
      ]
    ],
    λ g. let x = answered g.0 g.1 g.2 in (answer g.0.modulus x.mark x.b, x.text),
  )

-- ---- Demand 3: where f is the product of x - a over any residues a, equal or not, the answer's coefficients are the product of
-- x - v over the weighted sums v of all placements
module _ (p : ℕ) (roots : List ℕ) (low : Words p roots) (L : List ℤ) where
  abbrev split_job : Job
  split_job = job p (product (residues p) roots) L

  pub coefficients_are : (bytes : List ℕ) → TextOf (job_text split_job) bytes → job_refusal split_job ≡ 0
      → (m : Bool) × ((m ≡ true) ↔ Simple p (product (residues p) roots)) × (bytes ≡ answer_text (answer p m (product (residues p) (values (residues p) roots L))))
  coefficients_are bytes t z =
      let g = (good_exactly split_job).0 z in
      let a = answered (job_text split_job) bytes t split_job g refl in
      (a.mark, a.resolved.simple, a.text ∙ ap (λ l. answer_text (answer p a.mark l)) (resolved_product g (le_refl _) a.resolved roots low refl))

-- Demand 3 for every f: in whatever ring q over the residues f is the product of x - a, the answer's coefficients are there the
-- product of x - v over the weighted sums v of all placements. φ takes a word to its number in q, and keeps sums and products.
pub coefficients_anywhere : (text bytes : List ℕ) (t : TextOf text bytes) (j : Job) (g : Good j) (e : text ≡ job_text j)
    → {B : Type 0} {q : Ops B} → Laws q → {φ : ℕ → B} → Hom (residues j.modulus) q φ → (roots : List B) → map φ j.coeffs ≡ product q roots
    → map φ (answered text bytes t j g e).b ≡ product q (values q roots j.weights)
coefficients_anywhere text bytes t j g e l hom = resolved_anywhere g (le_refl _) (answered text bytes t j g e).resolved l hom

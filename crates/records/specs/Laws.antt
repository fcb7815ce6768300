-- The scanners read exactly the records: what is written is read, and what is read was written. Made of the laws of the lines: nothing
-- follows the last line, so the text is all record, and the degree is the count.
use Rattle.std.specs.Prelude.{ℕ, ◌≡◌, refl, List, [], ◌++◌, length}
use Rattle.std.proofs.Common.{◌∙◌, ap, append-nil, arith, length-append, eq-eqb, ne_eqb}
use Rattle.std.proofs.lemmas.List.{nil_from_length}
use Rattle.std.proofs.Math.Option.{Option, some, none}
use Rattle.std.proofs.Math.Decide.{ℕ_discrete}
use Rattle.limits.specs.Limits.{most_numbers, most_placements}
use Rattle.decimal.specs.Spelling.{Small, Word, decimal, signed}
use Rattle.decimal.specs.Scan.{Got, got, refused}
use Rattle.decimal.specs.Scans.{Begins}
use Rattle.decimal.specs.NumberLaws.{numbers}
use Rattle.decimal.specs.SignedLaws.{signed_numbers}
use Rattle.lines.specs.Lines.{OneTo, bytes, head_text, list_line}
use Rattle.lines.specs.Scan.{both, head}
use Rattle.lines.specs.Laws.{Exact, boths, heads, keyeds, lines, marks}
use Rattle.records.specs.Records.{AnswerHolds, JobHolds, answer_text, job_text}
use Rattle.records.specs.Scan.{Format, answer_format, coeffs_line, finish, job_format, read_answer, read_job, read_record, weights_line}

-- a scanner of whole texts reads exactly the texts of the values that a record can hold
pub record Whole {X : Type 0} (Holds : X → Type 0) (text : X → List ℕ) (scan : List ℕ → Option X) : Type 0 where
  pub complete : (v : X) → Holds v → scan (text v) ≡ some v
  pub sound : (t : List ℕ) (v : X) → scan t ≡ some v → Holds v × (t ≡ text v)

-- ---- the lists
pub coeffs_lines : (most : ℕ) → Exact (OneTo most Word) (list_line decimal (bytes "coeffs=")) (coeffs_line most)
unfolding coeffs_line
coeffs_lines most = keyeds (bytes "coeffs=") (lines numbers most)

pub weights_lines : Exact (OneTo most_numbers Small) (list_line signed (bytes "weights=")) weights_line
unfolding weights_line
weights_lines = keyeds (bytes "weights=") (lines signed_numbers most_numbers)

-- ---- a record, for any two last lines
pub never_some : {X : Type 0} {v : X} → ◌≡◌ {A = Option X} none (some v) → ⊥
never_some h = let z : ◌≡◌ {A = ℕ} 0 1 = cc in omega arith

-- a text that is all front
begins_all : (l t : List ℕ) (i : ℕ) → Begins l t i → i ≡ length t → t ≡ l
begins_all l t i f e =
    let z : length f.behind ≡ 0 = omega (arith, f.place, ap length f.whole, length-append l f.behind) in
    f.whole ∙ rw (nil_from_length f.behind z) (append-nil l)

module _ {A B X : Type 0} (F : Format A B X) {OkA : A → Type 0} {OkB : B → Type 0} {textA : A → List ℕ} {textB : B → List ℕ}
    (E : Exact OkA textA F.first) (G : Exact OkB textB F.second) where
  lined : Exact (λ (v : (ℕ × ℕ) × (A × B)). (Word v.0.0 × Word v.0.1) × (OkA v.1.0 × OkB v.1.1))
      (λ v. head_text v.0.0 v.0.1 ++ (textA v.1.0 ++ textB v.1.1)) (both head (both F.first F.second))
  lined = boths heads (boths E G)

  record_complete : (m : ℕ) (v : A × B) → Word m → Word (F.count v) → OkA v.0 → OkB v.1 →
      read_record F (head_text m (F.count v) ++ (textA v.0 ++ textB v.1)) ≡ some (F.make m v)
  record_complete m v w d a b =
      let t : List ℕ = head_text m (F.count v) ++ (textA v.0 ++ textB v.1) in
      let e : both head (both F.first F.second) t ≡ got ((m, F.count v), v) (length t) = rw append-nil at (lined.complete ((m, F.count v), v) [] ((w, d), (a, b))) in
      rw (e, eq-eqb (length t) _ refl, eq-eqb (F.count v) _ refl)

  -- what a text that is read holds
  pub record Parts (t : List ℕ) (x : X) : Type 0 where
    pub modulus : ℕ
    pub values : A × B
    pub made : x ≡ F.make modulus values
    pub word : Word modulus
    pub ok : OkA values.0 × OkB values.1
    pub text : t ≡ head_text modulus (F.count values) ++ (textA values.0 ++ textB values.1)

  finish_sound : (t : List ℕ) (x : X) (g : Got ((ℕ × ℕ) × (A × B))) → both head (both F.first F.second) t ≡ g → finish F g (length t) ≡ some x → Parts t x
  finish_sound t x (refused n) e h = absurd (never_some h)
  finish_sound t x (got v i) e h = elim (ℕ_discrete i (length t)) [
    | no p ↦ absurd (never_some (rw (ne_eqb _ _ p) at h))
    | yes p ↦ elim (ℕ_discrete v.0.1 (F.count v.1)) [
      | no q ↦ absurd (never_some (rw (eq-eqb _ _ p, ne_eqb _ _ q) at h))
      | yes q ↦
          let k : some (F.make v.0.0 v.1) ≡ some x = rw (eq-eqb _ _ p, eq-eqb _ _ q) at h in
          let a : x ≡ F.make v.0.0 v.1 = cc in
          let s = lined.sound t v i e in
          record { modulus = v.0.0; values = v.1; made = a; word = s.1.0.0; ok = s.1.1; text = rw (← q) (begins_all _ t i s.0 p) }
    ]
  ]

  record_sound : (t : List ℕ) (x : X) → read_record F t ≡ some x → Parts t x
  record_sound t x h = finish_sound t x (both head (both F.first F.second) t) refl h

-- ---- the two records
pub jobs : Whole JobHolds job_text read_job
unfolding job_text read_job
jobs = record {
  complete = λ j o. record_complete job_format (coeffs_lines most_numbers) weights_lines j.modulus (j.coeffs, j.weights) o.modulus
      (omega (arith, o.coeffs.at_most)) o.coeffs o.weights;
  sound = λ t j h.
      let p = record_sound job_format (coeffs_lines most_numbers) weights_lines t j h in
      rw p.made (record { modulus = p.word; coeffs = p.ok.0; weights = p.ok.1 }, p.text);
}

pub answers : Whole AnswerHolds answer_text read_answer
unfolding answer_text read_answer
answers = record {
  complete = λ a o. record_complete answer_format marks (coeffs_lines most_placements) a.modulus (a.simple, a.coeffs) o.modulus
      (omega (arith, o.coeffs.at_most)) tt o.coeffs;
  sound = λ t a h.
      let p = record_sound answer_format marks (coeffs_lines most_placements) t a h in
      rw p.made (record { modulus = p.word; coeffs = p.ok.1 }, p.text);
}

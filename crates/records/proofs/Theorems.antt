-- The theorems of any kind of record, by name for the two of document 01, and the paper's example.
use Rattle.std.specs.Prelude.{ℕ, ◌≤◌, ◌≡◌, refl, true, ◌↔◌, List, [], ◌∷◌, ℤ, pos, nat_abs, length, take, drop}
use Rattle.std.proofs.Common.{arith}
use Rattle.std.proofs.Math.Decide.{dec_lt, dec_le}
use Rattle.std.proofs.Math.Seq.{take-append_seam}
use Rattle.limits.specs.Limits.{largest_written, most_numbers, most_placements}
use Rattle.decimal.specs.Spelling.{Each, Small, Word, after, decimal, digits, largest_word, line, signed}
use Rattle.lines.specs.Lines.{OneTo, bytes, head_text, mark_text}
use Rattle.std.specs.Prelude.{Result}
use Rattle.checks.specs.declared.Refusal.{Refusal}
use Rattle.records.specs.declared.AnswerHead.{AnswerHead}
use Rattle.records.specs.declared.JobHead.{JobHead}
use Rattle.records.specs.Told.{AnswerRead, JobRead, Written, answer_told, answer_told_once, job_told, job_told_once, written, written_once}
use Rattle.records.specs.Records.{Answer, AnswerHolds, Job, JobHolds, answer, answer_text, job, job_text}
use Rattle.records.specs.Put.{over}
use Rattle.records.specs.Kinds.{IsRecord}
use Rattle.records.specs.Promises.{AnswerRoom, JobRoom, ReadsAnswer, ReadsJob, WritesAnswer, WritesJob, answer_filled, answer_kind, answer_read, job_filled, job_kind, job_read}
use Rattle.records.specs.Scan.{read_answer, read_job}
use Rattle.records.specs.Laws.{answers, jobs}
use Rattle.records.proofs.AnyKind.{Lawful, is_decided, one_spelling, one_text, reads_back, reads_decides, succeeds_exactly, values_are, writes_back, writes_decides}

-- ---- which values a record can hold is decided
pub and_decided : {A B : Type 0} → Dec A → Dec B → Dec (A × B)
and_decided (yes a) (yes b) = yes (a, b)
and_decided (yes a) (no n) = no (λ p. n p.1)
and_decided (no n) d = no (λ p. n p.0)

decided_as : {A B : Type 0} → (A → B) → (B → A) → Dec A → Dec B
decided_as f g (yes a) = yes (f a)
decided_as f g (no n) = no (λ b. n (g b))

each_decided : {A : Type 0} (P : A → Type 0) → ((x : A) → Dec (P x)) → (xs : List A) → Dec (Each P xs)
each_decided P d [] = yes tt
each_decided P d (x ∷ xs) = and_decided (d x) (each_decided P d xs)

one_to_decided : {A : Type 0} (most : ℕ) (P : A → Type 0) → ((x : A) → Dec (P x)) → (xs : List A) → Dec (OneTo most P xs)
one_to_decided most P d xs =
    decided_as (λ c. record { each = c.0; at_least = c.1.0; at_most = c.1.1 }) (λ c. (c.each, (c.at_least, c.at_most)))
    (and_decided (each_decided P d xs) (and_decided (dec_lt 0 (length xs)) (dec_le (length xs) most)))

words_decided : (most : ℕ) (xs : List ℕ) → Dec (OneTo most Word xs)
words_decided most = one_to_decided most Word (λ n. dec_le n largest_word)

pub job_decided : (j : Job) → Dec (JobHolds j)
job_decided j =
    let weights = one_to_decided most_numbers Small (λ z. dec_le (nat_abs z) largest_written) j.weights in
    decided_as (λ h. record { modulus = h.0; coeffs = h.1.0; weights = h.1.1 }) (λ h. (h.modulus, (h.coeffs, h.weights)))
    (and_decided (dec_le j.modulus largest_word) (and_decided (words_decided most_numbers j.coeffs) weights))

pub answer_decided : (a : Answer) → Dec (AnswerHolds a)
answer_decided a =
    decided_as (λ h. record { modulus = h.0; coeffs = h.1 }) (λ h. (h.modulus, h.coeffs))
    (and_decided (dec_le a.modulus largest_word) (words_decided most_placements a.coeffs))

-- ---- jobs
-- what a job reader has handed out: the modulus, and the fronts of the two slices
abbrev pub job_values : JobRead → List ℕ × List ℤ → Job
job_values r lent = job r.modulus (take r.degree lent.0) (take r.weights lent.1)

abbrev pub job_laws : Lawful job_kind
job_laws = record {
  scan = read_job;
  whole = jobs;
  holds = job_decided;
  room = λ lent. and_decided (dec_le most_numbers (length lent.0)) (dec_le most_numbers (length lent.1));
  code = λ r. r.code;
  code_refused = λ n. refl;
  code_read = λ j. refl;
  number_told = λ e. omega arith;
  values = job_values;
  values_read = λ j lent. rw (take-append_seam j.coeffs (drop (length j.coeffs) lent.0), take-append_seam j.weights (drop (length j.weights) lent.1));
}

pub job_one_spelling : (j k : Job) → JobHolds j → JobHolds k → job_text j ≡ job_text k → j ≡ k
job_one_spelling = one_spelling job_laws

-- whether a text is a job is decided
pub is_job : (t : List ℕ) → Dec (IsRecord job_kind t)
is_job = is_decided job_laws

module _ {t : List ℕ} {lent l : List ℕ × List ℤ} {r : JobRead} (p : ReadsJob t lent r l) where
  pub read_job_decides : {k : List ℕ × List ℤ} {s : JobRead} → ReadsJob t lent s k → (r ≡ s) × (l ≡ k)
  read_job_decides q = reads_decides job_laws p q

  pub read_job_exactly : (r.code ≡ 0) ↔ (JobRoom lent × IsRecord job_kind t)
  read_job_exactly = succeeds_exactly job_laws p

  -- what is handed out are the values of the job that the text is
  pub read_job_values : r.code ≡ 0 → JobHolds (job_values r l) × (t ≡ job_text (job_values r l))
  read_job_values z = values_are job_laws p z

  pub job_writes_back : {out out' : List ℕ} {w : Written} → r.code ≡ 0 → WritesJob (job_values r l) out w out' → length t ≤ length out →
      (w ≡ record { code = 0; len = length t }) × (out' ≡ over t out)
  job_writes_back z w h = writes_back job_laws p z w h

  pub job_one_text : {u : List ℕ} {lent₂ k : List ℕ × List ℤ} {s : JobRead} → ReadsJob u lent₂ s k → r.code ≡ 0 → s.code ≡ 0 → job_values r l ≡ job_values s k → t ≡ u
  job_one_text q y z e = one_text job_laws p q y z e

module _ {j : Job} {out out' : List ℕ} {w : Written} (a : WritesJob j out w out') where
  pub write_job_decides : {o : List ℕ} {s : Written} → WritesJob j out s o → (w ≡ s) × (out' ≡ o)
  write_job_decides b = writes_decides job_laws a b

  pub job_reads_back : {lent l : List ℕ × List ℤ} {r : JobRead} → w.code ≡ 0 → ReadsJob (take w.len out') lent r l → JobRoom lent →
      (r ≡ job_read j) × (l ≡ job_filled j lent)
  job_reads_back z p o = reads_back job_laws a z p o

-- ---- answers
abbrev pub answer_values : AnswerRead → List ℕ → Answer
answer_values r lent = answer r.modulus r.simple (take r.degree lent)

abbrev pub answer_laws : Lawful answer_kind
answer_laws = record {
  scan = read_answer;
  whole = answers;
  holds = answer_decided;
  room = λ lent. dec_le most_placements (length lent);
  code = λ r. r.code;
  code_refused = λ n. refl;
  code_read = λ a. refl;
  number_told = λ e. omega arith;
  values = answer_values;
  values_read = λ a lent. rw (take-append_seam a.coeffs (drop (length a.coeffs) lent));
}

pub answer_one_spelling : (a b : Answer) → AnswerHolds a → AnswerHolds b → answer_text a ≡ answer_text b → a ≡ b
answer_one_spelling = one_spelling answer_laws

module _ {t lent l : List ℕ} {r : AnswerRead} (p : ReadsAnswer t lent r l) where
  pub read_answer_decides : {k : List ℕ} {s : AnswerRead} → ReadsAnswer t lent s k → (r ≡ s) × (l ≡ k)
  read_answer_decides q = reads_decides answer_laws p q

  pub read_answer_exactly : (r.code ≡ 0) ↔ (AnswerRoom lent × IsRecord answer_kind t)
  read_answer_exactly = succeeds_exactly answer_laws p

  pub read_answer_values : r.code ≡ 0 → AnswerHolds (answer_values r l) × (t ≡ answer_text (answer_values r l))
  read_answer_values z = values_are answer_laws p z

  pub answer_writes_back : {out out' : List ℕ} {w : Written} → r.code ≡ 0 → WritesAnswer (answer_values r l) out w out' → length t ≤ length out →
      (w ≡ record { code = 0; len = length t }) × (out' ≡ over t out)
  answer_writes_back z w h = writes_back answer_laws p z w h

  pub answer_one_text : {u lent₂ k : List ℕ} {s : AnswerRead} → ReadsAnswer u lent₂ s k → r.code ≡ 0 → s.code ≡ 0 → answer_values r l ≡ answer_values s k → t ≡ u
  answer_one_text q y z e = one_text answer_laws p q y z e

module _ {a : Answer} {out out' : List ℕ} {w : Written} (p : WritesAnswer a out w out') where
  pub write_answer_decides : {o : List ℕ} {s : Written} → WritesAnswer a out s o → (w ≡ s) × (out' ≡ o)
  write_answer_decides q = writes_decides answer_laws p q

  pub answer_reads_back : {lent l : List ℕ} {r : AnswerRead} → w.code ≡ 0 → ReadsAnswer (take w.len out') lent r l → AnswerRoom lent →
      (r ≡ answer_read a) × (l ≡ answer_filled a lent)
  answer_reads_back z q o = reads_back answer_laws p z q o

-- ---- each promise allows one result, since the numbers tell it
pub read_job_one_result : {t : List ℕ} {lent l k : List ℕ × List ℤ} {r s : Result JobHead Refusal} → ReadsJob t lent (job_told r) l → ReadsJob t lent (job_told s) k →
    (r ≡ s) × (l ≡ k)
read_job_one_result {r = r} {s} p q = let (e, f) = read_job_decides p q in (job_told_once r s e, f)

pub read_answer_one_result : {t lent l k : List ℕ} {r s : Result AnswerHead Refusal} → ReadsAnswer t lent (answer_told r) l → ReadsAnswer t lent (answer_told s) k →
    (r ≡ s) × (l ≡ k)
read_answer_one_result {r = r} {s} p q = let (e, f) = read_answer_decides p q in (answer_told_once r s e, f)

pub write_job_one_result : {j : Job} {out out' o : List ℕ} {r s : Result ℕ Refusal} → WritesJob j out (written r) out' → WritesJob j out (written s) o → (r ≡ s) × (out' ≡ o)
write_job_one_result {r = r} {s} p q = let (e, f) = write_job_decides p q in (written_once r s e, f)

pub write_answer_one_result : {a : Answer} {out out' o : List ℕ} {r s : Result ℕ Refusal} → WritesAnswer a out (written r) out' → WritesAnswer a out (written s) o →
    (r ≡ s) × (out' ≡ o)
write_answer_one_result {r = r} {s} p q = let (e, f) = write_answer_decides p q in (written_once r s e, f)

-- ---- document 01's example
pub example_job : job_text (job 257 (0 ∷ 0 ∷ 0 ∷ 256 ∷ []) (pos 1 ∷ pos 1 ∷ [])) ≡ bytes "modulus=257\ndegree=4\ncoeffs=0,0,0,256\nweights=1,1\n"
unfolding job_text head_text bytes decimal digits signed line after
example_job = refl

pub example_answer : answer_text (answer 257 true (0 ∷ 0 ∷ 0 ∷ 4 ∷ 0 ∷ 0 ∷ [])) ≡ bytes "modulus=257\ndegree=6\nsimple=yes\ncoeffs=0,0,0,4,0,0\n"
unfolding answer_text head_text mark_text bytes decimal digits signed line after
example_answer = refl

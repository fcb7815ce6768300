-- How long the records are: a job has at most 1,068 bytes, an answer at most 11,313. So no job is longer than the 4,096 bytes that
-- the program reads, and a byte slice of 11,313 is room enough for the answer to any text.
use Rattle.std.specs.Prelude.{◌≡◌, Bool, true, false, ℕ, suc, ◌+◌, ◌*◌, ◌≤◌, ◌<◌, length, ℤ, pos, negsuc}
use mathlib.Core.List.{List, [], ◌∷◌, ◌++◌}
use native.Mathlib.Omega.{arith}
use Rattle.std.proofs.Math.ListN.{length-append}
use Rattle.limits.specs.Limits.{longest_answer}
use Rattle.checks.specs.Checks.{row}
use Rattle.checks.specs.Laws.{first_at_most, row_at_most}
use Rattle.decimal.specs.Spelling.{Each, Small, Word, after, decimal, line, signed}
use Rattle.decimal.specs.NumberLaws.{digits_at_most, word_length}
use Rattle.lines.specs.Lines.{bytes, head_text, list_line, mark_text, number_line, refused_line}
use Rattle.records.specs.Records.{Answer, AnswerHolds, Job, JobHolds, answer_text, job_text}
use Rattle.refusals.specs.Refusals.{modulus_checks, degree_checks, coefficient_checks, weight_checks, number_checks, job_checks}
use Rattle.linres_text.specs.Texts.{rows_of, job_refusal}

small_length : (z : ℤ) → Small z → length (signed z) ≤ 4
unfolding signed
small_length (pos n) h = let i = digits_at_most 2 n (omega arith) in omega arith
small_length (negsuc n) h = let i = digits_at_most 2 (suc n) (omega arith) in omega arith

module _ {A : Type 0} (Ok : A → Type 0) (spell : A → List ℕ) (k : ℕ) (short : (x : A) → Ok x → length (spell x) ≤ k) where
  after_length : (xs : List A) → Each Ok xs → length (after spell xs) ≤ (k + 1) * length xs + 1
  unfolding after
  after_length [] e = omega arith
  after_length (x ∷ xs) e = omega (arith, length-append (spell x) (after spell xs), short x e.0, after_length xs e.1)

  line_length : (xs : List A) → Each Ok xs → length (line spell xs) ≤ (k + 1) * length xs
  unfolding line
  line_length [] e = omega arith
  line_length (x ∷ xs) e = omega (arith, length-append (spell x) (after spell xs), short x e.0, after_length xs e.1)

head_length : (m d : ℕ) → length (head_text m d) ≡ length (decimal m) + length (decimal d) + 17
unfolding head_text bytes
head_length m d = omega (
  arith,
  length-append (number_line (bytes "modulus=") m) (number_line (bytes "degree=") d),
  length-append (decimal m) (10 ∷ []),
  length-append (decimal d) (10 ∷ []),
)

mark_length : (b : Bool) → length (mark_text b) ≤ 11
unfolding mark_text bytes
mark_length true = omega arith
mark_length false = omega arith

pub job_length : (j : Job) → JobHolds j → length (job_text j) ≤ 1068
unfolding job_text bytes
job_length j h = omega (
  arith,
  length-append (head_text j.modulus (length j.coeffs)) (list_line decimal (bytes "coeffs=") j.coeffs ++ list_line signed (bytes "weights=") j.weights),
  length-append (list_line decimal (bytes "coeffs=") j.coeffs) (list_line signed (bytes "weights=") j.weights),
  head_length j.modulus (length j.coeffs),
  word_length j.modulus h.modulus,
  digits_at_most 1 (length j.coeffs) (omega (arith, h.coeffs.at_most)),
  line_length Word decimal 10 word_length j.coeffs h.coeffs.each,
  line_length Small signed 4 small_length j.weights h.weights.each,
  h.coeffs.at_most,
  h.weights.at_most,
)

pub answer_length : (a : Answer) → AnswerHolds a → length (answer_text a) ≤ longest_answer
unfolding answer_text bytes
answer_length a h = omega (
  arith,
  length-append (head_text a.modulus (length a.coeffs)) (mark_text a.simple ++ list_line decimal (bytes "coeffs=") a.coeffs),
  length-append (mark_text a.simple) (list_line decimal (bytes "coeffs=") a.coeffs),
  head_length a.modulus (length a.coeffs),
  word_length a.modulus h.modulus,
  digits_at_most 3 (length a.coeffs) (omega (arith, h.coeffs.at_most)),
  mark_length a.simple,
  line_length Word decimal 10 word_length a.coeffs h.coeffs.each,
  h.coeffs.at_most,
)

-- ---- a refusal's line: no number of a text's is above 10
pub refusal_at_most : (j : Job) → job_refusal j ≤ 10
unfolding job_refusal job_checks modulus_checks degree_checks coefficient_checks weight_checks number_checks
refusal_at_most j = first_at_most 10 (rows_of j) (omega arith)

pub row_number_at_most : (j : Job) (i : ℕ) → i < length (rows_of j) → (row (rows_of j) i).1 ≤ 10
unfolding job_checks modulus_checks degree_checks coefficient_checks weight_checks number_checks
row_number_at_most j = row_at_most 10 (rows_of j) (omega arith)

pub refused_length : (n : ℕ) → length (refused_line n) ≡ 9 + length (decimal n)
unfolding refused_line bytes
refused_length n = omega (arith, length-append (decimal n) (10 ∷ []))

pub refused_short : (n : ℕ) → n ≤ 10 → length (refused_line n) ≤ 11
refused_short n h = omega (arith, refused_length n, digits_at_most 1 n (omega arith))

-- The two records of document 01, by their spelling: the values of each, which values it can hold, and its four lines.
use Rattle.std.specs.Prelude.{ℕ, Bool, List, ◌++◌, ℤ, length}
use Rattle.limits.specs.Limits.{most_numbers, most_placements}
use Rattle.decimal.specs.Spelling.{Small, Word, decimal, signed}
use Rattle.lines.specs.Lines.{OneTo, bytes, head_text, list_line, mark_text}

-- ---- the values. The degree is none of its own: it "must equal the count of coefficients"
pub record Job : Type 0 where
  pub modulus : ℕ
  pub coeffs : List ℕ
  pub weights : List ℤ

pub record Answer : Type 0 where
  pub modulus : ℕ
  pub simple : Bool
  pub coeffs : List ℕ

abbrev pub job : ℕ → List ℕ → List ℤ → Job
job modulus coeffs weights = record { modulus = modulus; coeffs = coeffs; weights = weights }

abbrev pub answer : ℕ → Bool → List ℕ → Answer
answer modulus simple coeffs = record { modulus = modulus; simple = simple; coeffs = coeffs }

-- ---- which a record can hold: `coeffs=` (1 to 64 numbers), `weights=` (1 to 64 numbers, each -999 to 999)
pub record JobHolds (j : Job) : Type 0 where
  pub modulus : Word j.modulus
  pub coeffs : OneTo most_numbers Word j.coeffs
  pub weights : OneTo most_numbers Small j.weights

-- `coeffs=` (1 to 1,024 numbers)
pub record AnswerHolds (a : Answer) : Type 0 where
  pub modulus : Word a.modulus
  pub coeffs : OneTo most_placements Word a.coeffs

-- ---- the lines
-- "A job has four lines"
unfoldable pub job_text : Job → List ℕ
job_text j =
    head_text j.modulus (length j.coeffs)
    ++ (list_line decimal (bytes "coeffs=") j.coeffs
    ++ list_line signed (bytes "weights=") j.weights)

-- "An answer has four"
unfoldable pub answer_text : Answer → List ℕ
answer_text a =
    head_text a.modulus (length a.coeffs)
    ++ (mark_text a.simple
    ++ list_line decimal (bytes "coeffs=") a.coeffs)

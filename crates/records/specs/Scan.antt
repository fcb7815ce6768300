-- What reading a whole text finds: the two lines of the head, two lines more, nothing behind them, and the degree equal to the count.
use Rattle.std.specs.Prelude.{ℕ, ◌≡◌, Bool, cond, List, eqb, ℤ, length}
use Rattle.std.proofs.Math.Option.{Option, some, none}
use Rattle.limits.specs.Limits.{most_numbers, most_placements}
use Rattle.decimal.specs.Scan.{Got, got, number, read_list, refused, signed_number}
use Rattle.lines.specs.Lines.{bytes}
use Rattle.lines.specs.Scan.{both, head, keyed, mark}
use Rattle.records.specs.Records.{Answer, Job, answer, job}
use Rattle.records.specs.Kinds.{Kind}

-- ---- the lines
unfoldable pub coeffs_line : ℕ → List ℕ → Got (List ℕ)
coeffs_line most = keyed (bytes "coeffs=") (read_list number most)

unfoldable pub weights_line : List ℕ → Got (List ℤ)
weights_line = keyed (bytes "weights=") (read_list signed_number most_numbers)

-- ---- a record: its two last lines, the count that the degree must equal, and the values made of the modulus and of these lines
pub record Format (A B X : Type 0) : Type 0 where
  pub first : List ℕ → Got A
  pub second : List ℕ → Got B
  pub count : A × B → ℕ
  pub make : ℕ → A × B → X

module _ {A B X : Type 0} (F : Format A B X) where
  abbrev pub finish : Got ((ℕ × ℕ) × (A × B)) → ℕ → Option X
  finish (got v i) n = cond (eqb i n) (cond (eqb v.0.1 (F.count v.1)) (some (F.make v.0.0 v.1)) none) none
  finish (refused m) n = none

  abbrev pub read_record : List ℕ → Option X
  read_record t = finish (both head (both F.first F.second) t) (length t)

abbrev pub job_format : Format (List ℕ) (List ℤ) Job
job_format = record { first = coeffs_line most_numbers; second = weights_line; count = λ v. length v.0; make = λ m v. job m v.0 v.1 }

unfoldable pub read_job : List ℕ → Option Job
read_job = read_record job_format

abbrev pub answer_format : Format Bool (List ℕ) Answer
answer_format = record { first = mark; second = coeffs_line most_placements; count = λ v. length v.1; make = λ m v. answer m v.0 v.1 }

unfoldable pub read_answer : List ℕ → Option Answer
read_answer = read_record answer_format

-- ---- what the code answers for what is found: the values, which stand at the fronts of the arrays, or the number for any other text
pub record Parsed (k : Kind) (found : Option k.Values) (r : k.Answer) (arrays : k.Lent) : Type 0 where
  pub values : (v : k.Values) → found ≡ some v → (r ≡ k.read v) × (k.filled v arrays ≡ arrays)
  pub other : found ≡ none → r ≡ k.refused k.number

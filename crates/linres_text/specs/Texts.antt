-- The text that answers a text: what the program `linres` writes for what it reads (document 01, "The two records").
use Rattle.std.specs.Prelude.{◌≡◌, Bool, List, ℕ, ◌≤◌, ◌<◌, length}
use Rattle.limits.specs.Limits.{longest_text}
use Rattle.checks.specs.Checks.{Table, first}
use Rattle.refusals.specs.Refusals.{job_checks}
use Rattle.refusals.specs.Resolved.{Resolved}
use Rattle.lines.specs.Lines.{refused_line}
use Rattle.records.specs.Records.{Job, JobHolds, job_text, answer, answer_text}

-- rows 2 to 10 of the table, of a job
abbrev pub rows_of : Job → Table
rows_of j = job_checks j.modulus j.coeffs (length j.weights) j.weights

-- The number that a job is given: the entry's own, since rows 11, 12 and 16 apply to no job that has room for every N (`entry_number`
-- of Jobs).
unfoldable pub job_refusal : Job → ℕ
job_refusal j = first (rows_of j)

-- an answer record: "the prime, N, the mark, b1 to b6"
pub record AnswerRecord (j : Job) (bytes : List ℕ) : Type 0 where
  pub mark : Bool
  pub b : List ℕ
  pub resolved : Resolved j.modulus j.coeffs j.weights mark b
  pub text : bytes ≡ answer_text (answer j.modulus mark b)

-- "It writes an answer record, or the one line `refused=` with the number."
pub record AnswerTo (j : Job) (bytes : List ℕ) : Type 0 where
  pub refused : (job_refusal j ≡ 0 → ⊥) → bytes ≡ refused_line (job_refusal j)
  pub answered : job_refusal j ≡ 0 → AnswerRecord j bytes

-- "`linres` reads one job .., at most 4,096 bytes; more is 1"; row 1: "the text is not a record of the kind read"
pub record TextOf (text bytes : List ℕ) : Type 0 where
  pub long : longest_text < length text → bytes ≡ refused_line 1
  pub none : ((j : Job) → JobHolds j → text ≡ job_text j → ⊥) → bytes ≡ refused_line 1
  pub job : length text ≤ longest_text → (j : Job) → JobHolds j → text ≡ job_text j → AnswerTo j bytes

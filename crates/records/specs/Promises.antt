-- The two kinds of record of document 01, and what their readers and writers promise.
use Rattle.std.specs.Prelude.{ℕ, ◌≤◌, false, List, ℤ, length}
use Rattle.limits.specs.Limits.{most_numbers, most_placements}
use Rattle.records.specs.Told.{AnswerRead, JobRead, Written}
use Rattle.records.specs.Records.{Answer, AnswerHolds, Job, JobHolds, answer_text, job_text}
use Rattle.records.specs.Put.{over}
use Rattle.records.specs.Kinds.{Kind, Reads, Writes}

-- row 1: "the text is not a record of the kind read"
abbrev pub other_text : ℕ
other_text = 1

-- ---- a job: "two slices of 64 or more"
abbrev pub JobRoom : List ℕ × List ℤ → Type 0
JobRoom lent = (most_numbers ≤ length lent.0) × (most_numbers ≤ length lent.1)

-- "A refused reader returns the number and zero counts (modulus 0, ..)."
abbrev pub no_job : ℕ → JobRead
no_job n = record { code = n; modulus = 0; degree = 0; weights = 0 }

abbrev pub job_read : Job → JobRead
job_read j = record { code = 0; modulus = j.modulus; degree = length j.coeffs; weights = length j.weights }

abbrev pub job_filled : Job → List ℕ × List ℤ → List ℕ × List ℤ
job_filled j lent = (over j.coeffs lent.0, over j.weights lent.1)

abbrev pub job_kind : Kind
job_kind = record {
  Values = Job;
  Holds = JobHolds;
  text = job_text;
  number = other_text;
  Lent = List ℕ × List ℤ;
  Room = JobRoom;
  Answer = JobRead;
  refused = no_job;
  read = job_read;
  filled = job_filled;
}

abbrev pub ReadsJob : List ℕ → List ℕ × List ℤ → JobRead → List ℕ × List ℤ → Type 0
ReadsJob = Reads job_kind

abbrev pub WritesJob : Job → List ℕ → Written → List ℕ → Type 0
WritesJob = Writes job_kind

-- ---- an answer: "one of 1,024 or more"
abbrev pub AnswerRoom : List ℕ → Type 0
AnswerRoom lent = most_placements ≤ length lent

abbrev pub no_answer : ℕ → AnswerRead
no_answer n = record { code = n; modulus = 0; degree = 0; simple = false }

abbrev pub answer_read : Answer → AnswerRead
answer_read a = record { code = 0; modulus = a.modulus; degree = length a.coeffs; simple = a.simple }

abbrev pub answer_filled : Answer → List ℕ → List ℕ
answer_filled a lent = over a.coeffs lent

abbrev pub answer_kind : Kind
answer_kind = record {
  Values = Answer;
  Holds = AnswerHolds;
  text = answer_text;
  number = other_text;
  Lent = List ℕ;
  Room = AnswerRoom;
  Answer = AnswerRead;
  refused = no_answer;
  read = answer_read;
  filled = answer_filled;
}

abbrev pub ReadsAnswer : List ℕ → List ℕ → AnswerRead → List ℕ → Type 0
ReadsAnswer = Reads answer_kind

abbrev pub WritesAnswer : Answer → List ℕ → Written → List ℕ → Type 0
WritesAnswer = Writes answer_kind

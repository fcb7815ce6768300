-- What the readers and the writers answer, in the numbers of document 01: "code 0" with what is found, or the number of the row with
-- zeros. These numbers tell the result, so a promise about them is one about the result itself.
use Rattle.std.specs.Prelude.{ℕ, ◌≡◌, refl, Bool, false, Result}
use Rattle.std.specs.Result.{result_unwrap_or}
use Rattle.std.specs.declared.result.Result.TheVariants.{Ok, Err}
use Rattle.std.proofs.Common.{sym, ap, arith}
use Rattle.checks.specs.declared.Refusal.{Refusal}
use Rattle.checks.specs.Refusal.{number, number_positive, number_tells}
use Rattle.records.specs.declared.AnswerHead.{AnswerHead}
use Rattle.records.specs.declared.JobHead.{JobHead}

-- what reading a job gives: 0 or the number of the refusal, the modulus, how many coefficients, how many weights
pub record JobRead : Type 0 where
  pub code : ℕ
  pub modulus : ℕ
  pub degree : ℕ
  pub weights : ℕ

-- the same for an answer, with its mark
pub record AnswerRead : Type 0 where
  pub code : ℕ
  pub modulus : ℕ
  pub degree : ℕ
  pub simple : Bool

-- what writing a record gives: 0 or the number of the refusal, and the record's length
pub record Written : Type 0 where
  pub code : ℕ
  pub len : ℕ

-- "A refused reader returns the number and zero counts (modulus 0, ..)."
abbrev pub job_told : Result JobHead Refusal → JobRead
job_told (Ok h) = record { code = 0; modulus = h.modulus; degree = h.degree; weights = h.weights }
job_told (Err r) = record { code = number r; modulus = 0; degree = 0; weights = 0 }

abbrev pub answer_told : Result AnswerHead Refusal → AnswerRead
answer_told (Ok h) = record { code = 0; modulus = h.modulus; degree = h.degree; simple = h.simple }
answer_told (Err r) = record { code = number r; modulus = 0; degree = 0; simple = false }

-- "A refused writer returns the number and length 0."
abbrev pub written : Result ℕ Refusal → Written
written (Ok n) = record { code = 0; len = n }
written (Err r) = record { code = number r; len = 0 }

pub length_told : (r : Result ℕ Refusal) → result_unwrap_or r 0 ≡ (written r).len
length_told (Ok n) = refl
length_told (Err r) = refl

-- ---- the numbers tell the result
not_both : (r : Refusal) → 0 ≡ number r → ⊥
not_both r e = omega (arith, number_positive r)

pub job_told_once : (r s : Result JobHead Refusal) → job_told r ≡ job_told s → r ≡ s
job_told_once (Ok h) (Ok k) e = ap (λ (x : JobRead). Ok (record { modulus = x.modulus; degree = x.degree; weights = x.weights })) e
job_told_once (Ok h) (Err s) e = absurd (not_both s (ap (λ (x : JobRead). x.code) e))
job_told_once (Err r) (Ok k) e = absurd (not_both r (sym (ap (λ (x : JobRead). x.code) e)))
job_told_once (Err r) (Err s) e = ap Err (number_tells r s (ap (λ (x : JobRead). x.code) e))

pub answer_told_once : (r s : Result AnswerHead Refusal) → answer_told r ≡ answer_told s → r ≡ s
answer_told_once (Ok h) (Ok k) e = ap (λ (x : AnswerRead). Ok (record { modulus = x.modulus; degree = x.degree; simple = x.simple })) e
answer_told_once (Ok h) (Err s) e = absurd (not_both s (ap (λ (x : AnswerRead). x.code) e))
answer_told_once (Err r) (Ok k) e = absurd (not_both r (sym (ap (λ (x : AnswerRead). x.code) e)))
answer_told_once (Err r) (Err s) e = ap Err (number_tells r s (ap (λ (x : AnswerRead). x.code) e))

pub written_once : (r s : Result ℕ Refusal) → written r ≡ written s → r ≡ s
written_once (Ok m) (Ok n) e = ap (λ (x : Written). Ok x.len) e
written_once (Ok m) (Err s) e = absurd (not_both s (ap (λ (x : Written). x.code) e))
written_once (Err r) (Ok n) e = absurd (not_both r (sym (ap (λ (x : Written). x.code) e)))
written_once (Err r) (Err s) e = ap Err (number_tells r s (ap (λ (x : Written). x.code) e))

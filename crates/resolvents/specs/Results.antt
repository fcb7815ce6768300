-- What a result tells, in the numbers of document 01: "A refused resolvent call returns the number, N = 0 and simple = no", and works
-- no list (request 13). Nothing of a result is lost: `Told` of proofs/ has that two that tell the same are one.
use Rattle.std.specs.Prelude.{Bool, false, ℕ, Result, Ok, Err}
use Rattle.checks.specs.declared.Refusal.{Refusal}
use Rattle.checks.specs.Refusal.{number}
use Rattle.resolvents.specs.declared.Summary.{Summary}

-- the number of the first rule broken, or 0; N; the mark; the number of weight lists worked
pub record Outcome : Type 0 where
  pub code : ℕ
  pub count : ℕ
  pub simple : Bool
  pub lists : ℕ

abbrev pub outcome : Result Summary Refusal → Outcome
outcome (Ok s) = record { code = 0; count = s.count; simple = s.simple; lists = s.lists }
outcome (Err r) = record { code = number r; count = 0; simple = false; lists = 0 }

-- what a job costs, told before it is worked: the number of row 6 or 8, or 0; the number of weight lists
pub record Cost : Type 0 where
  pub code : ℕ
  pub lists : ℕ

abbrev pub cost : Result ℕ Refusal → Cost
cost (Ok n) = record { code = 0; lists = n }
cost (Err r) = record { code = number r; lists = 0 }

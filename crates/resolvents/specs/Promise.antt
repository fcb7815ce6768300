-- What the resolvent entry promises of every call (document 01: "A job in numbers", "The numbers we send back"; request 13).
use Rattle.std.specs.Prelude.{◌≡◌, List, ℕ}
use Rattle.checks.specs.Checks.{Answers}
use Rattle.definition.specs.Cost.{lists}
use Rattle.refusals.specs.Refusals.{Call, weights, refusal}
use Rattle.refusals.specs.Success.{Untouched, Success}
use Rattle.resolvents.specs.Results.{Outcome}

-- what a call leaves behind: its result, and the words of the slices that were lent
pub record Exit : Type 0 where
  pub outcome : Outcome
  pub output : List ℕ
  pub work : List ℕ

abbrev pub left : Outcome → List ℕ → List ℕ → Exit
left r output work = record { outcome = r; output = output; work = work }

-- a refusal: N = 0, simple = no, no list worked, and nothing lent is touched
pub record Refused (c : Call) (e : Exit) : Type 0 where
  pub untouched : Untouched c e.outcome.count e.outcome.simple e.output e.work
  pub lists : e.outcome.lists ≡ 0

-- a success: N, the mark, the coefficients and the clean work room, and the number of lists worked
pub record Done (c : Call) (e : Exit) : Type 0 where
  pub success : Success c e.outcome.count e.outcome.simple e.output e.work
  pub lists : e.outcome.lists ≡ lists (weights c)

-- the number of the first rule broken, or 0
abbrev pub Promise : Call → Exit → Type 0
Promise c e = Answers (refusal c) e.outcome.code (Refused c e) (Done c e)

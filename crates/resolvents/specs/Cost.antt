-- What a job costs, told before it is worked (request 13): the promise. That it tells what the entry returns is proved in `Costs`.
use Rattle.std.specs.Prelude.{◌≡◌, ℕ, ℤ, List}
use Rattle.checks.specs.Checks.{Answers}
use Rattle.definition.specs.Cost.{lists}
use Rattle.refusals.specs.Refusals.{list_refusal}
use Rattle.resolvents.specs.Results.{Cost}

-- of r weights L: the number of row 6 or 8 and no lists, or 0 and the number of lists
abbrev pub Told : ℕ → List ℤ → Cost → Type 0
Told r L t = Answers (list_refusal r L) t.code (t.lists ≡ 0) (t.lists ≡ lists L)

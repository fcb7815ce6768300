-- `has_place` meets its contract: `among` asks that r is not above the capacity and the place below r, and the code asks for the same.
use Rattle.std.proofs.Common.{sym, ◌∙◌}
use Rattle.std.proofs.lemmas.Bool.{lt-leb}
use Rattle.weights.specs.Laws.{among_long, among_short}
use Rattle.weights.proofs.Weights.has_place.Goals as goal

pub returns-then-self-le-CAPACITY : goal.returns-then-self-le-CAPACITY
returns-then-self-le-CAPACITY c = sym (among_short _ _ c.if-self-le-CAPACITY.true)

pub returns-else-self-le-CAPACITY : goal.returns-else-self-le-CAPACITY
returns-else-self-le-CAPACITY c = lt-leb _ _ c.if-self-le-CAPACITY.false ∙ sym (among_long _ _ c.if-self-le-CAPACITY.false)

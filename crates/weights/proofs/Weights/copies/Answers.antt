-- `copies` meets its contract: the chain gives the weights from a place on that are equal to the weight, and `occurs` counts the same. There are no
-- more of them than the list holds, so their number fits its word.
use Rattle.std.proofs.Common.{◌≡◌, ◌∙◌, get_or, pos, length, drop, filter, to_z, of_z, w32, arith, rules}
use Rattle.std.specs.Ordering.{int_eq}
use mir.ValLaws.{to_z-of_z}
use borrow.Author.Tests.{tests}
use Rattle.std.proofs.lemmas.Iterator.{YieldsList-from_slice}
use Rattle.std.proofs.lemmas.Iterator.Consumers.{YieldsList-from_filter, YieldsList-at, count_from_yields_List}
use Rattle.std.proofs.lemmas.List.{drop_min, take_rest}
use Rattle.weights.proofs.Counting.{occurs}
use Rattle.weights.proofs.Weights.copies.Goals as goal
use Rattle.weights.proofs.Weights.copies.Goals.{After-count}

counted : (c : After-count)
    → c.count.result ≡ length (filter (λ x. int_eq x (to_z w32 (of_z w32 c.unwrap_or-weight.result))) (drop c.min-from.result c.listed-listed.result.now))
counted c =
    let listed = c.listed-listed.result.now in
    let left = c.iter.ensures.rest ∙ take_rest listed c.min-from.result in
    count_from_yields_List c.filter.result c.count.result c.count.ensures.ran
    (YieldsList-from_filter _ _ (YieldsList-at c.filter.ensures.source (YieldsList-from_slice (drop c.min-from.result listed) left))
    c.filter.ensures.closure (λ x r q k. search (rules, tests)))

pub returns : goal.returns
returns c =
    let w = c.unwrap_or-weight in
    let read : w.result ≡ get_or c.listed-listed.result.now c.args.at (pos 0) = search rules in
    counted c
    ∙ occurs _ (drop c.min-from.result c.listed-listed.result.now)
    ∙ rw (to_z-of_z w32 w.result (record { sfits = omega arith }), read, c.min-from.ensures, drop_min c.args.from c.listed-listed.result.now, c.listed-listed.ensures.first_r)

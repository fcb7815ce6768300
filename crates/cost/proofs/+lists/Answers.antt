use Rattle.std.proofs.Common.{◌≡◌, ℕ, ◌+◌, ◌<◌, ap, ap₂, sym, ◌∙◌, arith, rules, List, ℤ, pos, length, get_or}
use mir.Syntax.{w32}
use mir.Val.{to_z, of_z}
use mir.ValLaws.{to_z-of_z}
use Rattle.limits.specs.Limits.{capacity}
use Rattle.weights.specs.declared.Weights.{Weights}
use Rattle.weights.specs.Lists.{listed, with_sum_at}
use Rattle.weights.specs.Laws.{listed_none}
use Rattle.weights.specs.Rests.{Rest, rest_facts}
use Rattle.definition.specs.Cost.{lists}
use Rattle.definition.proofs.Merge.{lists_number}
use Rattle.cost.specs.Walk.{new_here, old_here, walked, walked_none, walked_new, walked_old, walked_list, walked_fits}
use Rattle.cost.proofs.+lists.Goals as goal
use Rattle.cost.proofs.+lists.Goals.{After-without-rest, After-lists-number, After-copies-in-loop-j, then-copies, else-copies}

-- the first weight, as the code reads it
abbrev first : Weights → ℤ
first list = to_z w32 (of_z w32 (get_or list.places 0 (pos 0)))

module _ {t : ℕ} where
  -- the rest is made
  module _ (c : After-without-rest t) where
    rest_at : Rest c.args.list c.without-rest.result (first c.args.list)
    rest_at = rest_facts _ (search rules) c.requires _ _ (to_z-of_z w32 _ (record { sfits = omega arith })) c.without-rest.ensures

    fewer : c.without-rest.result.len < t
    fewer = omega (arith, rest_at.shorter, c.decreases)

    few : length (listed c.without-rest.result) < capacity
    few = omega (arith, rest_at.shorter, rest_at.long, c.requires.short)

  -- no collision is counted yet
  none_at : (c : After-lists-number t) → 1 + c.lists-number.result ≡ walked (first c.args.list) (listed c.without-rest.result) 0
  none_at c = ap (λ n. 1 + n) c.lists-number.ensures ∙ walked_none _ _

  -- at a place of the rest, when its copies are counted
  module _ (c : After-copies-in-loop-j t) (r : Rest c.args.list c.without-rest.result (first c.args.list)) where
    abbrev M : List ℤ
    M = listed c.without-rest.result

    there : c.loop-j.j < length M
    there = omega (arith, r.long, c.loop-j-test.true)

    -- as many equal weights stand from there on as in the whole rest, so its weight stands there first: one collision more
    more_at : c.copies.result ≡ c.copies-in-loop-j.result → (met : Weights) {n : ℕ} → met ≡ with_sum_at c.without-rest.result c.loop-j.j (first c.args.list)
        → n ≡ lists (listed met) → c.loop-j.number + n ≡ walked (first c.args.list) M (c.loop-j.j + 1)
    more_at q met e k =
        ap₂ ◌+◌ c.loop-j.invariant (k ∙ ap lists (r.meets c.loop-j.j met c.loop-j-test.true e).sum)
        ∙ walked_new _ _ c.loop-j.j there (new_here M c.loop-j.j (sym c.copies.ensures ∙ q ∙ c.copies-in-loop-j.ensures))

    -- fewer do, so it stood before
    same_at : ¬ (c.copies.result ≡ c.copies-in-loop-j.result) → c.loop-j.number ≡ walked (first c.args.list) M (c.loop-j.j + 1)
    same_at n = c.loop-j.invariant ∙ walked_old _ _ c.loop-j.j there (old_here M c.loop-j.j (λ q. n (c.copies.ensures ∙ q ∙ sym c.copies-in-loop-j.ensures)))

pub returns-then-list-eq0 : goal.returns-then-list-eq0
returns-then-list-eq0 t c = sym (ap lists (listed_none c.args.list c.if-list-eq0.true) ∙ lists_number.empty)

pub lists-number-requires : goal.lists-number-requires
lists-number-requires t c = (fewer c, (rest_at c).bounded)

pub overflow_add-number : goal.overflow_add-number
overflow_add-number t c =
    let b = (goal.at.overflow_add-number t c).After-without-rest in
    record { fits = walked_fits _ _ 0 _ (none_at c) (few b) (omega arith) }

pub loop-j-init : goal.loop-j-init
loop-j-init t c = none_at c

pub lists-number-requires-then-copies : goal.lists-number-requires-then-copies
lists-number-requires-then-copies t c =
    let b = (goal.at.lists-number-requires-then-copies t c).After-without-rest in
    let d = (rest_at b).meets c.loop-j.j _ c.loop-j-test.true c.with_sum.ensures in
    (omega (arith, d.len, fewer b), d.bounded)

pub overflow_add-number-then-copies : goal.overflow_add-number-then-copies
overflow_add-number-then-copies t c =
    let b = (goal.at.overflow_add-number-then-copies t c).After-without-rest in
    let d = (goal.at.overflow_add-number-then-copies t c).After-copies-in-loop-j in
    let more = more_at d (rest_at b) c.if-copies.true _ c.with_sum.ensures c.lists-number-then-copies.ensures in
    record { fits = walked_fits _ _ (c.loop-j.j + 1) _ more (few b) (omega (arith, there d (rest_at b))) }

pub loop-j-preserved : goal.loop-j-preserved
loop-j-preserved t c =
    let r = rest_at (goal.at.loop-j-preserved t c).After-without-rest in
    let d = (goal.at.loop-j-preserved t c).After-copies-in-loop-j in
    elim c.if-copies.branch [
      | then-copies w ↦ w.number-is ∙ more_at d r w.if-copies.true _ w.with_sum.ensures w.lists-number-then-copies.ensures
      | else-copies w ↦ w.number-is ∙ same_at d r w.if-copies.false
    ]

pub returns : goal.returns
returns t c =
    let r = rest_at (goal.at.returns t c).After-without-rest in
    walked_list c.args.list c.without-rest.result r c.loop-j.auto.j-end c.loop-j-test.false c.loop-j.invariant

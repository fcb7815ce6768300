use Rattle.std.proofs.Common.{sym, rules, arith}
use Rattle.std.proofs.Math.Path.{◌≡◌, ◌∙◌}
use Prim.Native.Nat.{◌-◌}
use Rattle.std.specs.Int.{w32}
use mir.ValLaws.{to_z-of_z}
use Rattle.weights.specs.Laws.{without_kept}
use Rattle.weights.proofs.Moving.{moving_none, moving_more, freed}
use Rattle.weights.proofs.Weights.without.Goals as goal

pub returns-then-not-has_place : goal.returns-then-not-has_place
returns-then-not-has_place c = sym (without_kept _ _ (sym c.has_place.ensures ∙ c.if-not-has_place.true))

pub loop-i-init : goal.loop-i-init
loop-i-init c = moving_none (omega arith) (sym c.has_place.ensures ∙ c.if-not-has_place.false)

pub loop-i-preserved : goal.loop-i-preserved
loop-i-preserved c = moving_more c.loop-i.invariant (search rules) (to_z-of_z w32 _ (record { sfits = omega arith }))

pub returns : goal.returns
returns c = let last : c.loop-i.i ≡ c.args.self.len - 1 = omega arith in rw last at (freed c.loop-i.invariant (omega arith))

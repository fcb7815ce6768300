-- The library's test of all items calls `small` on each, and that is the test of `all_small`.
use Rattle.std.proofs.Common.{◌∙◌, sym, leb, rules}
use Rattle.std.specs.Prelude.{nat_abs}
use Rattle.std.proofs.lemmas.Iterator.{YieldsList-from_slice}
use Rattle.std.proofs.lemmas.Iterator.Search.{all_from_yields_List}
use Rattle.limits.specs.Limits.{largest_written}
use Rattle.decimal.proofs.Smalls.{all_is}
use Rattle.decimal.proofs.each_small.Goals as goal

pub returns : goal.returns
returns c =
    all_from_yields_List (λ z. leb (nat_abs z) largest_written) _ _ _ c.all.ensures.ran (YieldsList-from_slice c.args.zs.now cc) (λ x b q k. search rules)
    ∙ sym (all_is c.args.zs.now)

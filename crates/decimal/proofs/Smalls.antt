-- The test of all numbers of a list is the library's, and tells whether each is small.
use Rattle.std.proofs.Common.{◌≡◌, refl, true, List, [], ◌∷◌, leb, arith, le-leb}
use Rattle.std.proofs.Math.Decide.{dec_le}
use Rattle.std.proofs.lemmas.Bool.{lt-leb}
use Rattle.std.specs.Prelude.{ℤ, nat_abs}
use Rattle.std.specs.List.{list_all}
use Rattle.limits.specs.Limits.{largest_written}
use Rattle.decimal.specs.Spelling.{Each, Small}
use Rattle.decimal.specs.Scans.{never_true}
use Rattle.decimal.specs.Written.{all_small}

pub all_is : (zs : List ℤ) → all_small zs ≡ list_all (λ z. leb (nat_abs z) largest_written) zs
all_is [] = refl
all_is (z ∷ zs) = grind (arith, all_is zs)

-- the test tells whether each number is small
pub all_small_each : (xs : List ℤ) → all_small xs ≡ true → Each Small xs
all_small_each [] h = tt
all_small_each (z ∷ zs) h = elim (dec_le (nat_abs z) largest_written) [
  | yes p ↦ (p, all_small_each zs (rw (le-leb _ _ p) at h))
  | no p ↦ absurd (never_true (rw (lt-leb (nat_abs z) largest_written (omega arith)) at h))
]

pub each_all_small : (zs : List ℤ) → Each Small zs → all_small zs ≡ true
each_all_small [] a = refl
each_all_small (z ∷ zs) a = rw (le-leb _ _ a.0) (each_all_small zs a.1)

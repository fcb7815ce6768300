-- The numbers of document 01's table, each with its rule, and the number that an answer comes with: 0 where nothing is refused.
use Rattle.std.specs.Prelude.{ℕ, ◌≡◌, refl, ◌<◌, cond, eqb, Result}
use Rattle.std.proofs.Common.{sym, ap, ◌∙◌, arith}
use Rattle.std.specs.declared.result.Result.TheVariants.{Ok, Err}
use Rattle.checks.specs.declared.Refusal.{Refusal}
use Rattle.checks.specs.declared.Refusal.TheVariants.{NoRecord, ModulusOutOfRange, NotPrime, DegreeOutOfRange, LargeCoefficient, CountOutOfRange}
use Rattle.checks.specs.declared.Refusal.TheVariants.{MoreWeightsThanZeros, WeightOutOfRange, ManyPlacements, PlacementsReachModulus}
use Rattle.checks.specs.declared.Refusal.TheVariants.{ShortOutput, ShortWork, ShortLists, ShortText, NotHeld, ZeroDivisor}

abbrev pub number : Refusal → ℕ
number NoRecord = 1
number ModulusOutOfRange = 2
number NotPrime = 3
number DegreeOutOfRange = 4
number LargeCoefficient = 5
number CountOutOfRange = 6
number MoreWeightsThanZeros = 7
number WeightOutOfRange = 8
number ManyPlacements = 9
number PlacementsReachModulus = 10
number ShortOutput = 11
number ShortWork = 12
number ShortLists = 13
number ShortText = 14
number NotHeld = 15
number ZeroDivisor = 16

-- "code 0": the number that a result is told by
abbrev pub code : {A : Type 0} → Result A Refusal → ℕ
code (Ok x) = 0
code (Err r) = number r

-- the row that has a number, and so two rows with the same number are one
with_number : ℕ → Refusal
with_number n =
    cond (eqb n 1) NoRecord (
    cond (eqb n 2) ModulusOutOfRange (
    cond (eqb n 3) NotPrime (
    cond (eqb n 4) DegreeOutOfRange (
    cond (eqb n 5) LargeCoefficient (
    cond (eqb n 6) CountOutOfRange (
    cond (eqb n 7) MoreWeightsThanZeros (
    cond (eqb n 8) WeightOutOfRange (
    cond (eqb n 9) ManyPlacements (
    cond (eqb n 10) PlacementsReachModulus (
    cond (eqb n 11) ShortOutput (
    cond (eqb n 12) ShortWork (
    cond (eqb n 13) ShortLists (
    cond (eqb n 14) ShortText (
    cond (eqb n 15) NotHeld (
    ZeroDivisor)))))))))))))))

with_its_number : (r : Refusal) → with_number (number r) ≡ r
unfolding with_number
with_its_number NoRecord = refl
with_its_number ModulusOutOfRange = refl
with_its_number NotPrime = refl
with_its_number DegreeOutOfRange = refl
with_its_number LargeCoefficient = refl
with_its_number CountOutOfRange = refl
with_its_number MoreWeightsThanZeros = refl
with_its_number WeightOutOfRange = refl
with_its_number ManyPlacements = refl
with_its_number PlacementsReachModulus = refl
with_its_number ShortOutput = refl
with_its_number ShortWork = refl
with_its_number ShortLists = refl
with_its_number ShortText = refl
with_its_number NotHeld = refl
with_its_number ZeroDivisor = refl

pub number_tells : (r s : Refusal) → number r ≡ number s → r ≡ s
number_tells r s e = sym (with_its_number r) ∙ ap with_number e ∙ with_its_number s

-- no row has the number 0
pub number_positive : (r : Refusal) → 0 < number r
number_positive NoRecord = omega arith
number_positive ModulusOutOfRange = omega arith
number_positive NotPrime = omega arith
number_positive DegreeOutOfRange = omega arith
number_positive LargeCoefficient = omega arith
number_positive CountOutOfRange = omega arith
number_positive MoreWeightsThanZeros = omega arith
number_positive WeightOutOfRange = omega arith
number_positive ManyPlacements = omega arith
number_positive PlacementsReachModulus = omega arith
number_positive ShortOutput = omega arith
number_positive ShortWork = omega arith
number_positive ShortLists = omega arith
number_positive ShortText = omega arith
number_positive NotHeld = omega arith
number_positive ZeroDivisor = omega arith

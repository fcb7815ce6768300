-- A mark is a word of C's: cast to a word it is 1 or 0, and a word that is 1 or 0 is the mark that the test `== 1` finds.
use Prim.Native.Nat.{ℕ, ◌≤◌}
use mathlib.Core.Path.{◌≡◌, refl, sym}
use mathlib.Core.Bool.{Bool, true, false}
use mathlib.Core.List.{List}
use native.Mathlib.Omega.{arith}
use lib.Dec.{eqb}
use mir.Val.{bool_byte}
use Rattle.records.specs.Told.{Written}
use Rattle.records.specs.Records.{answer}
use Rattle.records.specs.Put.{not_written}
use Rattle.records.specs.Promises.{WritesAnswer}
use Rattle.exports.specs.Promises.{WritesMarked, mark_word}

pub cast_mark : (mark : Bool) → bool_byte mark ≡ mark_word mark
cast_mark true = refl
cast_mark false = refl

test_mark : (mark : Bool) → eqb (mark_word mark) 1 ≡ mark
test_mark true = refl
test_mark false = refl

at_most_one : (mark : Bool) → mark_word mark ≤ 1
at_most_one true = omega arith
at_most_one false = omega arith

module _ {modulus simple : ℕ} {coeffs out out' : List ℕ} {w : Written} where
  pub no_mark : 2 ≤ simple → w ≡ not_written 15 → out' ≡ out → WritesMarked modulus simple coeffs out w out'
  no_mark l e o = record { row_15 = λ _. (e, o); marked = λ mark is. absurd (omega (arith, at_most_one mark)) }

  pub a_mark : simple ≤ 1 → WritesAnswer (answer modulus (eqb simple 1) coeffs) out w out' → WritesMarked modulus simple coeffs out w out'
  a_mark l right = record { row_15 = λ m. absurd (omega arith); marked = λ mark is. rw (sym (test_mark mark), sym is) right }

-- What an answer is: the mark and b1 to bN (document 01, "A job in numbers", "The definition"). Nothing is proved here: `ResolvedOnly`
-- has that each job has one answer, and one only.
use Rattle.std.specs.Prelude.{◌≡◌, Bool, true, List, ◌↔◌, ℕ, ℤ}
use Rattle.residues.specs.Residues.{residues, Words}
use Rattle.polynomials.specs.Divisors.{Simple}
use Rattle.definition.specs.Definition.{Resolvent}

-- "simple is yes exactly when f and its derivative have greatest common divisor 1"; rules 1 to 4; words below p
pub record Resolved (p : ℕ) (f : List ℕ) (L : List ℤ) (mark : Bool) (b : List ℕ) : Type 0 where
  pub simple : (mark ≡ true) ↔ Simple p f
  pub resolvent : Resolvent (residues p) f L b
  pub words : Words p b

-- What a writer leaves, and the leaf questions that writers ask.
use Rattle.std.specs.Prelude.{ℕ, ◌+◌, ◌≡◌, Bool, true, false, cond, List, [], ◌∷◌, eqb, leb, ℤ, nat_abs, length}
use Rattle.std.proofs.lemmas.List.Edits.{sets}
use Rattle.limits.specs.Limits.{largest_written}

-- s over the bytes of out from at on, and the place behind it
pub record Wrote (s out : List ℕ) (at : ℕ) (out' : List ℕ) (behind : ℕ) : Type 0 where
  pub text : out' ≡ sets out at s
  pub place : behind ≡ at + length s

-- behind the first i of n items: a line feed behind the last, else a comma
unfoldable pub separator_of : ℕ → ℕ → ℕ
separator_of i n = cond (eqb i n) 10 44

abbrev pub all_small : List ℤ → Bool
all_small [] = true
all_small (z ∷ zs) = cond (leb (nat_abs z) largest_written) (all_small zs) false

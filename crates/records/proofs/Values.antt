-- Which values a record can hold, by the tests that the code makes, and how long it is: the sum of its parts.
use Prim.Native.Nat.{ℕ, suc, ◌+◌, ◌≤◌, ◌<◌}
use mathlib.Core.Path.{◌≡◌, sym, ◌∙◌}
use mathlib.Core.Bool.{Bool, true}
use mathlib.Core.Logic.{◌↔◌}
use mathlib.Core.List.{List, [], ◌∷◌, ◌++◌}
use native.Mathlib.Omega.{arith}
use lib.IntN.{ℤ}
use lib.ListN.{length, get_or, length-append}
use mir.Syntax.{w32}
use mir.Val.{Fits}
use Rattle.limits.specs.Limits.{most_numbers, most_placements}
use Rattle.decimal.specs.Spelling.{Each, Word, decimal, line, signed}
use Rattle.decimal.specs.Written.{all_small}
use Rattle.decimal.proofs.Smalls.{all_small_each, each_all_small}
use Rattle.lines.specs.Lines.{OneTo, bytes, head_text, list_line, mark_text}
use Rattle.records.specs.Records.{AnswerHolds, JobHolds, answer, answer_text, job, job_text}

-- ---- which values
each_word : (xs : List ℕ) → ((i : ℕ) → Fits w32 (get_or xs i 0)) → Each Word xs
each_word [] h = tt
each_word (x ∷ xs) h = (omega (arith, h 0), each_word xs (λ i. h (suc i)))

one_to : (most : ℕ) (xs : List ℕ) → ((i : ℕ) → Fits w32 (get_or xs i 0)) → 0 < length xs → length xs ≤ most → OneTo most Word xs
one_to most xs g a b = record { each = each_word xs g; at_least = a; at_most = b }

module _ (m : ℕ) (cs : List ℕ) (ws : List ℤ) where
  pub each_weight : Fits w32 m → ((i : ℕ) → Fits w32 (get_or cs i 0)) → 0 < length cs → length cs ≤ most_numbers
      → 0 < length ws → length ws ≤ most_numbers → (b : Bool) → b ≡ all_small ws → (b ≡ true) ↔ JobHolds (job m cs ws)
  each_weight f g a b c d r e = (
    λ h. record {
      modulus = omega arith;
      coeffs = one_to most_numbers cs g a b;
      weights = record { each = all_small_each ws (sym e ∙ h); at_least = c; at_most = d };
    },
    λ v. e ∙ each_all_small ws v.weights.each,
  )

module _ (m : ℕ) (s : Bool) (cs : List ℕ) where
  pub answer_held : Fits w32 m → ((i : ℕ) → Fits w32 (get_or cs i 0)) → 0 < length cs → length cs ≤ most_placements → AnswerHolds (answer m s cs)
  answer_held f g a b = record { modulus = omega arith; coeffs = one_to most_placements cs g a b }

-- ---- how long
pub job_length : (m : ℕ) (cs : List ℕ) (ws : List ℤ) → length (job_text (job m cs ws)) ≡ length (head_text m (length cs)) + (7 + length (line decimal cs)) + (8 + length (line signed ws))
unfolding job_text bytes
job_length m cs ws =
    let a : List ℕ = list_line decimal (bytes "coeffs=") cs in
    let b : List ℕ = list_line signed (bytes "weights=") ws in
    omega (arith, length-append (head_text m (length cs)) (a ++ b), length-append a b)

pub answer_length : (m : ℕ) (s : Bool) (cs : List ℕ) → length (answer_text (answer m s cs)) ≡ length (head_text m (length cs)) + length (mark_text s) + (7 + length (line decimal cs))
unfolding answer_text bytes
answer_length m s cs =
    let b : List ℕ = list_line decimal (bytes "coeffs=") cs in
    omega (arith, length-append (head_text m (length cs)) (mark_text s ++ b), length-append (mark_text s) b)

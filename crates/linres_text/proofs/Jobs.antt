-- Which jobs are answered: those that break none of rows 2 to 10. The program lends the entry room for every N that row 9 lets pass,
-- so rows 11 and 12 never apply, and what row 16 asks holds where N and the weights' count are below p.
use Rattle.std.specs.Prelude.{◌≡◌, Bool, List, [], ◌∷◌, ◌↔◌, ℕ, zero, suc, ◌*◌, ◌≤◌, ◌<◌, length, take, get_or, ℤ, pos}
use Rattle.std.proofs.Common.{sym, ◌∙◌, arith}
use Rattle.std.proofs.Math.Nat as N
use Rattle.std.proofs.Math.Decide.{ℕ_discrete}
use Rattle.std.proofs.Math.Seq.{take-length}
use Rattle.limits.specs.Limits.{largest_modulus, most_placements, largest_room}
use Rattle.checks.specs.Laws.{first_given}
use Rattle.algebra.specs.Binomial.{falling, falling_zero, falling_suc}
use Rattle.algebra.specs.Integer.{ℤ_eq}
use Rattle.placements.specs.Placements.{factorials, placed}
use Rattle.placements.proofs.Number.{placed_whole}
use Rattle.residues.specs.Residues.{Words}
use Rattle.refusals.specs.Refusals.{call_checks, checks, refusal, GoodJob, GoodRoom}
use Rattle.refusals.proofs.Reading.{job_good, not_refused}
use Rattle.refusals.proofs.ResolvedOnly.{divisors_apart}
use Rattle.resolvents.specs.Slices.{asked}
use Rattle.decimal.specs.Spelling.{Each, Small, Word}
use Rattle.records.specs.Records.{Job, JobHolds, AnswerHolds, answer}
use Rattle.linres_text.specs.Texts.{job_refusal}

-- N of a job
abbrev pub N_of : Job → ℕ
N_of j = placed (length j.coeffs) j.weights

-- a job that breaks none of rows 2 to 10
abbrev pub Good : Job → Type 0
Good j = GoodJob j.modulus j.coeffs (length j.weights) j.weights

pub good_exactly : (j : Job) → (job_refusal j ≡ 0) ↔ Good j
unfolding job_refusal
good_exactly j = job_good _ _ _ _

-- the entry gives a job this number, with room for every N
pub entry_number : (j : Job) (out work : List ℕ) → length out ≡ most_placements → length work ≡ largest_room
    → refusal (asked j.modulus j.coeffs j.weights out work) ≡ job_refusal j
unfolding refusal checks call_checks job_refusal
entry_number j out work o w = elim (ℕ_discrete (job_refusal j) 0) [
  | yes z ↦
      let g = (good_exactly j).0 z in
      let rooms : GoodRoom (N_of j) (length out) (length work) = record { output_fits = rw o g.number.high; work_fits = rw w (omega (arith, g.number.high)) } in
      (not_refused (asked j.modulus j.coeffs j.weights out work)).1
      (record { good = record { job = rw whole g; rooms = rw whole rooms }; divisors = rw whole (divisors_apart g (N.le_refl _)) })
      ∙ sym z
  | no n ↦ rw whole (first_given _ _ (λ z. n (sym (first_given _ _ n) ∙ z)) ∙ first_given _ _ n)
]
  where
    whole : take (length j.weights) j.weights ≡ j.weights
    whole = take-length j.weights

-- ---- a job that is answered has at least one placement, so its answer record can be written
falling_positive : (n r : ℕ) → r ≤ n → 0 < falling n r
falling_positive n zero h = rw (falling_zero n) (omega arith)
falling_positive zero (suc r) h = absurd (omega arith)
falling_positive (suc n) (suc r) h = rw (falling_suc n r) (N.mul-pos (omega arith) (falling_positive n r (omega arith)))

positive_right : (a b : ℕ) → 0 < a * b → 0 < b
positive_right a zero h = absurd (omega arith)
positive_right a (suc b) h = omega arith

pub placed_positive : (n : ℕ) (L : List ℤ) → length L ≤ n → 0 < placed n L
placed_positive n L h = positive_right (factorials ℤ_eq L) (placed n L) (rw (placed_whole n L) (falling_positive n (length L) h))

each_of : {A : Type 0} (P : A → Type 0) (d : A) (xs : List A) → ((i : ℕ) → i < length xs → P (get_or xs i d)) → Each P xs
each_of P d [] h = tt
each_of P d (x ∷ xs) h = (h 0 (omega arith), each_of P d xs (λ i l. h (suc i) (omega arith)))

each_word : (p : ℕ) → p ≤ largest_modulus → (b : List ℕ) → Words p b → Each Word b
each_word p h b w = each_of Word 0 b (λ i l. omega (arith, w i l))

pub answer_holds : (j : Job) → Good j → (mark : Bool) (b : List ℕ) → length b ≡ N_of j → Words j.modulus b → AnswerHolds (answer j.modulus mark b)
answer_holds j g mark b e w = record {
  modulus = omega (arith, g.modulus.high);
  coeffs = record {
    each = each_word j.modulus g.modulus.high b w;
    at_least = rw e (placed_positive _ _ g.list.fits);
    at_most = rw e g.number.high;
  };
}

-- and a job record can hold it
pub good_holds : (j : Job) → Good j → JobHolds j
good_holds j g = record {
  modulus = omega (arith, g.modulus.high);
  coeffs = record {
    each = each_word j.modulus g.modulus.high j.coeffs g.words;
    at_least = g.degree.some;
    at_most = omega (arith, g.degree.high);
  };
  weights = record {
    each = each_of Small (pos 0) j.weights (λ i l. omega (arith, (g.list.each i l).1));
    at_least = g.list.some;
    at_most = omega (arith, g.list.high);
  };
}

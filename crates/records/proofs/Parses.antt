-- A record is read line by line, each in the part behind the one before: where a line is missing, something follows or the degree is
-- another, the text is no record. One argument for both records: the scanners of their lines are those of a format.
use Prim.Native.Nat.{ℕ, ◌+◌, ◌≤◌}
use mathlib.Core.Path.{◌≡◌, sym, ◌∙◌, subst}
use mathlib.Core.Bool.{Bool}
use mathlib.Core.Option.{Option, some, none}
use mathlib.Core.List.{List}
use native.Mathlib.Omega.{arith}
use lib.IntN.{ℤ}
use lib.ListN.{length, take, take-append-drop}
use lib.Seq.{length-take-le}
use borrow.Author.Tests.{eq-eqb, ne_eqb}
use Rattle.limits.specs.Limits.{most_numbers}
use Rattle.std.specs.Prelude.{refl, Some, None, Option as Answered, ok_or}
use Rattle.checks.specs.declared.Refusal.TheVariants.{NoRecord}
use Rattle.decimal.specs.Scan.{Got, ListRead, bad, got, number, read_list, signed_number}
use Rattle.decimal.proofs.ListSteps.{rest, rest_is, rest_length}
use Rattle.lines.specs.Lines.{bytes}
use Rattle.lines.specs.Scan.{both, head, keyed}
use Rattle.lines.specs.Laws.{Exact, within}
use Rattle.records.specs.declared.AnswerHead.{AnswerHead}
use Rattle.records.specs.declared.JobHead.{JobHead}
use Rattle.records.specs.Told.{answer_told, job_told}
use Rattle.records.specs.Records.{answer, job}
use Rattle.records.specs.Put.{over}
use Rattle.records.specs.Kinds.{Kind}
use Rattle.records.specs.Promises.{answer_kind, job_kind}
use Rattle.records.specs.Scan.{Format, Parsed, answer_format, coeffs_line, job_format, read_answer, read_job, read_record, weights_line}
use Rattle.records.specs.Laws.{never_some}

-- a line read at the front of a text: what it holds, and the place behind it
pub record LineRead {A : Type 0} (scan : List ℕ → Got A) (t : List ℕ) (v : A) (i : ℕ) : Type 0 where
  pub found : scan t ≡ got v i
  pub fits : i ≤ length t

pub line_read : {A : Type 0} {Ok : A → Type 0} {render : A → List ℕ} {scan : List ℕ → Got A} {v : A} {i : ℕ}
    → Exact Ok render scan → (t : List ℕ) → scan t ≡ got v i → LineRead scan t v i
line_read {v = v} {i} E t e = record { found = e; fits = within E t v i e }

module _ {A B X : Type 0} (F : Format A B X) (t : List ℕ) where
  pub no_head : head t ≡ bad → read_record F t ≡ none
  no_head e = rw e

  module _ {h : ℕ × ℕ} {i : ℕ} (s : LineRead head t h i) where
    pub no_first : F.first (rest t i) ≡ bad → read_record F t ≡ none
    no_first e = rw (s.found, ← rest_is t i, e)

    module _ {a : A} {j : ℕ} (f : LineRead F.first (rest t i) a j) where
      pub no_second : F.second (rest (rest t i) j) ≡ bad → read_record F t ≡ none
      no_second e = rw (s.found, ← rest_is t i, f.found, ← rest_is (rest t i) j, e)

      module _ {b : B} {m : ℕ} (g : LineRead F.second (rest (rest t i) j) b m) where
        places : length (rest (rest t i) j) + (i + j) ≡ length t
        places = omega (arith, rest_length t i, rest_length (rest t i) j, s.fits, f.fits)

        all_found : both head (both F.first F.second) t ≡ got (h, (a, b)) (i + (j + m))
        all_found = rw (s.found, ← rest_is t i, f.found, ← rest_is (rest t i) j, g.found)

        pub more_behind : (m ≡ length (rest (rest t i) j) → ⊥) → read_record F t ≡ none
        more_behind n =
            let z : i + (j + m) ≡ length t → ⊥ = λ q. n (omega (arith, places)) in
            rw (all_found, ne_eqb _ _ z)

        module _ (e : m ≡ length (rest (rest t i) j)) where
          ended : i + (j + m) ≡ length t
          ended = omega (arith, places)

          pub other_degree : (h.1 ≡ F.count (a, b) → ⊥) → read_record F t ≡ none
          other_degree q = rw (all_found, eq-eqb _ _ ended, ne_eqb _ _ q)

          pub record_read : h.1 ≡ F.count (a, b) → read_record F t ≡ some (F.make h.0 (a, b))
          record_read q = rw (all_found, eq-eqb _ _ ended, eq-eqb _ _ q)

-- ---- the lists, with the room that the code lends
pub counted : {A : Type 0} {g : Got (List A)} {r : Answered (ℕ × ℕ)} {out : List A} {n i : ℕ} → ListRead g r out → r ≡ Some (n, i) → length (take n out) ≡ n
counted h e = length-take-le _ _ (rw e at h.fits)

pub no_list : {A : Type 0} {g : Got (List A)} {r : Answered (ℕ × ℕ)} {out : List A} → ListRead g r out → r ≡ None → g ≡ bad
no_list h e = sym (rw e at h.found)

pub list_there : {A : Type 0} {scan : List ℕ → Got (List A)} {t : List ℕ} {r : Answered (ℕ × ℕ)} {out : List A} {Ok : List A → Type 0} {render : List A → List ℕ} {n i : ℕ} →
    ListRead (scan t) r out → Exact Ok render scan → r ≡ Some (n, i) → LineRead scan t (take n out) i
list_there {t = t} h E e = line_read E t (sym (rw e at h.found))

pub coeffs_read : (most : ℕ) (t : List ℕ) {l : ℕ} {r : Answered (ℕ × ℕ)} {out : List ℕ} → l ≡ most → ListRead (keyed (bytes "coeffs=") (read_list number l) t) r out →
    ListRead (coeffs_line most t) r out
unfolding coeffs_line
coeffs_read most t {r = r} {out} p h = subst (λ (k : ℕ). ListRead (keyed (bytes "coeffs=") (read_list number k) t) r out) p h

pub weights_read : (t : List ℕ) {l : ℕ} {r : Answered (ℕ × ℕ)} {out : List ℤ} → l ≡ most_numbers → ListRead (keyed (bytes "weights=") (read_list signed_number l) t) r out →
    ListRead (weights_line t) r out
unfolding weights_line
weights_read t {r = r} {out} p h = subst (λ (k : ℕ). ListRead (keyed (bytes "weights=") (read_list signed_number k) t) r out) p h

-- ---- what the parsers answer
module _ {k : Kind} {found : Option k.Values} {r : k.Answer} {arrays : k.Lent} where
  parsed_none : found ≡ none → r ≡ k.refused k.number → Parsed k found r arrays
  parsed_none e f = record { values = λ v g. absurd (never_some (sym e ∙ g)); other = λ _. f }

  parsed_some : (v : k.Values) → found ≡ some v → r ≡ k.read v → k.filled v arrays ≡ arrays → Parsed k found r arrays
  parsed_some v e f g = record {
    values = λ w h. let q : v ≡ w = (let s : some v ≡ some w = sym e ∙ h in cc) in rw (← q) (f, g);
    other = λ h. absurd (never_some (sym h ∙ e));
  }

-- numbers at the front of an array lie over it
over_front : {A : Type 0} (n : ℕ) (xs : List A) → length (take n xs) ≡ n → over (take n xs) xs ≡ xs
over_front n xs e = rw e (take-append-drop n xs)

pub job_none : (t : List ℕ) {o : Answered JobHead} {arrays : List ℕ × List ℤ} → read_record job_format t ≡ none → o ≡ None →
    Parsed job_kind (read_job t) (job_told (ok_or o NoRecord)) arrays
unfolding read_job
job_none t e f = rw f (parsed_none e refl)

pub job_some : (t : List ℕ) {cs : List ℕ} {ws : List ℤ} {m n w : ℕ} → read_record job_format t ≡ some (job m (take n cs) (take w ws))
    → length (take n cs) ≡ n → length (take w ws) ≡ w → Parsed job_kind (read_job t) (record { code = 0; modulus = m; degree = n; weights = w }) (cs, ws)
unfolding read_job
job_some t {cs} {ws} {m} {n} {w} e p q = parsed_some (job m (take n cs) (take w ws)) e (rw (p, q)) (rw (over_front n cs p, over_front w ws q))

pub answer_none : (t : List ℕ) {o : Answered AnswerHead} {cs : List ℕ} → read_record answer_format t ≡ none → o ≡ None →
    Parsed answer_kind (read_answer t) (answer_told (ok_or o NoRecord)) cs
unfolding read_answer
answer_none t e f = rw f (parsed_none e refl)

pub answer_some : (t : List ℕ) {cs : List ℕ} {m n : ℕ} {s : Bool} → read_record answer_format t ≡ some (answer m s (take n cs)) → length (take n cs) ≡ n →
    Parsed answer_kind (read_answer t) (record { code = 0; modulus = m; degree = n; simple = s }) cs
unfolding read_answer
answer_some t {cs} {m} {n} {s} e p = parsed_some (answer m s (take n cs)) e (rw p) (over_front n cs p)

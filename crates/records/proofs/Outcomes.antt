-- From what a function found to its promise: each way out gives one row, and rules the others out. A reader copies only where it found
-- a record, and what it copies are the values.
use Prim.Native.Nat.{ℕ, ◌≤◌}
use mathlib.Core.Path.{◌≡◌, refl, sym, ◌∙◌, ap}
use mathlib.Core.Option.{Option, some, none}
use mathlib.Core.List.{List}
use native.Mathlib.Omega.{arith}
use lib.IntN.{ℤ}
use lib.ListN.{length, take, drop, length-append, length-drop}
use lib.Seq.{take-append_seam}
use Rattle.std.specs.Prelude.{Result, None, Some, ok_or}
use Rattle.std.specs.Prelude as prelude
use Rattle.std.specs.Option.{UnwrapsOrElse}
use Rattle.checks.specs.declared.Refusal.{Refusal}
use Rattle.checks.specs.declared.Refusal.TheVariants.{NoRecord}
use Rattle.checks.specs.Refusal.{number_positive}
use Rattle.std.specs.declared.result.Result.TheVariants.{Ok, Err}
use Rattle.records.specs.declared.AnswerHead.{AnswerHead}
use Rattle.records.specs.declared.JobHead.{JobHead}
use Rattle.records.specs.Told.{AnswerRead, JobRead, Written, answer_told, job_told}
use Rattle.records.specs.Put.{Put, over}
use Rattle.records.specs.Kinds.{Kind, Reads, Writes}
use Rattle.records.specs.Promises.{AnswerRoom, JobRoom, ReadsAnswer, ReadsJob, answer_kind, job_kind}
use Rattle.records.specs.Scan.{Parsed, read_answer, read_job}
use Rattle.records.proofs.AnyKind.{Lawful}
use Rattle.records.proofs.Theorems.{answer_laws, job_laws}

-- ---- a reader
module _ {k : Kind} (L : Lawful k) {t : List ℕ} {r : k.Answer} where
  module _ {arrays : k.Lent} (p : Parsed k (L.scan t) r arrays) where
    -- code 0: the scanner found values, which stand at the fronts of the arrays
    found_by : (o : Option k.Values) → L.scan t ≡ o → L.code r ≡ 0 → (v : k.Values) × (L.scan t ≡ some v) × (r ≡ k.read v) × (k.filled v arrays ≡ arrays)
    found_by none e z = absurd (L.number_told (sym (L.code_refused k.number) ∙ ap L.code (sym (p.other e)) ∙ z))
    found_by (some v) e z = (v, e, (p.values v e).0, (p.values v e).1)

    pub found : L.code r ≡ 0 → (v : k.Values) × (L.scan t ≡ some v) × (r ≡ k.read v) × (k.filled v arrays ≡ arrays)
    found = found_by (L.scan t) refl

    module _ {lent : k.Lent} (room : k.Room lent) where
      pub read_whole : {lent' : k.Lent} → L.code r ≡ 0 → ((v : k.Values) → r ≡ k.read v → k.filled v arrays ≡ arrays → lent' ≡ k.filled v lent) → Reads k t lent r lent'
      read_whole z filled =
          let (x, e, f, g) = found z in
          record {
            row_13 = λ n. absurd (n room);
            no_record = λ _ n. absurd (n (x, (L.whole.sound t x e).0, (L.whole.sound t x e).1));
            success = λ _ v o q.
                let s : some v ≡ some x = sym (L.whole.complete v o) ∙ ap L.scan (sym q) ∙ e in
                let same : v ≡ x = cc in
                rw same (f, filled x f g);
          }

      -- any other code: it found none, and nothing was touched
      none_by : (L.code r ≡ 0 → ⊥) → (o : Option k.Values) → L.scan t ≡ o → L.scan t ≡ none
      none_by n none e = e
      none_by n (some v) e = absurd (n (ap L.code (p.values v e).0 ∙ L.code_read v))

      pub read_none : (L.code r ≡ 0 → ⊥) → Reads k t lent r lent
      read_none n = record {
        row_13 = λ m. absurd (m room);
        no_record = λ _ _. (p.other (none_by n (L.scan t) refl), refl);
        success = λ _ v o q. absurd (n (ap L.code (p.values v (ap L.scan q ∙ L.whole.complete v o)).0 ∙ L.code_read v));
      }

-- values that lie over the front of an array are its front, and it has room for them
front_is : {A : Type 0} (xs array : List A) {n : ℕ} → n ≡ length xs → over xs array ≡ array → take n array ≡ xs
front_is xs array e g = rw e (ap (take (length xs)) (sym g) ∙ take-append_seam xs (drop (length xs) array))

front_fits : {A : Type 0} (xs array : List A) {n : ℕ} → n ≡ length xs → over xs array ≡ array → n ≤ length array
front_fits xs array e g = omega (arith, ap length g, length-append xs (drop (length xs) array), length-drop (length xs) array)

-- ---- a job
module _ (t : List ℕ) {cs : List ℕ} {ws : List ℤ} where
  module _ {h : JobHead} (p : Parsed job_kind (read_job t) (job_told (Ok h)) (cs, ws)) where
    job_counts : (h.degree ≤ length cs) × (h.weights ≤ length ws)
    job_counts =
        let (j, e, f, g) = found job_laws p refl in
        (front_fits j.coeffs cs (ap (λ (x : JobRead). x.degree) f) (ap (λ l. l.0) g), front_fits j.weights ws (ap (λ (x : JobRead). x.weights) f) (ap (λ l. l.1) g))

    job_copied : {c c' : List ℕ} {w w' : List ℤ} → JobRoom (c, w) → c' ≡ over (take h.degree cs) c → w' ≡ over (take h.weights ws) w
        → ReadsJob t (c, w) (job_told (Ok h)) (c', w')
    job_copied room a b = read_whole job_laws p room refl (λ j f g.
        let d = front_is j.coeffs cs (ap (λ (x : JobRead). x.degree) f) (ap (λ l. l.0) g) in
        let e = front_is j.weights ws (ap (λ (x : JobRead). x.weights) f) (ap (λ l. l.1) g) in
        rw (a, b, d, e))

  -- o is what the parser found, and h that or, where it found none, a head with counts of 0
  pub job_counted : (o : prelude.Option JobHead) (h : JobHead) (Zero : JobHead → Type 0) → (Zero h → (h.degree ≡ 0) × (h.weights ≡ 0))
      → UnwrapsOrElse o Zero h → Parsed job_kind (read_job t) (job_told (ok_or o NoRecord)) (cs, ws) → (h.degree ≤ length cs) × (h.weights ≤ length ws)
  job_counted None h Zero zero u p = let z = zero u in (omega (arith, z.0), omega (arith, z.1))
  job_counted (Some x) h Zero zero u p = rw u (job_counts p)

  pub job_done : (o : prelude.Option JobHead) (h : JobHead) (Zero : JobHead → Type 0) → (Zero h → (h.degree ≡ 0) × (h.weights ≡ 0))
      → UnwrapsOrElse o Zero h → Parsed job_kind (read_job t) (job_told (ok_or o NoRecord)) (cs, ws)
      → {r : Result JobHead Refusal} {c c' : List ℕ} {w w' : List ℤ} → r ≡ ok_or o NoRecord → JobRoom (c, w)
      → c' ≡ over (take h.degree cs) c → w' ≡ over (take h.weights ws) w → ReadsJob t (c, w) (job_told r) (c', w')
  job_done None h Zero zero u p e room a b = let z = zero u in rw (e, a, b, z.0, z.1) (read_none job_laws p room (λ y. omega (arith, y)))
  job_done (Some x) h Zero zero u p e room a b = rw e (job_copied p room (rw u at a) (rw u at b))

-- ---- an answer: r is what the parser answered as a result, q is how the code makes r
module _ (t : List ℕ) {q r : Result AnswerHead Refusal} {cs : List ℕ} (e : r ≡ q) where
  pub answer_refused : {s : Result AnswerHead Refusal} {x y : Refusal} {lent : List ℕ} → r ≡ Err x → s ≡ Err y → y ≡ x → AnswerRoom lent →
      Parsed answer_kind (read_answer t) (answer_told q) cs → ReadsAnswer t lent (answer_told s) lent
  answer_refused {x = x} u v w room p = rw (v, w) (read_none answer_laws (rw (sym e ∙ u) at p) room (λ z. omega (arith, number_positive x)))

  module _ {h : AnswerHead} (u : r ≡ Ok h) (p : Parsed answer_kind (read_answer t) (answer_told q) cs) where
    answer_here : Parsed answer_kind (read_answer t) (answer_told (Ok h)) cs
    answer_here = rw (sym e ∙ u) at p

    pub answer_count : h.degree ≤ length cs
    answer_count = let (a, e, f, g) = found answer_laws answer_here refl in front_fits a.coeffs cs (ap (λ (x : AnswerRead). x.degree) f) g

    pub answer_copied : {c c' : List ℕ} → AnswerRoom c → c' ≡ over (take h.degree cs) c → ReadsAnswer t c (answer_told (Ok h)) c'
    answer_copied room b = read_whole answer_laws answer_here room refl (λ a f g. let d = front_is a.coeffs cs (ap (λ (x : AnswerRead). x.degree) f) g in rw (b, d))

-- ---- a writer
module _ (k : Kind) {v : k.Values} {out : List ℕ} where
  pub put_held : {r : Written} {out' : List ℕ} → k.Holds v → Put (k.text v) out r out' → Writes k v out r out'
  put_held h p = record { row_15 = λ n. absurd (n h); put = λ _. p }

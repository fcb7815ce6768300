-- Each promise determines everything at exit: two ends of the same call that it allows are equal.
use Rattle.std.specs.Prelude.{◌≡◌, refl, true, false, List, ℕ, zero, suc, length, ℤ}
use Rattle.std.proofs.Common.{sym, ap, ◌∙◌, arith}
use Rattle.records.specs.Told.{AnswerRead}
use Rattle.records.specs.Told.{JobRead}
use Rattle.records.specs.Told.{Written}
use Rattle.records.proofs.Theorems.{read_answer_decides, read_job_decides, write_answer_decides, write_job_decides}
use Rattle.resolvents.specs.Results.{Cost}
use Rattle.resolvents.specs.Promise.{Exit, left}
use Rattle.resolvents.proofs.Costs.{told_decides}
use Rattle.resolvents.proofs.Decided.{promise_decides}
use Rattle.resolvents.specs.Slices.{asked}
use Rattle.linres_text.proofs.Theorems as texts
use Rattle.exports.specs.Promises.{TextPromise, NumbersPromise, CostPromise, mark_word}
use Rattle.exports.specs.Promises.{JobReaderPromise, AnswerReaderPromise, WriterPromise, WritesMarked, JobWriterPromise, AnswerWriterPromise}

pub text_decides : (text out : List ℕ) (r q : ℕ) (a b : List ℕ) → TextPromise text out r a → TextPromise text out q b → (r ≡ q) × (a ≡ b)
text_decides text out r q a b x y =
    let e = texts.promise_decides text out x.written y.written a b x.right y.right in
    (x.length_is ∙ ap (λ (w : Written). w.len) e.0 ∙ sym y.length_is, e.1)

pub numbers_decide : (p : ℕ) (f : List ℕ) (weights : List ℤ) (out work : List ℕ) (r n m l r' n' m' l' : ℕ) (o w o' w' : List ℕ)
    → NumbersPromise p f weights out work r n m l o w → NumbersPromise p f weights out work r' n' m' l' o' w'
    → (r ≡ r') × (n ≡ n') × (m ≡ m') × (l ≡ l') × (o ≡ o') × (w ≡ w')
numbers_decide p f weights out work r n m l r' n' m' l' o w o' w' x y =
    let e = promise_decides (asked p f weights out work) (left x.outcome o w) (left y.outcome o' w') x.right y.right in (
      x.code_is ∙ ap (λ (t : Exit). t.outcome.code) e ∙ sym y.code_is,
      x.count_is ∙ ap (λ (t : Exit). t.outcome.count) e ∙ sym y.count_is,
      x.simple_is ∙ ap (λ (t : Exit). mark_word t.outcome.simple) e ∙ sym y.simple_is,
      x.lists_is ∙ ap (λ (t : Exit). t.outcome.lists) e ∙ sym y.lists_is,
      ap (λ (t : Exit). t.output) e,
      ap (λ (t : Exit). t.work) e,
    )

pub cost_decides : (weights : List ℤ) (r l r' l' : ℕ) → CostPromise weights r l → CostPromise weights r' l' → (r ≡ r') × (l ≡ l')
cost_decides weights r l r' l' x y =
    let e = told_decides (length weights) weights x.cost y.cost x.right y.right in
    (x.code_is ∙ ap (λ (t : Cost). t.code) e ∙ sym y.code_is, x.lists_is ∙ ap (λ (t : Cost). t.lists) e ∙ sym y.lists_is)

-- ---- the readers
pub job_reader_decides : (text coeffs : List ℕ) (weights : List ℤ) (r m d n r' m' d' n' : ℕ) (c c' : List ℕ) (w w' : List ℤ)
    → JobReaderPromise text coeffs weights r m d n c w → JobReaderPromise text coeffs weights r' m' d' n' c' w'
    → (r ≡ r') × (m ≡ m') × (d ≡ d') × (n ≡ n') × (c ≡ c') × (w ≡ w')
job_reader_decides text coeffs weights r m d n r' m' d' n' c c' w w' x y =
    let e = read_job_decides x.right y.right in (
      x.code_is ∙ ap (λ (t : JobRead). t.code) e.0 ∙ sym y.code_is,
      x.modulus_is ∙ ap (λ (t : JobRead). t.modulus) e.0 ∙ sym y.modulus_is,
      x.degree_is ∙ ap (λ (t : JobRead). t.degree) e.0 ∙ sym y.degree_is,
      x.count_is ∙ ap (λ (t : JobRead). t.weights) e.0 ∙ sym y.count_is,
      ap (λ (t : List ℕ × List ℤ). t.0) e.1,
      ap (λ (t : List ℕ × List ℤ). t.1) e.1,
    )

pub answer_reader_decides : (text coeffs : List ℕ) (r m d s r' m' d' s' : ℕ) (c c' : List ℕ)
    → AnswerReaderPromise text coeffs r m d s c → AnswerReaderPromise text coeffs r' m' d' s' c'
    → (r ≡ r') × (m ≡ m') × (d ≡ d') × (s ≡ s') × (c ≡ c')
answer_reader_decides text coeffs r m d s r' m' d' s' c c' x y =
    let e = read_answer_decides x.right y.right in (
      x.code_is ∙ ap (λ (t : AnswerRead). t.code) e.0 ∙ sym y.code_is,
      x.modulus_is ∙ ap (λ (t : AnswerRead). t.modulus) e.0 ∙ sym y.modulus_is,
      x.degree_is ∙ ap (λ (t : AnswerRead). t.degree) e.0 ∙ sym y.degree_is,
      x.simple_is ∙ ap (λ (t : AnswerRead). mark_word t.simple) e.0 ∙ sym y.simple_is,
      e.1,
    )

-- ---- the writers: what decides the answer of the function called decides what is handed back
writer_decides : {Right : Written → List ℕ → Type 0} → ((w s : Written) (o p : List ℕ) → Right w o → Right s p → (w ≡ s) × (o ≡ p))
    → {r l r' l' : ℕ} {o p : List ℕ} → WriterPromise Right r l o → WriterPromise Right r' l' p → (r ≡ r') × (l ≡ l') × (o ≡ p)
writer_decides decides x y =
    let e = decides _ _ _ _ x.right y.right in (
      x.code_is ∙ ap (λ (t : Written). t.code) e.0 ∙ sym y.code_is,
      x.length_is ∙ ap (λ (t : Written). t.len) e.0 ∙ sym y.length_is,
      e.1,
    )

pub job_writer_decides : (modulus : ℕ) (coeffs : List ℕ) (weights : List ℤ) (out : List ℕ) (r l r' l' : ℕ) (o p : List ℕ)
    → JobWriterPromise modulus coeffs weights out r l o → JobWriterPromise modulus coeffs weights out r' l' p → (r ≡ r') × (l ≡ l') × (o ≡ p)
job_writer_decides modulus coeffs weights out r l r' l' o p x y = writer_decides (λ _ _ _ _ a b. write_job_decides a b) x y

-- a word is no mark, or the mark 0, or the mark 1
marked_decides : (modulus simple : ℕ) (coeffs out : List ℕ) {w s : Written} {o p : List ℕ}
    → WritesMarked modulus simple coeffs out w o → WritesMarked modulus simple coeffs out s p → (w ≡ s) × (o ≡ p)
marked_decides modulus zero coeffs out x y = write_answer_decides (x.marked false refl) (y.marked false refl)
marked_decides modulus (suc zero) coeffs out x y = write_answer_decides (x.marked true refl) (y.marked true refl)
marked_decides modulus (suc (suc n)) coeffs out x y =
    let a = x.row_15 (omega arith) in
    let b = y.row_15 (omega arith) in
    (a.0 ∙ sym b.0, a.1 ∙ sym b.1)

pub answer_writer_decides : (modulus simple : ℕ) (coeffs out : List ℕ) (r l r' l' : ℕ) (o p : List ℕ)
    → AnswerWriterPromise modulus simple coeffs out r l o → AnswerWriterPromise modulus simple coeffs out r' l' p → (r ≡ r') × (l ≡ l') × (o ≡ p)
answer_writer_decides modulus simple coeffs out r l r' l' o p x y = writer_decides (λ _ _ _ _ a b. marked_decides modulus simple coeffs out a b) x y

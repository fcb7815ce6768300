-- What the exported functions promise: the promises of the functions that they call, with the parts of a result handed back one by
-- one.
use Rattle.std.specs.Prelude.{◌≡◌, Bool, cond, List, ℕ, ◌<◌, length, ℤ}
use Rattle.records.specs.Told.{AnswerRead}
use Rattle.records.specs.Told.{JobRead}
use Rattle.records.specs.Told.{Written}
use Rattle.records.specs.Records.{answer, job}
use Rattle.records.specs.Put.{not_written}
use Rattle.records.specs.Promises.{ReadsAnswer, ReadsJob, WritesAnswer, WritesJob}
use Rattle.resolvents.specs.Results.{Outcome}
use Rattle.resolvents.specs.Results.{Cost}
use Rattle.resolvents.specs.Promise.{Promise, left}
use Rattle.resolvents.specs.Cost.{Told}
use Rattle.resolvents.specs.Slices.{asked}
use Rattle.linres_text.specs.Texts.{TextOf}
use Rattle.linres_text.specs.Promise.{Puts}

-- a mark as a word: 1 for yes, 0 for no
abbrev pub mark_word : Bool → ℕ
mark_word mark = cond mark 1 0

-- r is the length of what was written, 0 where nothing was
pub record TextPromise (text out : List ℕ) (r : ℕ) (out' : List ℕ) : Type 0 where
  pub written : Written
  pub right : Puts (TextOf text) out written out'
  pub length_is : r ≡ written.len

-- r is the code; `count`, `simple` and `lists` are what stands in the three lent words at exit
pub record NumbersPromise (p : ℕ) (f : List ℕ) (weights : List ℤ) (out work : List ℕ) (r count simple lists : ℕ) (out' work' : List ℕ) : Type 0 where
  pub outcome : Outcome
  pub right : Promise (asked p f weights out work) (left outcome out' work')
  pub code_is : r ≡ outcome.code
  pub count_is : count ≡ outcome.count
  pub simple_is : simple ≡ mark_word outcome.simple
  pub lists_is : lists ≡ outcome.lists

-- r is the code, `lists` is what stands in the lent word at exit
pub record CostPromise (weights : List ℤ) (r lists : ℕ) : Type 0 where
  pub cost : Cost
  pub right : Told (length weights) weights cost
  pub code_is : r ≡ cost.code
  pub lists_is : lists ≡ cost.lists

-- ---- the readers: r is the code; `modulus` and the other words stand in the lent words at exit
pub record JobReaderPromise (text coeffs : List ℕ) (weights : List ℤ) (r modulus degree count : ℕ) (coeffs' : List ℕ) (weights' : List ℤ) : Type 0 where
  pub read : JobRead
  pub right : ReadsJob text (coeffs, weights) read (coeffs', weights')
  pub code_is : r ≡ read.code
  pub modulus_is : modulus ≡ read.modulus
  pub degree_is : degree ≡ read.degree
  pub count_is : count ≡ read.weights

pub record AnswerReaderPromise (text coeffs : List ℕ) (r modulus degree simple : ℕ) (coeffs' : List ℕ) : Type 0 where
  pub read : AnswerRead
  pub right : ReadsAnswer text coeffs read coeffs'
  pub code_is : r ≡ read.code
  pub modulus_is : modulus ≡ read.modulus
  pub degree_is : degree ≡ read.degree
  pub simple_is : simple ≡ mark_word read.simple

-- ---- the writers: r is the code, `len` stands in the lent word at exit, and `Right` is what the function called promises
pub record WriterPromise (Right : Written → List ℕ → Type 0) (r len : ℕ) (out' : List ℕ) : Type 0 where
  pub written : Written
  pub right : Right written out'
  pub code_is : r ≡ written.code
  pub length_is : len ≡ written.len

abbrev pub JobWriterPromise : ℕ → List ℕ → List ℤ → List ℕ → ℕ → ℕ → List ℕ → Type 0
JobWriterPromise modulus coeffs weights out = WriterPromise (WritesJob (job modulus coeffs weights) out)

-- an answer whose mark is a word: a word that is no mark is a value that no answer holds, and "a writer checks 15, then 14"
pub record WritesMarked (modulus simple : ℕ) (coeffs out : List ℕ) (w : Written) (out' : List ℕ) : Type 0 where
  pub row_15 : 1 < simple → (w ≡ not_written 15) × (out' ≡ out)
  pub marked : (mark : Bool) → simple ≡ mark_word mark → WritesAnswer (answer modulus mark coeffs) out w out'

abbrev pub AnswerWriterPromise : ℕ → ℕ → List ℕ → List ℕ → ℕ → ℕ → List ℕ → Type 0
AnswerWriterPromise modulus simple coeffs out = WriterPromise (WritesMarked modulus simple coeffs out)

-- Any kind of record: what it is, and what its reader and its writer promise of every call: the rows of document 01's table in the order
-- in which they are checked, and the success.
use Rattle.std.specs.Prelude.{ℕ, ◌≡◌, List}
use Rattle.records.specs.Told.{Written}
use Rattle.records.specs.Put.{Put, not_written}

pub record Kind : Type 1 where
  -- its values, those that it can hold, and the record of each
  pub Values : Type 0
  pub Holds : Values → Type 0
  pub text : Values → List ℕ
  -- the number that its reader gives for any other text
  pub number : ℕ
  -- the slices lent to the reader, and which are long enough
  pub Lent : Type 0
  pub Room : Lent → Type 0
  -- the reader's answers: to a number of the table, and to values, which go to the fronts of the slices
  pub Answer : Type 0
  pub refused : ℕ → Answer
  pub read : Values → Answer
  pub filled : Values → Lent → Lent

module _ (k : Kind) where
  -- t is a record of this kind
  abbrev pub IsRecord : List ℕ → Type 0
  IsRecord t = (v : k.Values) × k.Holds v × (t ≡ k.text v)

  -- "A reader checks 13, then 1." `lent` are the slices before the call, `lent'` after it, r is the answer.
  pub record Reads (t : List ℕ) (lent : k.Lent) (r : k.Answer) (lent' : k.Lent) : Type 0 where
    pub row_13 : (k.Room lent → ⊥) → (r ≡ k.refused 13) × (lent' ≡ lent)
    pub no_record : k.Room lent → (IsRecord t → ⊥) → (r ≡ k.refused k.number) × (lent' ≡ lent)
    pub success : k.Room lent → (v : k.Values) → k.Holds v → t ≡ k.text v → (r ≡ k.read v) × (lent' ≡ k.filled v lent)

  -- "A writer checks 15, then 14." `out` are the bytes before the call, `out'` after it.
  pub record Writes (v : k.Values) (out : List ℕ) (r : Written) (out' : List ℕ) : Type 0 where
    pub row_15 : (k.Holds v → ⊥) → (r ≡ not_written 15) × (out' ≡ out)
    pub put : k.Holds v → Put (k.text v) out r out'

-- What follows from the promises, for any kind of record whose scanner reads exactly its texts: each promise allows one outcome, a reader
-- succeeds exactly on the records, reading and writing undo each other, and a record has one spelling. Which row applies is decided
-- in each case: whether values can be held, whether the slices are long enough, and, by the scanner, whether a text is a record.
use Rattle.std.specs.Prelude.{ℕ, ◌≤◌, ◌≡◌, refl, ◌↔◌, List, length, take, drop}
use Rattle.std.proofs.Common.{sym, ◌∙◌, ap, ap₂, arith}
use Rattle.std.proofs.Math.Option.{Option, some, none}
use Rattle.std.proofs.Math.Decide.{dec_lt}
use Rattle.std.proofs.Math.Seq.{take-append_seam}
use Rattle.records.specs.Told.{Written}
use Rattle.records.specs.Put.{over}
use Rattle.records.specs.Kinds.{IsRecord, Kind, Reads, Writes}
use Rattle.records.proofs.Puts.{put_decides}
use Rattle.records.specs.Laws.{Whole, never_some}

pub record Lawful (k : Kind) : Type 0 where
  -- the scanner, and what is decided
  pub scan : List ℕ → Option k.Values
  pub whole : Whole k.Holds k.text scan
  pub holds : (v : k.Values) → Dec (k.Holds v)
  pub room : (lent : k.Lent) → Dec (k.Room lent)
  -- an answer's number, and the values that it hands out with the slices
  pub code : k.Answer → ℕ
  pub code_refused : (n : ℕ) → code (k.refused n) ≡ n
  pub code_read : (v : k.Values) → code (k.read v) ≡ 0
  pub number_told : k.number ≡ 0 → ⊥
  pub values : k.Answer → k.Lent → k.Values
  pub values_read : (v : k.Values) (lent : k.Lent) → values (k.read v) (k.filled v lent) ≡ v

module _ {k : Kind} (L : Lawful k) where
  -- ---- a record has one spelling, and of one tuple of values; whether a text is one is decided
  pub one_spelling : (v w : k.Values) → k.Holds v → k.Holds w → k.text v ≡ k.text w → v ≡ w
  one_spelling v w o p e = let s : some v ≡ some w = sym (L.whole.complete v o) ∙ ap L.scan e ∙ L.whole.complete w p in cc

  is_by : (t : List ℕ) (o : Option k.Values) → L.scan t ≡ o → Dec (IsRecord k t)
  is_by t (some v) e = yes (v, (L.whole.sound t v e).0, (L.whole.sound t v e).1)
  is_by t none e = no (λ i. never_some (sym e ∙ ap L.scan i.2 ∙ L.whole.complete i.0 i.1))

  pub is_decided : (t : List ℕ) → Dec (IsRecord k t)
  is_decided t = is_by t (L.scan t) refl

  -- ---- the writer
  pub writes_decides : {v : k.Values} {out o p : List ℕ} {r s : Written} → Writes k v out r o → Writes k v out s p → (r ≡ s) × (o ≡ p)
  writes_decides {v} {out} {o} {p} {r} {s} a b = elim (L.holds v) [
    | no n ↦ ((a.row_15 n).0 ∙ sym (b.row_15 n).0, (a.row_15 n).1 ∙ sym (b.row_15 n).1)
    | yes h ↦ put_decides (k.text v) out r s o p (a.put h) (b.put h)
  ]

  -- code 0 is a success: the bytes written are the record
  written_of : {v : k.Values} {out o : List ℕ} {r : Written} → Writes k v out r o → r.code ≡ 0 → k.Holds v × (take r.len o ≡ k.text v)
  written_of {v} {out} w z = elim (L.holds v) [
    | no n ↦ absurd (let e : 15 ≡ 0 = ap (λ (x : Written). x.code) (sym (w.row_15 n).0) ∙ z in omega arith)
    | yes h ↦ elim (dec_lt (length out) (length (k.text v))) [
      | yes l ↦ absurd (let e : 14 ≡ 0 = ap (λ (x : Written). x.code) (sym ((w.put h).row_14 l).0) ∙ z in omega arith)
      | no n ↦
          let a = (w.put h).success (omega arith) in
          (h, rw (a.0, a.1) (take-append_seam (k.text v) (drop (length (k.text v)) out)))
    ]
  ]

  -- ---- the reader
  pub reads_decides : {t : List ℕ} {lent l m : k.Lent} {r s : k.Answer} → Reads k t lent r l → Reads k t lent s m → (r ≡ s) × (l ≡ m)
  reads_decides {t} {lent} p q = elim (L.room lent) [
    | no n ↦ ((p.row_13 n).0 ∙ sym (q.row_13 n).0, (p.row_13 n).1 ∙ sym (q.row_13 n).1)
    | yes o ↦ elim (is_decided t) [
      | no n ↦ ((p.no_record o n).0 ∙ sym (q.no_record o n).0, (p.no_record o n).1 ∙ sym (q.no_record o n).1)
      | yes i ↦
          let a = p.success o i.0 i.1 i.2 in
          let b = q.success o i.0 i.1 i.2 in
          (a.0 ∙ sym b.0, a.1 ∙ sym b.1)
    ]
  ]

  module _ {t : List ℕ} {lent l : k.Lent} {r : k.Answer} (p : Reads k t lent r l) where
    -- code 0 is a success, and only that
    read_of : L.code r ≡ 0 → k.Room lent × IsRecord k t
    read_of z = elim (L.room lent) [
      | no n ↦ absurd (let e : 13 ≡ 0 = sym (L.code_refused 13) ∙ ap L.code (sym (p.row_13 n).0) ∙ z in omega arith)
      | yes o ↦ elim (is_decided t) [
        | no n ↦ absurd (L.number_told (sym (L.code_refused k.number) ∙ ap L.code (sym (p.no_record o n).0) ∙ z))
        | yes i ↦ (o, i)
      ]
    ]

    pub succeeds_exactly : (L.code r ≡ 0) ↔ (k.Room lent × IsRecord k t)
    succeeds_exactly = (read_of, λ i. ap L.code (p.success i.0 i.1.0 i.1.1 i.1.2).0 ∙ L.code_read i.1.0)

    -- what is handed out are the values of the record that the text is
    pub values_are : L.code r ≡ 0 → k.Holds (L.values r l) × (t ≡ k.text (L.values r l))
    values_are z =
        let i = read_of z in
        let a = p.success i.0 i.1.0 i.1.1 i.1.2 in
        let e : L.values r l ≡ i.1.0 = ap₂ L.values a.0 a.1 ∙ L.values_read i.1.0 lent in
        rw e (i.1.1, i.1.2)

  -- two texts that are read as the same values are the same
  pub one_text : {t u : List ℕ} {lent l lent₂ m : k.Lent} {r s : k.Answer} → Reads k t lent r l → Reads k u lent₂ s m → L.code r ≡ 0 → L.code s ≡ 0 →
      L.values r l ≡ L.values s m → t ≡ u
  one_text p q y z e = (values_are p y).1 ∙ ap k.text e ∙ sym (values_are q z).1

  -- the writer gives a text that was read back, byte for byte
  pub writes_back : {t out out' : List ℕ} {lent l : k.Lent} {r : k.Answer} {w : Written} → Reads k t lent r l → L.code r ≡ 0 → Writes k (L.values r l) out w out' →
      length t ≤ length out → (w ≡ record { code = 0; len = length t }) × (out' ≡ over t out)
  writes_back p z w h = let i = values_are p z in rw i.1 ((w.put i.0).success (rw i.1 at h))

  -- the reader gives the values that were written back
  pub reads_back : {out out' : List ℕ} {v : k.Values} {lent l : k.Lent} {r : k.Answer} {w : Written} → Writes k v out w out' → w.code ≡ 0 →
      Reads k (take w.len out') lent r l → k.Room lent → (r ≡ k.read v) × (l ≡ k.filled v lent)
  reads_back {v = v} w z p o = let i = written_of w z in p.success o v i.0 i.1

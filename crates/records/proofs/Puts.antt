-- What follows from the promise of a function that writes bytes: it allows one outcome, since the lengths decide whether there is room. And
-- how a function keeps it.
use Rattle.std.specs.Prelude.{ℕ, ◌≤◌, ◌<◌, ◌≡◌, refl, List, length}
use Rattle.std.proofs.Common.{sym, ◌∙◌, zero-add, arith}
use Rattle.std.proofs.Math.Decide.{dec_lt}
use Rattle.std.proofs.lemmas.List.Edits.{sets-eq}
use Rattle.decimal.specs.Written.{Wrote}
use Rattle.records.specs.Told.{Written}
use Rattle.records.specs.Put.{Put, not_written}

pub put_decides : (s out : List ℕ) (r q : Written) (a b : List ℕ) → Put s out r a → Put s out q b → (r ≡ q) × (a ≡ b)
put_decides s out r q a b x y = elim (dec_lt (length out) (length s)) [
  | yes l ↦ ((x.row_14 l).0 ∙ sym (y.row_14 l).0, (x.row_14 l).1 ∙ sym (y.row_14 l).1)
  | no n ↦
      let l : length s ≤ length out = omega arith in
      ((x.success l).0 ∙ sym (y.success l).0, (x.success l).1 ∙ sym (y.success l).1)
]

-- how a function keeps it: there is no room, or it wrote the bytes from the front on
module _ (bytes out : List ℕ) where
  pub no_room : length out < length bytes → Put bytes out (not_written 14) out
  no_room l = record { row_14 = λ _. (refl, refl); success = λ m. absurd (omega arith) }

  pub put_there : (out' : List ℕ) (n : ℕ) → length bytes ≤ length out → Wrote bytes out 0 out' n → Put bytes out (record { code = 0; len = n }) out'
  put_there out' n l w = record {
    row_14 = λ m. absurd (omega arith);
    success = λ _. (rw (w.place, zero-add), w.text ∙ sets-eq bytes out 0 (omega arith) ∙ rw zero-add);
  }

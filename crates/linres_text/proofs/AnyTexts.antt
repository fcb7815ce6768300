-- Where the longest answer has room, what `answer_text` promises is what `answer_any` does; the bytes at the front are the answer, and
-- two ends of a call that it allows are equal.
use Rattle.std.specs.Prelude.{◌≡◌, List, ℕ, ◌≤◌, length, take, drop}
use Rattle.std.proofs.Common.{sym, ap, ◌∙◌, arith, length-append}
use Rattle.std.proofs.Math.Seq.{take-append_seam}
use Rattle.limits.specs.Limits.{longest_answer}
use Rattle.records.specs.Told.{Written}
use Rattle.records.specs.Put.{over}
use Rattle.linres_text.specs.Texts.{TextOf}
use Rattle.linres_text.specs.Promise.{Puts}
use Rattle.linres_text.proofs.Theorems.{fits, text_decides}
use Rattle.linres_text.specs.AnyText.{AnswersAny}

-- where the longest answer has room, what `answer_text` promises is this, and its code is 0
pub room_for_any : (text out : List ℕ) (r : Written) (out' : List ℕ) → longest_answer ≤ length out → Puts (TextOf text) out r out'
    → (r.code ≡ 0) × AnswersAny text out r.len out'
room_for_any text out r out' h p =
    let w = p.put.success (omega (arith, fits text p.bytes p.right)) in (
      ap (λ (x : Written). x.code) w.0,
      record { bytes = p.bytes; right = p.right; size = ap (λ (x : Written). x.len) w.0; put = w.1 },
    )

-- the bytes at the front are the answer, and they are all there
pub answer_in_front : (text out : List ℕ) (len : ℕ) (out' : List ℕ) → AnswersAny text out len out' → TextOf text (take len out')
answer_in_front text out len out' a = rw (a.size, a.put, take-append_seam a.bytes (drop (length a.bytes) out)) a.right

pub answer_within : (text out : List ℕ) (len : ℕ) (out' : List ℕ) → AnswersAny text out len out' → len ≤ length out'
answer_within text out len out' a = rw (a.size, a.put, length-append) (omega arith)

-- two results that the promise allows for the same text and the same bytes lent are equal, and so is each byte
pub any_decides : (text out : List ℕ) (k l : ℕ) (a b : List ℕ) → AnswersAny text out k a → AnswersAny text out l b → (k ≡ l) × (a ≡ b)
any_decides text out k l a b x y =
    let e = text_decides text x.bytes y.bytes x.right y.right in
    (x.size ∙ ap length e ∙ sym y.size, x.put ∙ ap (λ s. over s out) e ∙ sym y.put)

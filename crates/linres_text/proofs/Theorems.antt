-- What follows from the promise of `answer_text`: it determines the result and every byte, for every text; what comes back lies
-- within the bytes lent; and 11,313 bytes are room enough for the answer to any text.
use Rattle.std.specs.Prelude.{◌≡◌, List, ℕ, ◌≤◌, length, take, drop}
use Rattle.std.proofs.Common.{sym, ap, ap₂, ◌∙◌, le_refl, arith}
use Rattle.std.proofs.Math.Decide.{ℕ_discrete, dec_lt, dec_le}
use Rattle.std.proofs.Math.Seq.{take-append_seam}
use Rattle.limits.specs.Limits.{longest_text, longest_answer}
use Rattle.refusals.proofs.ResolvedOnly.{resolved_only}
use Rattle.records.specs.Told.{Written}
use Rattle.records.proofs.Puts.{put_decides}
use Rattle.records.specs.Records.{Job, JobHolds, job_text, answer, answer_text}
use Rattle.records.proofs.Theorems.{is_job}
use Rattle.linres_text.specs.Texts.{job_refusal, AnswerTo, TextOf}
use Rattle.linres_text.specs.Promise.{Puts}
use Rattle.linres_text.proofs.Jobs.{good_exactly, answer_holds}
use Rattle.linres_text.proofs.Lengths.{job_length, answer_length, refused_short, refusal_at_most}

-- ---- one text, one answer
answer_decides : (j : Job) (a b : List ℕ) → AnswerTo j a → AnswerTo j b → a ≡ b
answer_decides j a b x y = elim (ℕ_discrete (job_refusal j) 0) [
  | yes z ↦
      let v = x.answered z in
      let w = y.answered z in
      let only = resolved_only ((good_exactly j).0 z) (le_refl _) v.resolved w.resolved in
      v.text ∙ ap₂ (λ m l. answer_text (answer j.modulus m l)) only.0 only.1 ∙ sym w.text
  | no n ↦ x.refused n ∙ sym (y.refused n)
]

pub text_decides : (text a b : List ℕ) → TextOf text a → TextOf text b → a ≡ b
text_decides text a b x y = elim (dec_le (length text) longest_text) [
  | no n ↦ x.long (omega arith) ∙ sym (y.long (omega arith))
  | yes l ↦ elim (is_job text) [
    | no n ↦ let m : (j : Job) → JobHolds j → text ≡ job_text j → ⊥ = λ j h e. n (j, h, e) in x.none m ∙ sym (y.none m)
    | yes i ↦ answer_decides i.0 a b (x.job l i.0 i.1 i.2) (y.job l i.0 i.1 i.2)
  ]
]

-- two results that the promise allows for the same text and the same bytes lent are equal, and so is each byte
pub promise_decides : (text out : List ℕ) (r q : Written) (a b : List ℕ) → Puts (TextOf text) out r a → Puts (TextOf text) out q b → (r ≡ q) × (a ≡ b)
promise_decides text out r q a b x y =
    put_decides x.bytes out r q a b x.put (rw (text_decides text y.bytes x.bytes y.right x.right) at y.put)

-- ---- the length that comes back lies within the bytes lent
pub within : (Right : List ℕ → Type 0) (out : List ℕ) (r : Written) (out' : List ℕ) → Puts Right out r out' → r.len ≤ length out
within Right out r out' p = elim (dec_lt (length out) (length p.bytes)) [
  | yes l ↦ rw (p.put.row_14 l).0 (omega arith)
  | no n ↦ rw (p.put.success (omega arith)).0 (omega arith)
]

-- ---- 11,313 bytes are enough
answer_fits : (j : Job) (bytes : List ℕ) → AnswerTo j bytes → length bytes ≤ longest_answer
answer_fits j bytes a = elim (ℕ_discrete (job_refusal j) 0) [
  | yes z ↦
      let x = a.answered z in
      rw x.text (answer_length _ (answer_holds j ((good_exactly j).0 z) x.mark x.b x.resolved.resolvent.size x.resolved.words))
  | no n ↦ rw (a.refused n) (omega (arith, refused_short (job_refusal j) (refusal_at_most j)))
]

pub fits : (text bytes : List ℕ) → TextOf text bytes → length bytes ≤ longest_answer
fits text bytes t = elim (is_job text) [
  | no n ↦ rw (t.none (λ j h e. n (j, h, e))) (omega (arith, refused_short 1 (omega arith)))
  | yes i ↦ answer_fits i.0 bytes (t.job (rw i.2 (omega (arith, job_length i.0 i.1))) i.0 i.1 i.2)
]

-- so with as many bytes lent the code is 0, and what stands at the front is the answer
pub written : (text out : List ℕ) (r : Written) (out' : List ℕ) → longest_answer ≤ length out → Puts (TextOf text) out r out' → (r.code ≡ 0) × TextOf text (take r.len out')
written text out r out' h p =
    let room : length p.bytes ≤ length out = omega (arith, fits text p.bytes p.right) in
    let w = p.put.success room in
    (ap (λ (x : Written). x.code) w.0, rw (w.0, w.1, take-append_seam p.bytes (drop (length p.bytes) out)) p.right)

-- Document 01's table of cases A to L and its example, as texts: the answer to each job is the record that the table tells.
use Rattle.std.specs.Prelude.{◌≡◌, refl, ℕ}
use Rattle.std.proofs.Common.{ap₂, ◌∙◌, le_refl}
use mathlib.Core.List.Memᴰ.{tail as later}
use mathlib.Core.List.{List, Memᴰ}
use Rattle.refusals.proofs.ResolvedOnly.{resolved_only}
use Rattle.refusals.specs.Cases.{Case, cases, Holds}
use Rattle.refusals.proofs.CasesHold.{table}
use Rattle.lines.specs.Lines.{bytes}
use Rattle.records.specs.Records.{Job, job, job_text, answer, answer_text}
use Rattle.records.proofs.Theorems.{example_job, example_answer}
use Rattle.linres_text.specs.Texts.{TextOf}
use Rattle.linres_text.proofs.Demands.{answered}

pub case_text : (k : Case) → Memᴰ k cases → (out : List ℕ) → TextOf (job_text (job 257 k.f k.weights)) out
    → out ≡ answer_text (answer 257 k.mark k.resolvent)
case_text k m out t =
    let j : Job = job 257 k.f k.weights in
    let holds : Holds k = table k m in
    let a = answered (job_text j) out t j holds.good refl in
    let only = resolved_only holds.good (le_refl _) a.resolved holds.resolved in
    a.text ∙ ap₂ (λ s b. answer_text (answer 257 s b)) only.0 only.1

-- case K, the eleventh, is the example
pub example : (out : List ℕ) → TextOf (bytes "modulus=257\ndegree=4\ncoeffs=0,0,0,256\nweights=1,1\n") out
    → out ≡ bytes "modulus=257\ndegree=6\nsimple=yes\ncoeffs=0,0,0,4,0,0\n"
unfolding cases
example out t = case_text _ (later (later (later (later (later (later (later (later (later (later (Memᴰ.head refl))))))))))) out (rw example_job t) ∙ example_answer

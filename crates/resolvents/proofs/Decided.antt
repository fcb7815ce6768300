-- The promise determines the exit of every call: a refused call is given its number and nothing lent is touched, and a job that is
-- accepted has one answer. And it can be kept at every call, so it is not empty.
use Rattle.std.specs.Prelude.{◌≡◌, refl, Bool, false, List, ℕ}
use Rattle.std.proofs.Common.{sym, ◌∙◌}
use Rattle.std.proofs.Math.Decide.{ℕ_discrete}
use Rattle.checks.specs.Laws.{answers_decide}
use Rattle.definition.specs.Cost.{lists}
use Rattle.refusals.specs.Refusals.{Call, weights, N, refusal}
use Rattle.refusals.proofs.Reading.{not_refused}
use Rattle.refusals.specs.Success.{Same}
use Rattle.refusals.proofs.SuccessOnly.{untouched_only, success_only, success_exists, filled, cleared}
use Rattle.resolvents.specs.Promise.{Exit, Refused, Done, Promise}

abbrev exit : ℕ → ℕ → Bool → ℕ → List ℕ → List ℕ → Exit
exit code count simple lists output work = record { outcome = record { code = code; count = count; simple = simple; lists = lists }; output = output; work = work }

same_exit : (e e' : Exit) → e.outcome.code ≡ e'.outcome.code → e.outcome.lists ≡ e'.outcome.lists
    → Same e.outcome.count e.outcome.simple e.output e.work e'.outcome.count e'.outcome.simple e'.output e'.work → e ≡ e'
same_exit e e' code lists (count, simple, output, work) = λ i. exit (code i) (count i) (simple i) (lists i) (output i) (work i)

-- two exits that the promise allows for the same call are equal: code, count, mark, lists, every output word and every work word
pub promise_decides : (c : Call) (e e' : Exit) → Promise c e → Promise c e' → e ≡ e'
promise_decides c = answers_decide (λ e. e.outcome.code) (Refused c) (Done c)
    (λ n e e' k a b. same_exit e e' k (a.lists ∙ sym b.lists) (untouched_only a.untouched b.untouched))
    (λ z e e' k a b. same_exit e e' k (a.lists ∙ sym b.lists) (success_only ((not_refused c).0 z).good a.success b.success))

-- every call has an exit that the promise allows
pub promise_kept : (c : Call) → (e : Exit) × Promise c e
promise_kept c = elim (ℕ_discrete (refusal c) 0) [
  | yes z ↦
      let good = ((not_refused c).0 z).good in
      let s = success_exists good in
      (exit 0 (N c) s.0 (lists (weights c)) (filled good) (cleared good), record { code = sym z; refused = λ n. absurd (n z); done = λ _. record { success = s.1; lists = refl } })
  | no n ↦ (
    exit (refusal c) 0 false 0 c.output c.work,
    record {
      code = refl;
      refused = λ _. record { untouched = record { no_number = refl; no_mark = refl; same_output = refl; same_work = refl }; lists = refl };
      done = λ z. absurd (n z);
    },
  )
]

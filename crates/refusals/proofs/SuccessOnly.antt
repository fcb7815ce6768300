-- What is left behind is determined: by a refused call, since nothing lent is touched, and by an answered one, since a job has one answer
-- and every other word is zero or as it was. And there is such an exit.
use Rattle.std.specs.Prelude.{◌≡◌, refl, Bool, List, ◌++◌, ℕ, ◌≤◌, length, take, drop, replicate}
use Rattle.std.proofs.Common.{sym, ap₂, ◌∙◌, arith, length-take, take-append-drop, take_at, drop_at}
use Rattle.std.proofs.Math.Nat.{min-le_left}
use Rattle.std.proofs.lemmas.List.{length-replicate}
use Rattle.limits.specs.Limits.{room}
use Rattle.definition.proofs.Answer.{resolvent}
use Rattle.refusals.specs.Refusals.{Call, weights, N, GoodCall}
use Rattle.refusals.proofs.ResolvedOnly.{resolved_exists, resolved_only}
use Rattle.refusals.specs.Success.{Untouched, Success, Same}

pub untouched_only : {c : Call} {n n' : ℕ} {s s' : Bool} {o o' w w' : List ℕ} → Untouched c n s o w → Untouched c n' s' o' w' → Same n s o w n' s' o' w'
untouched_only a b = (
  a.no_number ∙ sym b.no_number,
  a.no_mark ∙ sym b.no_mark,
  a.same_output ∙ sym b.same_output,
  a.same_work ∙ sym b.same_work,
)

joined : (n : ℕ) (l l' : List ℕ) → take n l ≡ take n l' → drop n l ≡ drop n l' → l ≡ l'
joined n l l' t d = sym (take-append-drop n l) ∙ ap₂ ◌++◌ t d ∙ take-append-drop n l'

pub weights_counted : (c : Call) → length (weights c) ≤ c.r
weights_counted c = omega (arith, length-take c.r c.places, min-le_left c.r (length c.places))

module _ {c : Call} (good : GoodCall c) where
  pub success_only : {n n' : ℕ} {s s' : Bool} {o o' w w' : List ℕ} → Success c n s o w → Success c n' s' o' w' → Same n s o w n' s' o' w'
  success_only a b =
      let only = resolved_only good.job (weights_counted c) a.resolved b.resolved in (
        a.number ∙ sym b.number,
        only.0,
        joined (N c) _ _ only.1 (a.later ∙ sym b.later),
        joined (room (N c)) _ _ (a.zeros ∙ sym b.zeros) (a.rest ∙ sym b.rest),
      )

  -- the coefficients in front of the output, zeros in front of the work room
  abbrev pub filled : List ℕ
  filled = resolvent c.p c.f (weights c) ++ drop (N c) c.output

  abbrev pub cleared : List ℕ
  cleared = replicate (room (N c)) 0 ++ drop (room (N c)) c.work

  pub success_exists : (mark : Bool) × Success c (N c) mark filled cleared
  success_exists =
      let a = resolved_exists good.job (weights_counted c) in
      let b = resolvent c.p c.f (weights c) in
      let long = a.1.resolvent.size in
      let clean = length-replicate {A = ℕ} (room (N c)) 0 in (
        a.0,
        record {
          number = refl;
          resolved = rw (take_at b _ (N c) long) a.1;
          later = drop_at b _ (N c) long;
          zeros = take_at (replicate (room (N c)) 0) _ (room (N c)) clean;
          rest = drop_at (replicate (room (N c)) 0) _ (room (N c)) clean;
        },
      )

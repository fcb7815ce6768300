-- Each part of the table gives the call's number where those before it give none. N is computed as soon as the list is known to be
-- one, and compared before any room is.
use Rattle.std.proofs.Math.Path.{◌≡◌, ◌∙◌}
use Rattle.std.specs.Prelude.{refl, ℕ, length, Result, Err}
use Rattle.std.proofs.Common.{sym, arith, rules}
use mathlib.Core.List.{◌++◌}
use Rattle.checks.specs.declared.Refusal.{Refusal}
use Rattle.checks.specs.Refusal.{number, number_positive}
use Rattle.checks.specs.Checks.{Table, first, Numbered}
use Rattle.checks.specs.Laws.{first_both, part_here, part_later, numbered_test, numbered_right}
use Rattle.weights.specs.Lists.{listed}
use Rattle.refusals.specs.declared.Judgement.{Judgement}
use Rattle.refusals.specs.Refusals.{Call, weights, N, modulus_checks, degree_checks, coefficient_checks, weight_checks, number_checks, room_checks, job_checks, call_checks}
use Rattle.refusals.proofs.Reading.{modulus_numbered, degree_numbered, weight_numbered, number_numbered, degree_good, number_good}
use Rattle.refusals.specs.Judged.{Judged}
use Rattle.refusals.proofs.judged.Goals as goal

-- the parts of the table as the code takes them
abbrev polynomial_part : Call → Table
polynomial_part c = degree_checks c.f ++ coefficient_checks c.p c.f

abbrev room_part : Call → Table
room_part c = room_checks (N c) (length c.output) (length c.work)

abbrev behind_list : Call → Table
behind_list c = number_checks c.p (N c) ++ room_part c

abbrev behind_polynomial : Call → Table
behind_polynomial c = weight_checks (length c.f) c.r (weights c) ++ behind_list c

abbrev behind_modulus : Call → Table
behind_modulus c = polynomial_part c ++ behind_polynomial c

in_parts : (c : Call) → first (call_checks c) ≡ first (modulus_checks c.p ++ behind_modulus c)
unfolding call_checks job_checks modulus_checks degree_checks coefficient_checks weight_checks number_checks
in_parts c = refl

polynomial_numbered : (c : Call) → Numbered (polynomial_part c)
unfolding degree_checks coefficient_checks numbered_test
polynomial_numbered c = numbered_right (polynomial_part c) refl

-- the row that a part refuses by is the table's, whatever stands behind the part
by_part : (x : Refusal) (part more : Table) → number x ≡ first part → number x ≡ first (part ++ more)
by_part x part more e = part_here part more e (λ z. omega (arith, number_positive x))

-- where the parts before give none, the parts behind them decide
module _ (c : Call) {k : ℕ} (modulus : 0 ≡ first (modulus_checks c.p)) where
  past_modulus : k ≡ first (behind_modulus c) → k ≡ first (call_checks c)
  past_modulus h = part_later _ _ (modulus_numbered _) modulus refl h ∙ sym (in_parts c)

  module _ (polynomial : 0 ≡ first (polynomial_part c)) where
    past_polynomial : k ≡ first (behind_polynomial c) → k ≡ first (call_checks c)
    past_polynomial h = past_modulus (part_later _ _ (polynomial_numbered c) polynomial refl h)

    past_list : 0 ≡ first (weight_checks (length c.f) c.r (weights c)) → k ≡ first (behind_list c) → k ≡ first (call_checks c)
    past_list list h = past_polynomial (part_later _ _ (weight_numbered _ _ _) list refl h)

-- a call that a row refuses
refused : (c : Call) (x : Refusal) {r : Result Judgement Refusal} → r ≡ Err x → number x ≡ first (call_checks c) → Judged c r
refused c x e h = rw e (record { code = h; count = tt; product = tt })

pub returns-in_err-check_modulus : goal.returns-in_err-check_modulus
returns-in_err-check_modulus c = refused _ _ (search rules) (by_part _ _ _ c.in_err-check_modulus.ensures ∙ sym (in_parts _))

pub returns-in_err-check_polynomial : goal.returns-in_err-check_polynomial
returns-in_err-check_polynomial c =
    refused _ _ (search rules) (past_modulus _ c.in_ok-check_modulus.ensures (by_part _ _ _ c.in_err-check_polynomial.ensures))

pub returns-in_err-check_weights : goal.returns-in_err-check_weights
unfolding listed
returns-in_err-check_weights c =
    let listed_by = by_part _ _ _ c.in_err-check_weights.ensures in
    refused _ _ (search rules) (past_polynomial _ c.in_ok-check_modulus.ensures c.in_ok-check_polynomial.ensures listed_by)

-- n has at most 8 bits, and N is within its limit
pub overflow_cast-f : goal.overflow_cast-f
overflow_cast-f c = omega (arith, ((degree_good _).0 (first_both _ (degree_numbered _) _ (sym c.in_ok-check_polynomial.ensures)).0).high)

pub returns-in_err-check_number : goal.returns-in_err-check_number
unfolding listed
returns-in_err-check_number c =
    let by_number = rw c.placements-placements.ensures at c.in_err-check_number.ensures in
    refused _ _ (search rules) (past_list _ c.in_ok-check_modulus.ensures c.in_ok-check_polynomial.ensures c.in_ok-check_weights.ensures (by_part _ _ _ by_number))

pub check_room-requires : goal.check_room-requires
check_room-requires c = ((number_good _ _).0 (sym c.in_ok-check_number.ensures)).high

-- a call whose numbers are good is judged by the room that it lends
pub returns-in_err-check_room : goal.returns-in_err-check_room
unfolding listed
returns-in_err-check_room c =
    let counted = c.placements-placements.ensures in
    let by_room = part_later _ _ (number_numbered _ _) (rw counted at c.in_ok-check_number.ensures) refl (rw counted at c.in_err-check_room.ensures) in
    refused _ _ (search rules) (past_list _ c.in_ok-check_modulus.ensures c.in_ok-check_polynomial.ensures c.in_ok-check_weights.ensures by_room)

pub returns : goal.returns
unfolding listed
returns c =
    let counted = c.placements-placements.ensures in
    let by_room = part_later _ _ (number_numbered _ _) (rw counted at c.in_ok-check_number.ensures) refl (rw counted at c.in_ok-check_room.ensures) in
    record {
      code = past_list _ c.in_ok-check_modulus.ensures c.in_ok-check_polynomial.ensures c.in_ok-check_weights.ensures by_room;
      count = counted;
      product = c.factorials.ensures;
    }

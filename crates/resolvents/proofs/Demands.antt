-- What a reader may conclude from the entry's promise, at any exit that it allows. The definition's theorems carry each demand:
-- the table of refusals is read row by row, an accepted call has one resolvent, and where f is a product of x - a that resolvent
-- is the product over the placements. Every f is such a product in some ring over the residues.
use Rattle.std.specs.Prelude.{◌≡◌, refl, true, false, ◌↔◌, ℕ, ◌≤◌, ◌<◌, length, take, ℤ}
use Rattle.std.proofs.Common.{sym, ap, ap₂, ◌∙◌, le_refl, arith}
use mathlib.Core.List.Memᴰ
use mathlib.Core.List.{List, [], ◌∷◌, map, Memᴰ}
use Rattle.std.proofs.Math.Decide.{ℕ_discrete}
use Rattle.std.proofs.Math.Seq.{take-append_seam}
use Rattle.limits.specs.Limits.{capacity, room}
use Rattle.checks.specs.Checks.{row}
use Rattle.algebra.specs.Ring.{Ops, Laws}
use Rattle.algebra.specs.Hom.{Hom}
use Rattle.algebra.specs.Integer.{ℤ_eq}
use Rattle.residues.specs.Residues.{residues, Words}
use Rattle.placements.specs.Placements.{placed, placements}
use Rattle.placements.proofs.Number.{placed_number}
use Rattle.polynomials.specs.Divisors.{Simple}
use Rattle.definition.specs.Definition.{Resolvent}
use Rattle.definition.specs.Product.{product, values}
use Rattle.definition.specs.Cost.{NumberOfLists, lists, most_lists}
use Rattle.definition.proofs.Merge.{lists_number, number_only, lists_most, most_mono}
use Rattle.lists_end.specs.Words.{RootRing, root_ring}
use Rattle.refusals.specs.Refusals.{Call, weights, N, call_checks, checks, refusal, GoodJob, Accepted}
use Rattle.refusals.proofs.Reading.{refusal_listed, row_exactly, not_refused}
use Rattle.refusals.specs.Resolved.{Resolved}
use Rattle.refusals.proofs.ResolvedOnly.{words_only, resolved_only, resolved_product, resolved_anywhere, resolved_told}
use Rattle.refusals.proofs.SuccessOnly.{weights_counted}
use Rattle.refusals.specs.Cases.{Case, cases, Holds}
use Rattle.refusals.proofs.CasesHold.{table, call, case_accepted}
use Rattle.resolvents.specs.Promise.{Exit, Refused, Done, Promise}

module _ (c : Call) (e : Exit) (q : Promise c e) where
  -- Demand 1: the code is 0 or a number of the table
  pub code_listed : Memᴰ e.outcome.code (0 ∷ 2 ∷ 3 ∷ 4 ∷ 5 ∷ 6 ∷ 7 ∷ 8 ∷ 9 ∷ 10 ∷ 11 ∷ 12 ∷ 16 ∷ [])
  code_listed = Memᴰ.cast q.code (refusal_listed c)

  -- given exactly when its row's test holds and no earlier one does
  pub code_exactly : (j : ℕ) → j < length (checks c)
      → (e.outcome.code ≡ (row (checks c) j).1) ↔ (((row (checks c) j).0 ≡ true) × ((i : ℕ) → i < j → (row (checks c) i).0 ≡ false))
  code_exactly j h = (λ k. (row_exactly c j h).0 (sym q.code ∙ k), λ k. q.code ∙ (row_exactly c j h).1 k)

  -- 0 exactly when the call keeps all rules
  pub success_exactly : (e.outcome.code ≡ 0) ↔ Accepted c
  success_exactly = (λ k. (not_refused c).0 (sym q.code ∙ k), λ a. q.code ∙ (not_refused c).1 a)

  -- and a refusal gives N = 0, simple = no and no list worked, and touches nothing
  pub refusal_touches_nothing : (e.outcome.code ≡ 0 → ⊥) → Refused c e
  refusal_touches_nothing n = q.refused (λ z. n (q.code ∙ z))

  -- Demand 2: on success
  module _ (success : e.outcome.code ≡ 0) where
    done : Done c e
    done = q.done (sym q.code ∙ success)

    good : GoodJob c.p c.f c.r (weights c)
    good = (success_exactly.0 success).good.job

    answer : Resolved c.p c.f (weights c) e.outcome.simple (take (N c) e.output)
    answer = done.success.resolved

    -- the first N words of output are the resolvent
    pub output_resolvent : Resolvent (residues c.p) c.f (weights c) (take (N c) e.output)
    output_resolvent = answer.resolvent

    -- any words below p that rules 1 to 4 allow are these words
    pub output_only : (b : List ℕ) → Words c.p b → Resolvent (residues c.p) c.f (weights c) b → take (N c) e.output ≡ b
    output_only = words_only good (weights_counted c) answer

    -- N counts the placements
    pub count_placements : e.outcome.count ≡ length (placements ℤ_eq (length c.f) (weights c))
    count_placements = done.success.number ∙ sym (placed_number (length c.f) (weights c))

    -- the mark is yes exactly if f and its derivative have greatest common divisor 1
    pub mark_exactly : (e.outcome.simple ≡ true) ↔ Simple c.p c.f
    mark_exactly = answer.simple

    -- Request 13: the number of lists worked is the one that its rule tells of the job's weights in the job's order
    pub lists_told : (number : List ℤ → ℕ) → NumberOfLists number → e.outcome.lists ≡ number (weights c)
    lists_told number rule = done.lists ∙ number_only lists_number rule (weights c)

    -- it is at most V(r), so at most 1,957
    pub lists_at_most : e.outcome.lists ≤ most_lists c.r
    lists_at_most = omega (arith, done.lists, lists_most (weights c), most_mono (length (weights c)) c.r (weights_counted c))

    pub lists_at_most_1957 : e.outcome.lists ≤ 1957
    unfolding most_lists
    lists_at_most_1957 = omega (arith, lists_at_most, most_mono c.r capacity good.list.high)

    -- Demand 3: where f is the product of x - a over any residues a, equal or not, the output is the product of x - v over the
    -- weighted sums v of all placements
    pub output_product : (roots : List ℕ) → Words c.p roots → c.f ≡ product (residues c.p) roots
        → take (N c) e.output ≡ product (residues c.p) (values (residues c.p) roots (weights c))
    output_product = resolved_product good (weights_counted c) answer

    -- Demand 3 for every f: in whatever ring q over the residues f is the product of x - a, the output is there the product of x - v
    -- over the weighted sums v of all placements. φ takes a word to its number in q, and keeps sums and products.
    pub output_product_anywhere : {B : Type 0} {q : Ops B} → Laws q → {φ : ℕ → B} → Hom (residues c.p) q φ → (roots : List B) → map φ c.f ≡ product q roots
        → map φ (take (N c) e.output) ≡ product q (values q roots (weights c))
    output_product_anywhere l hom = resolved_anywhere good (weights_counted c) answer l hom

    -- and there is such a ring for every f, where words below p that differ still differ
    pub splits_somewhere : RootRing c.p c.f
    splits_somewhere = root_ring good.modulus.prime c.f

    -- words below p that are the product there are the output
    pub output_told : (s : RootRing c.p c.f) (b : List ℕ) → Words c.p b → map s.embed b ≡ product s.ops (values s.ops s.roots (weights c))
        → take (N c) e.output ≡ b
    output_told = resolved_told good (weights_counted c) answer

-- two calls with the same job and as much room: places after the r-th and what stands in the lent words may differ
pub record Alike (c c' : Call) : Type 0 where
  pub p : c.p ≡ c'.p
  pub f : c.f ≡ c'.f
  pub r : c.r ≡ c'.r
  pub weights : weights c ≡ weights c'
  pub output : length c.output ≡ length c'.output
  pub work : length c.work ≡ length c'.work

-- the numbers that come back are the same
pub record SameNumbers (e e' : Exit) : Type 0 where
  pub code : e.outcome.code ≡ e'.outcome.code
  pub count : e.outcome.count ≡ e'.outcome.count
  pub simple : e.outcome.simple ≡ e'.outcome.simple
  pub lists : e.outcome.lists ≡ e'.outcome.lists
  pub words : take e.outcome.count e.output ≡ take e'.outcome.count e'.output

module _ (c c' : Call) (same : Alike c c') where
  same_refusal : refusal c ≡ refusal c'
  unfolding refusal checks call_checks
  same_refusal = rw (same.weights, same.p, same.f, same.r, same.output, same.work)

  same_N : N c ≡ N c'
  same_N = ap₂ (λ f L. placed (length f) L) same.f same.weights

  -- they give the same numbers back
  pub alike_numbers : (e e' : Exit) → Promise c e → Promise c' e' → SameNumbers e e'
  alike_numbers e e' q q' = elim (ℕ_discrete (refusal c) 0) [
    | yes z ↦
        let d : Done c e = q.done z in
        let d' : Done c' e' = q'.done (sym same_refusal ∙ z) in
        let a' : Resolved c.p c.f (weights c) e'.outcome.simple (take (N c') e'.output) = rw (same.weights, same.p, same.f) d'.success.resolved in
        let only = resolved_only ((not_refused c).0 z).good.job (weights_counted c) d.success.resolved a' in
        record {
          code = q.code ∙ same_refusal ∙ sym q'.code;
          count = d.success.number ∙ same_N ∙ sym d'.success.number;
          simple = only.0;
          lists = d.lists ∙ ap lists same.weights ∙ sym d'.lists;
          words = rw (d.success.number, d'.success.number) only.1;
        }
    | no z ↦
        let d : Refused c e = q.refused z in
        let d' : Refused c' e' = q'.refused (λ z'. z (same_refusal ∙ z')) in
        record {
          code = q.code ∙ same_refusal ∙ sym q'.code;
          count = d.untouched.no_number ∙ sym d'.untouched.no_number;
          simple = d.untouched.no_mark ∙ sym d'.untouched.no_mark;
          lists = d.lists ∙ sym d'.lists;
          words = rw (d.untouched.no_number, d'.untouched.no_number) refl;
        }
  ]

-- the numbers that one of cases A to L asks for
pub record CaseNumbers (k : Case) (e : Exit) : Type 0 where
  pub code : e.outcome.code ≡ 0
  pub count : e.outcome.count ≡ length k.resolvent
  pub simple : e.outcome.simple ≡ k.mark
  pub words : take (length k.resolvent) e.output ≡ k.resolvent

-- cases A to L: every allowed exit has the case's numbers, whatever stands behind the weights and in the lent words
pub case_numbers : (k : Case) → Memᴰ k cases → (more : List ℤ) (output work : List ℕ)
    → length k.resolvent ≤ length output → room (length k.resolvent) ≤ length work → (e : Exit) → Promise (call k more output work) e → CaseNumbers k e
case_numbers k m more output work o w e q =
    let holds : Holds k = table k m in
    let z : refusal (call k more output work) ≡ 0 = (not_refused _).1 (case_accepted k holds more output work o w) in
    let s = (q.done z).success in
    let list : weights (call k more output work) ≡ k.weights = take-append_seam k.weights more in
    let N-is : N (call k more output work) ≡ length k.resolvent = ap (placed (length k.f)) list ∙ sym holds.resolved.resolvent.size in
    let only = resolved_only holds.good (le_refl _) (rw (N-is, list) at s.resolved) holds.resolved in
    record { code = q.code ∙ z; count = s.number ∙ N-is; simple = only.0; words = only.1 }

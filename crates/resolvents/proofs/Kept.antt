-- How the entry keeps its promise: a row that refuses is handed back with nothing touched; else the call is accepted, which is all
-- that the engine and the mark ask, and what they leave is what the promise says.
use mathlib.Core.Path.{◌≡◌, refl, sym, ◌∙◌}
use mathlib.Core.Bool.{Bool, true}
use mathlib.Core.List.{List}
use mathlib.Core.Logic.{◌↔◌}
use Prim.Native.Nat.{ℕ, ◌<◌, ◌≤◌, ◌%◌}
use native.Mathlib.Omega.{arith}
use lib.ListN.{length, take}
use Rattle.std.proofs.lemmas.List.{length-take-le}
use Rattle.std.specs.Prelude.{Result, Ok, Err}
use Rattle.limits.specs.Limits.{capacity, room, most_placements}
use Rattle.checks.specs.declared.Refusal.{Refusal}
use Rattle.checks.specs.Refusal.{number, number_positive}
use Rattle.checks.specs.Checks.{first}
use Rattle.checks.specs.Laws.{part_here, part_later}
use Rattle.algebra.specs.Integer.{ℤ_eq}
use Rattle.placements.specs.Placements.{factorials}
use Rattle.polynomials.specs.Divisors.{Simple}
use Rattle.definition.specs.Cost.{lists}
use Rattle.residues.specs.Modulo.{mod_mul_mod}
use Rattle.residues.specs.Prime.{Inverse, prime_positive}
use Rattle.residues.specs.Promises.{Inverses}
use Rattle.weights.specs.declared.Weights.{Weights}
use Rattle.weights.specs.Lists.{listed}
use Rattle.weights.specs.Sizes.{Bounded, job_bounded}
use Rattle.rows.specs.Factorials.{InverseTable}
use Rattle.engine.specs.Answered.{Counted, Answered}
use Rattle.refusals.specs.declared.Judgement.{Judgement}
use Rattle.refusals.specs.Refusals.{Call, weights, N, call_checks, divisor_checks, checks, refusal, GoodCall, Accepted}
use Rattle.refusals.proofs.Reading.{call_good, call_numbered, not_refused}
use Rattle.refusals.specs.Judged.{given, Judged}
use Rattle.resolvents.specs.declared.Summary.{Summary}
use Rattle.resolvents.specs.Results.{outcome}
use Rattle.resolvents.specs.Promise.{Promise, left}
use Rattle.resolvents.specs.Cleared.{Cleared}

pub refused_kept : (c : Call) (x : Refusal) {r : Result Summary Refusal} → r ≡ Err x → number x ≡ refusal c → Promise c (left (outcome r) c.output c.work)
refused_kept c x same e = rw same (record {
  code = e;
  refused = λ z. record { untouched = record { no_number = refl; no_mark = refl; same_output = refl; same_work = refl }; lists = refl };
  done = λ z. absurd (omega (arith, number_positive x, e, z));
})

-- a row of 2 to 12
pub judged_refused : (c : Call) (x : Refusal) → number x ≡ first (call_checks c) → number x ≡ refusal c
unfolding refusal checks
judged_refused c x e = part_here (call_checks c) _ e (λ z. omega (arith, number_positive x))

-- where the entry goes on: the call was judged, and none of rows 2 to 12 refuses it. It is a record, so that what it is of is found from it.
pub record Passed (p : ℕ) (f : List ℕ) (list : Weights) (out work : List ℕ) (j : Judgement) : Type 0 where
  pub judged : Judged (given p f list out work) (Ok j)

module _ {p : ℕ} {f : List ℕ} {list : Weights} {out work : List ℕ} {j : Judgement} (g : Passed p f list out work j) where
  abbrev c : Call
  c = given p f list out work

  none : first (call_checks c) ≡ 0
  none = sym g.judged.code

  pub good : GoodCall c
  good = (call_good c).0 none

  pub positive : 0 < p
  positive = prime_positive good.job.modulus.prime

  pub count_is : j.count ≡ N c
  count_is = g.judged.count

  pub few : j.count ≤ most_placements
  few = rw count_is good.job.number.high

  -- row 16 is the last
  pub divisor_refused : {k : ℕ} → k ≡ first (divisor_checks p j.product j.count) → k ≡ refusal c
  unfolding refusal checks
  divisor_refused e = part_later (call_checks c) _ (call_numbered c) g.judged.code refl (rw (g.judged.product, count_is) at e)

  pub bounded : length list.places ≡ capacity → Bounded list
  unfolding listed
  bounded full = job_bounded list full good.job.list.high (λ i h. (good.job.list.each i h).1)

  pub output_room : j.count ≤ length out
  output_room = rw count_is good.rooms.output_fits

  pub work_room : room j.count ≤ length work
  work_room = rw count_is good.rooms.work_fits

  pub counted : Counted p (length f) (listed list) j.count
  unfolding listed
  counted = record { number = count_is; high = few; below = rw count_is good.job.number.below }

  -- the table that the engine is lent, which is the first places of an array
  pub lent : (xs : List ℕ) {table : List ℕ} → j.count ≤ length xs → Inverses p (length (take j.count xs)) (take j.count xs) table → InverseTable p j.count table
  lent xs fits t =
      let all : length (take j.count xs) ≡ j.count = length-take-le j.count xs fits in
      record { long = omega (arith, t.same); entry = rw all at t.entry }

  -- and the inverse of the product of m!, from that of its remainder
  pub divisor : {r : ℕ} → Inverse p (j.product % p) r → Inverse p (factorials ℤ_eq (listed list)) r
  unfolding listed
  divisor {r} i = rw (← g.judged.product) (record { below = i.below; one = sym (mod_mul_mod j.product p r) ∙ i.one })

  -- no row refuses it
  module _ (e : 0 ≡ first (divisor_checks p j.product j.count)) where
    zero : refusal c ≡ 0
    zero = sym (divisor_refused e)

    pub accepted : Accepted c
    accepted = (not_refused c).0 zero

    pub product_apart : j.product % p ≡ 0 → ⊥
    product_apart = rw g.judged.product accepted.divisors.product_apart

    pub done_kept : (simple : Bool) (worked : ℕ) (out' mid work' : List ℕ) → (simple ≡ true) ↔ Simple p f → worked ≡ lists (listed list)
        → Answered p f (listed list) j.count out out' work mid → Cleared (room j.count) mid work'
        → Promise c (left (record { code = 0; count = j.count; simple = simple; lists = worked }) out' work')
    unfolding listed
    done_kept simple worked out' mid work' mark told a clean =
        let a' : Answered p f (weights c) (N c) out out' work mid = rw count_is at a in
        let clean' : Cleared (room (N c)) mid work' = rw count_is at clean in
        record {
          code = sym zero;
          refused = λ y. absurd (y zero);
          done = λ y. record {
            success = record {
              number = count_is;
              resolved = record { simple = mark; resolvent = a'.resolved; words = a'.words };
              later = a'.later;
              zeros = clean'.zeros;
              rest = clean'.rest ∙ a'.rest;
            };
            lists = told;
          };
        }

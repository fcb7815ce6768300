-- A job that breaks none of rows 2 to 10 has an answer, and one only, since N and the number of weights are below the prime p, which so
-- divides nothing that rules 3 and 4 divide by; and where f is the product of x - a, that answer is the product over the placements
-- (demand 3).
use Rattle.std.specs.Prelude.{◌≡◌, refl, Bool, true, false, List, map, ◌↔◌, ℕ, ◌≤◌, ◌<◌, length, ℤ}
use Rattle.std.proofs.Common.{sym, ◌∙◌, arith}
use Rattle.std.proofs.lemmas.Bool.{false≢true}
use Rattle.algebra.specs.Ring.{Ops, Laws}
use Rattle.algebra.specs.Hom.{Hom}
use Rattle.algebra.specs.Integer.{ℤ_eq}
use Rattle.residues.specs.Prime.{prime_positive}
use Rattle.checks.specs.Laws.{same_test}
use Rattle.residues.specs.Residues.{residues, Words}
use Rattle.residues.specs.Field.{below_apart}
use Rattle.placements.specs.Placements.{factorials, placed, placements}
use Rattle.placements.proofs.Number.{placed_number}
use Rattle.polynomials.specs.Divisors.{Simple}
use Rattle.polynomials.proofs.Bezout.{decide_simple}
use Rattle.definition.specs.Definition.{Resolvent}
use Rattle.definition.specs.Product.{product, values}
use Rattle.definition.proofs.Words.{factorials_apart, split_words, values_below}
use Rattle.definition.proofs.Answer.{resolvent, resolvent_right, resolvent_below, resolvent_only}
use Rattle.lists_end.specs.Words.{words_product, RootRing, words_told}
use Rattle.refusals.specs.Refusals.{GoodJob, GoodDivisors}
use Rattle.refusals.specs.Resolved.{Resolved}

module _ {p : ℕ} {f : List ℕ} {r : ℕ} {L : List ℤ} (good : GoodJob p f r L) (counted : length L ≤ r) where
  few : length L < p
  few = omega (arith, good.list.high, good.modulus.low)

  -- row 16 applies to no such job
  pub divisors_apart : GoodDivisors p (factorials ℤ_eq L) (placed (length f) L)
  divisors_apart = record {
    product_apart = factorials_apart good.modulus.prime L few;
    each_apart = λ k a b. below_apart good.modulus.prime k a (omega (arith, good.number.below));
  }

  -- rules 1 to 4 worked out
  pub worked_out : (mark : Bool) → (mark ≡ true) ↔ Simple p f → Resolved p f L mark (resolvent p f L)
  worked_out mark s = record {
    simple = s;
    resolvent = resolvent_right good.modulus.prime f good.words L few good.number.below;
    words = resolvent_below good.modulus.prime f good.words L few good.number.below;
  }

  -- a job has an answer
  pub resolved_exists : (mark : Bool) × Resolved p f L mark (resolvent p f L)
  resolved_exists = elim (decide_simple good.modulus.prime f) [
    | yes s ↦ (true, worked_out true (λ _. s, λ _. refl))
    | no n ↦ (false, worked_out false (λ e. absurd (false≢true e), λ s. absurd (n s)))
  ]

  module _ {mark : Bool} {b : List ℕ} (a : Resolved p f L mark b) where
    pub worked : b ≡ resolvent p f L
    worked = resolvent_only good.modulus.prime f good.words L few good.number.below b a.words a.resolvent

    -- and one only: any words below p that rules 1 to 4 allow are its coefficients
    pub words_only : (b' : List ℕ) → Words p b' → Resolvent (residues p) f L b' → b ≡ b'
    words_only b' w s = worked ∙ sym (resolvent_only good.modulus.prime f good.words L few good.number.below b' w s)

    pub resolved_only : {mark' : Bool} {b' : List ℕ} → Resolved p f L mark' b' → (mark ≡ mark') × (b ≡ b')
    resolved_only a' = (same_test a.simple a'.simple, words_only _ a'.words a'.resolvent)

    -- its degree is the number of placements
    pub degree_is : length b ≡ length (placements ℤ_eq (length f) L)
    degree_is = a.resolvent.size ∙ sym (placed_number (length f) L)

    -- Demand 3: where f is the product of x - a over any residues a, equal or not, b is the product of x - v over the weighted sums v
    -- of all placements
    pub resolved_product : (roots : List ℕ) → Words p roots → f ≡ product (residues p) roots → b ≡ product (residues p) (values (residues p) roots L)
    resolved_product roots low e =
        let positive = prime_positive good.modulus.prime in
        words_only _ (values_below positive roots low L) (rw e (split_words positive roots low L))

    -- Demand 3 for every f: in whatever ring q over the residues f is the product of x - a, b is there the product of x - v. φ takes a
    -- word to its number in q, and keeps sums and products.
    pub resolved_anywhere : {B : Type 0} {q : Ops B} → Laws q → {φ : ℕ → B} → Hom (residues p) q φ → (roots : List B) → map φ f ≡ product q roots
        → map φ b ≡ product q (values q roots L)
    resolved_anywhere l hom roots e =
        words_product good.modulus.prime l hom f roots e L divisors_apart.product_apart divisors_apart.each_apart b a.resolvent

    -- words below p that are that product in a ring where f has all its roots are b
    pub resolved_told : (s : RootRing p f) (b' : List ℕ) → Words p b' → map s.embed b' ≡ product s.ops (values s.ops s.roots L) → b ≡ b'
    resolved_told s b' low h = words_told s b b' a.words low (resolved_anywhere s.laws s.hom s.roots s.factors ∙ sym h)

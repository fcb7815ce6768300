-- Demand 3 on words modulo a prime p, for every f: in any ring over the residues where f has all its roots, the resolvent of words
-- is the product over the placements, since the inverses modulo p of what rules 3 and 4 divide by are carried into that ring. There
-- is such a ring, and words below p stay different there.
use Rattle.std.specs.Prelude.{◌≡◌, List, map, ℕ, ◌≤◌, ◌<◌, ◌%◌, length, get_or, ℤ}
use Rattle.std.proofs.Common.{sym, ap, ◌∙◌, arith, ext_get_or}
use Rattle.std.proofs.lemmas.Simd.{map-map}
use Rattle.std.proofs.lemmas.List.{length-map}
use Rattle.std.proofs.Math.ListN.{get_or-map}
use Rattle.algebra.specs.Ring.{Ops, Laws, Cancels, cancels}
use Rattle.algebra.specs.Power.{nat}
use Rattle.algebra.specs.Hom.{Hom, hom_then, hom_nat}
use Rattle.algebra.specs.Integer.{ℤ_eq}
use Rattle.residues.specs.Prime.{Prime, prime_positive}
use Rattle.residues.specs.Residues.{residues, Words, Z, ring, reduce, laws, reduce_hom, word_hom, word_reduce}
use Rattle.residues.specs.Field.{inverse, nat_inverse}
use Rattle.placements.specs.Placements.{factorials, placed}
use Rattle.definition.specs.Definition.{Resolvent}
use Rattle.definition.specs.Product.{product, values}
use Rattle.splitting.specs.Splitting.{Splitting}
use Rattle.splitting.proofs.Splittings.{splitting}
use Rattle.lists_end.specs.Anywhere.{resolvent_is}

-- a ring q over the words modulo p
module _ {p : ℕ} (prime : Prime p) {B : Type 0} {q : Ops B} (l : Laws q) {φ : ℕ → B} (hom : Hom (residues p) q φ) where
  -- a number that p does not divide has its inverse there
  over_cancels : (n : ℕ) → (n % p ≡ 0 → ⊥) → Cancels q (nat q n)
  over_cancels n apart = cancels l.semi (nat q n) (φ (inverse p n).word)
      (ap (λ x. q.mul x (φ (inverse p n).word)) (sym (hom_nat both n))
      ∙ sym (both.at_mul _ _)
      ∙ ap (λ (x : Z p). φ x.word) (nat_inverse prime n apart)
      ∙ both.at_one)
    where
      both : Hom (ring p) q (λ x. φ x.word)
      both = hom_then (word_hom p) hom

  -- demand 3, where p divides nothing that rules 3 and 4 divide by
  pub words_product : (c : List ℕ) (rs : List B) → map φ c ≡ product q rs → (L : List ℤ)
      → (factorials ℤ_eq L % p ≡ 0 → ⊥) → ((k : ℕ) → 1 ≤ k → k ≤ placed (length c) L → k % p ≡ 0 → ⊥)
      → (b : List ℕ) → Resolvent (residues p) c L b → map φ b ≡ product q (values q rs L)
  words_product c rs factors L apart each_apart = resolvent_is l hom c rs factors L (over_cancels _ apart) (λ k a h. over_cancels k (each_apart k a h))

-- a ring over the words modulo p where x^n + c1 x^(n-1) + .. + cn has all its roots
pub record RootRing (p : ℕ) (c : List ℕ) : Type 1 where
  pub carrier : Type 0
  pub ops : Ops carrier
  pub laws : Laws ops
  pub embed : ℕ → carrier
  pub hom : Hom (residues p) ops embed
  pub injective : (a b : ℕ) → a < p → b < p → embed a ≡ embed b → a ≡ b
  pub roots : List carrier
  pub factors : map embed c ≡ product ops roots

pub root_ring : {p : ℕ} → Prime p → (c : List ℕ) → RootRing p c
root_ring {p} prime c = over (splitting (laws p (prime_positive prime)) (map (reduce p) c))
  where
    over : Splitting (ring p) (map (reduce p) c) → RootRing p c
    over sp = record {
      carrier = sp.ring.carrier;
      ops = sp.ring.ops;
      laws = sp.ring.laws;
      embed = λ x. sp.ring.embed (reduce p x);
      hom = hom_then (reduce_hom p) sp.ring.hom;
      injective = λ a b low low' e. sym (word_reduce p a low) ∙ ap (λ (x : Z p). x.word) (sp.ring.injective _ _ e) ∙ word_reduce p b low';
      roots = sp.roots;
      factors = sym (map-map sp.ring.embed (reduce p) c) ∙ sp.factors;
    }

-- words below p are told by their numbers there
pub words_told : {p : ℕ} {c : List ℕ} (s : RootRing p c) (a b : List ℕ) → Words p a → Words p b → map s.embed a ≡ map s.embed b → a ≡ b
words_told s a b low low' e = ext_get_or 0 a b long (λ i h.
    s.injective _ _ (low i h) (low' i (omega (arith, long)))
    (sym (get_or-map s.embed a i 0) ∙ ap (λ xs. get_or xs i (s.embed 0)) e ∙ get_or-map s.embed b i 0))
  where
    long : length a ≡ length b
    long = sym (length-map a s.embed) ∙ ap length e ∙ length-map b s.embed

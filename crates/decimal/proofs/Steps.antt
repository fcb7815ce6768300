-- The loop of the number reader, over the bytes s behind the first. After i + 1 digits of value v, reading the whole is going on behind
-- them with v: `so` is this invariant. Each lemma's premises are what is known where the code returns or goes on, so that `search` finds
-- them there.
use Rattle.std.proofs.Common.{◌≡◌, refl, ℕ, ◌+◌, ◌*◌, ◌≤◌, ◌<◌, ◌⊎◌, inl, inr, List, ◌∷◌, length, get_or, drop}
use Rattle.std.proofs.Common.{arith, add-one, drop_of_length-le, drop-cons, lt-ltb, le-ltb, ne_eqb}
use Rattle.std.proofs.Math.Decide.{ℕ_discrete}
use Rattle.decimal.specs.Spelling.{Word, largest_word}
use Rattle.decimal.specs.Scan.{bad, digit_of, got, more_digits, number}

module _ (t s : List ℕ) (i v : ℕ) (so : number t ≡ more_digits (drop i s) v (i + 1)) where
  pub at_end : (n : ℕ) → length s ≤ i → n ≡ i + 1 → got v n ≡ number t
  at_end n h e = rw (so, drop_of_length-le s h, e)

  module _ (d : ℕ) (h : i < length s) (e : d ≡ digit_of (get_or s i 0)) where
    pub stops : d ≤ 9 → (v ≡ 0) ⊎ (largest_word < v * 10 + d) → bad ≡ number t
    stops q p = rw (so, drop-cons s i 0, ← e, le-ltb _ _ q) (elim (ℕ_discrete v 0) [
      | yes z ↦ rw z refl
      | no n ↦ rw (ne_eqb _ _ n, lt-ltb largest_word (v * 10 + d) (elim p [ inl z ↦ absurd (n z) | inr l ↦ l ]))
    ])

    pub more : d ≤ 9 → (v ≡ 0 → ⊥) → Word (v * 10 + d) → number t ≡ more_digits (drop (i + 1) s) (v * 10 + d) (i + 1 + 1)
    more q n p = rw (so, drop-cons s i 0, ← e) (simp (le-ltb _ _ q, ne_eqb _ _ n, le-ltb _ _ p, add-one))

  pub other : i < length s → 9 < digit_of (get_or s i 0) → got v (i + 1) ≡ number t
  other h p = rw (so, drop-cons s i 0) (simp (lt-ltb _ _ p))

-- the first byte
pub start : (t s : List ℕ) (b d : ℕ) → t ≡ b ∷ s → d ≡ digit_of b → d ≤ 9 → number t ≡ more_digits s d 1
start t s b d f e h = rw (f, e) (simp (le-ltb 9 (digit_of b) (omega arith)))

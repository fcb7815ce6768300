-- The sum of two words of 32 bits: the code adds the words, as it reads them, and stores the word of a sum that is one.
use Rattle.std.proofs.Common.{◌≡◌, true, ap₂, sym, ◌∙◌, lt-ltb, ℤ, pos, ◌+ℤ◌, get_or, set, to_z, of_z, w32, w64, FitsSigned}
use Rattle.std.proofs.lemmas.Bool.{false_from_ne_true, ltb-true}
use mir.ValLaws.{to_z-of_z}
use Prim.Native.Nat.{ℕ}
use Rattle.placements.specs.Places.{with_sum}
use Rattle.weights.specs.Lists.{among, put_in, with_sum_at}
use Rattle.weights.specs.Laws.{with_sum_unfit, with_sum_put}
use Rattle.weights.specs.declared.Weights.{Weights}

-- a word as it is read
abbrev pub word : ℤ → ℤ
word x = to_z w32 (of_z w32 x)

-- the sum of two numbers in 64 bits
abbrev pub coded : ℤ → ℤ → ℤ
coded x y = to_z w64 (of_z w64 (to_z w64 (of_z w64 x) +ℤ to_z w64 (of_z w64 y)))

-- the sum of what is read
abbrev pub read : Weights → ℕ → ℤ → ℤ
read s at e = word (get_or s.places at (pos 0)) +ℤ word e

-- both are words, so the sum of what is read is theirs
sum_is : {x e : ℤ} → FitsSigned w32 x → FitsSigned w32 e → word x +ℤ word e ≡ x +ℤ e
sum_is f g = ap₂ ◌+ℤ◌ (to_z-of_z w32 _ f) (to_z-of_z w32 _ g)

module _ (s : Weights) (at : ℕ) (e : ℤ) (weight : FitsSigned w32 (get_or s.places at (pos 0))) (addend : FitsSigned w32 e) where
  pub stored : {sum : ℤ} → among s at ≡ true → FitsSigned w32 (read s at e) × (sum ≡ read s at e)
      → record { places = set s.places at (word sum); len = s.len } ≡ with_sum_at s at e
  unfolding with_sum put_in
  stored there h =
      let fit = rw (sum_is weight addend) at h.0 in
      rw (h.1 ∙ sum_is weight addend, to_z-of_z w32 _ fit) (sym (with_sum_put s at e there (lt-ltb _ _ fit.sfits)))

  pub unfit : ¬ FitsSigned w32 (read s at e) → s ≡ with_sum_at s at e
  unfit n = sym (with_sum_unfit s at e (false_from_ne_true _ (λ t. n (rw (sum_is weight addend) (record { sfits = ltb-true _ _ t })))))

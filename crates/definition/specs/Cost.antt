-- What a job costs (request 13): rule 2 with equal collisions merged, the number of weight lists that are worked by it, and the most
-- that r weights can need. Nothing is proved here: that merging leaves T as it was, that there is one such number and that it is
-- at most that, stands in `Merge`.
use Rattle.std.specs.Prelude.{◌≡◌, List, [], ◌∷◌, ℕ, zero, suc, ◌+◌, ◌*◌, ◌<◌, length, ℤ, ◌+ℤ◌}
use Rattle.algebra.specs.Ring.{Ops}
use Rattle.algebra.specs.Power.{nat}
use Rattle.algebra.specs.Sum.{total}
use Rattle.algebra.specs.Natural.{naturals}
use Rattle.algebra.specs.Integer.{ℤ_eq}
use Rattle.placements.specs.Placements.{count, different}
use Rattle.placements.specs.Places.{replaced}
use Rattle.definition.specs.Definition.{spread}

-- M with its first d replaced by d + e
abbrev pub met : ℤ → List ℤ → ℤ → List ℤ
met e M d = replaced ℤ_eq d (d +ℤ e) M

module _ {A : Type 0} (o : Ops A) where
  open o use {zero as 𝟘, one as 𝟙, add as ◌⊕◌, mul as ◌⊗◌, neg as ⊖◌}

  infixl 60 ◌⊕◌
  infixl 70 ◌⊗◌
  infix 80 ⊖◌
  -- the collisions of e with the weights D in M, each as often as its weight occurs in M
  abbrev pub merged : (T : List ℤ → ℕ → A) → ℤ → List ℤ → List ℤ → ℕ → A
  merged T e M D k = total o D (λ d. nat o (count ℤ_eq d M) ⊗ T (met e M d) k)

  -- Rule 2 with the collisions by different weights in place of those by position
  pub record MergedRule₂ (s : ℕ → A) (T : List ℤ → ℕ → A) : Type 0 where
    pub empty : T [] 0 ≡ 𝟙
    pub empty_later : (k : ℕ) → 0 < k → T [] k ≡ 𝟘
    pub longer : (e : ℤ) (M : List ℤ) (k : ℕ) → T (e ∷ M) k ≡ spread o s T e M k ⊕ ⊖ merged T e M (different ℤ_eq M) k

-- "for a list with first weight e and rest M it is 1, plus the number for M, plus one number for each different weight d in M, for
-- M with the first d replaced by d + e; it is 1 for the empty list"
pub record NumberOfLists (number : List ℤ → ℕ) : Type 0 where
  pub empty : number [] ≡ 1
  pub longer : (e : ℤ) (M : List ℤ) → number (e ∷ M) ≡ 1 + number M + total naturals (different ℤ_eq M) (λ d. number (met e M d))

-- the number of a list of at most r weights
unfoldable pub lists_up_to : ℕ → List ℤ → ℕ
lists_up_to zero L = 1
lists_up_to (suc r) [] = 1
lists_up_to (suc r) (e ∷ M) = 1 + lists_up_to r M + total naturals (different ℤ_eq M) (λ d. lists_up_to r (met e M d))

-- the number of weight lists worked
unfoldable pub lists : List ℤ → ℕ
lists L = lists_up_to (length L) L

-- "V(0) = 1 and V(r) = 1 + r V(r-1)"
unfoldable pub most_lists : ℕ → ℕ
most_lists zero = 1
most_lists (suc r) = 1 + suc r * most_lists r

-- Each promise decides its result: two results that it allows are equal. Each is an equation with one side given, so this is no more than
-- that equality can be turned and joined.
use Rattle.std.specs.Prelude.{◌≡◌, List, ℕ, ℤ, pos, get_or, drop}
use Rattle.std.proofs.Common.{sym, ◌∙◌}
use Rattle.algebra.specs.Integer.{ℤ_eq}
use Rattle.placements.specs.Placements.{count, factorials, placed}
use Rattle.weights.specs.Lists.{of_slice, listed, without_at, with_sum_at}
use Rattle.weights.specs.declared.Weights.{Weights}

pub of_decides : (w : List ℤ) (a b : Weights) → a ≡ of_slice w → b ≡ of_slice w → a ≡ b
of_decides w a b h k = h ∙ sym k

pub without_decides : (s : Weights) (at : ℕ) (a b : Weights) → a ≡ without_at s at → b ≡ without_at s at → a ≡ b
without_decides s at a b h k = h ∙ sym k

pub with_sum_decides : (s : Weights) (at : ℕ) (e : ℤ) (a b : Weights) → a ≡ with_sum_at s at e → b ≡ with_sum_at s at e → a ≡ b
with_sum_decides s at e a b h k = h ∙ sym k

pub copies_decides : (s : Weights) (at from a b : ℕ)
    → a ≡ count ℤ_eq (get_or (listed s) at (pos 0)) (drop from (listed s)) → b ≡ count ℤ_eq (get_or (listed s) at (pos 0)) (drop from (listed s)) → a ≡ b
copies_decides s at from a b h k = h ∙ sym k

pub factorials_decides : (s : Weights) (a b : ℕ) → a ≡ factorials ℤ_eq (listed s) → b ≡ factorials ℤ_eq (listed s) → a ≡ b
factorials_decides s a b h k = h ∙ sym k

pub placements_decides : (s : Weights) (n a b : ℕ) → a ≡ placed n (listed s) → b ≡ placed n (listed s) → a ≡ b
placements_decides s n a b h k = h ∙ sym k

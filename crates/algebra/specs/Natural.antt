-- The natural numbers as a semiring, so that what is proved of sums over any semiring counts things, and induction from all
-- smaller numbers.
use Rattle.std.specs.Prelude.{◌≡◌, List, [], ◌∷◌, ℕ, zero, suc, ◌+◌, ◌*◌, ◌<◌, length}
use Rattle.std.proofs.Common.{ap, ◌∙◌, arith}
use Rattle.std.proofs.Math.Nat as N
use Rattle.algebra.specs.Ring.{Ops, Semi}
use Rattle.algebra.specs.Power.{nat, nat_zero, nat_suc}
use Rattle.algebra.specs.Sum.{total, total_nil, total_cons}

-- there is no opposite: `neg` stands for nothing, and no law of a semiring names it
abbrev pub naturals : Ops ℕ
naturals = record { zero = 0; one = 1; add = ◌+◌; mul = ◌*◌; neg = λ n. n }

pub naturals_semi : Semi naturals
naturals_semi = record {
  add_assoc = N.add_assoc;
  add_comm = N.add_comm;
  add-zero = N.add-zero;
  mul_assoc = N.mul_assoc;
  mul_comm = N.mul_comm;
  mul-one = N.mul-one;
  mul-zero = N.mul-zero;
  mul-add = N.mul-add;
}

pub nat_naturals : (n : ℕ) → nat naturals n ≡ n
nat_naturals zero = nat_zero naturals
nat_naturals (suc n) = nat_suc naturals n ∙ ap (λ x. 1 + x) (nat_naturals n) ∙ omega arith

-- a list has as many members as it has ones
pub total_ones : {X : Type 0} (xs : List X) → total naturals xs (λ x. 1) ≡ length xs
total_ones [] = total_nil naturals _
total_ones (x ∷ xs) = total_cons naturals x xs _ ∙ ap (λ n. 1 + n) (total_ones xs) ∙ omega arith

-- what follows from all smaller numbers holds of all
pub strong : (P : ℕ → Type 0) → ((k : ℕ) → ((i : ℕ) → i < k → P i) → P k) → (k : ℕ) → P k
strong P step k = below (suc k) k (omega arith)
  where
    below : (n i : ℕ) → i < n → P i
    below zero i h = absurd (omega arith)
    below (suc n) i h = step i (λ j d. below n j (omega arith))

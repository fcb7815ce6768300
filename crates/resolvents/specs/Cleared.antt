-- The first m words are zero and the rest is as it was, and how a loop gets there.
use Rattle.std.specs.Prelude.{◌≡◌, refl, List, ℕ, ◌+◌, ◌<◌, length, take, drop, set, replicate}
use Rattle.std.proofs.Common.{ap, ◌∙◌, add-one, arith, length-set, take-suc-set, drop-set-lt}
use Rattle.std.proofs.lemmas.List.{replicate-append-replicate}
use Rattle.rows.specs.Rows.{drop_more}

pub record Cleared (m : ℕ) (before after : List ℕ) : Type 0 where
  pub same : length after ≡ length before
  pub zeros : take m after ≡ replicate m 0
  pub rest : drop m after ≡ drop m before

pub cleared_none : (xs : List ℕ) → Cleared 0 xs xs
cleared_none xs = record { same = refl; zeros = refl; rest = refl }

pub cleared_more : (k : ℕ) (before after : List ℕ) → k < length before → Cleared k before after → Cleared (k + 1) before (set after k 0)
cleared_more k before after h c = record {
  same = length-set after k 0 ∙ c.same;
  zeros = ap (λ n. take n (set after k 0)) (add-one k) ∙ take-suc-set after k 0 (omega (arith, c.same)) ∙ rw c.zeros (replicate-append-replicate k 1 0);
  rest = drop-set-lt (k + 1) after k 0 (omega arith) ∙ drop_more k (k + 1) before after (omega arith) c.rest;
}

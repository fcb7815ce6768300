-- What a resolvent entry leaves behind (document 01, "A job in numbers", "The numbers we send back"): a refused call touches nothing
-- that was lent, and an answered one leaves the answer and a clean work room. `SuccessOnly` has that each determines all of it.
use Rattle.std.specs.Prelude.{◌≡◌, Bool, false, List, ℕ, take, drop, replicate}
use Rattle.limits.specs.Limits.{room}
use Rattle.refusals.specs.Refusals.{Call, weights, N}
use Rattle.refusals.specs.Resolved.{Resolved}

-- "A refused resolvent call returns the number, N = 0 and simple = no. .. Nothing lent is touched by a refusal."
pub record Untouched (c : Call) (count : ℕ) (simple : Bool) (output work : List ℕ) : Type 0 where
  pub no_number : count ≡ 0
  pub no_mark : simple ≡ false
  pub same_output : output ≡ c.output
  pub same_work : work ≡ c.work

-- "A success returns code 0, N, and a mark `simple`. The first N output words are the resolvent's coefficients b1 to bN; later words
-- keep their values. The first 12(N+1) words of work room are zero afterwards, the rest unchanged."
pub record Success (c : Call) (count : ℕ) (simple : Bool) (output work : List ℕ) : Type 0 where
  pub number : count ≡ N c
  pub resolved : Resolved c.p c.f (weights c) simple (take (N c) output)
  pub later : drop (N c) output ≡ drop (N c) c.output
  pub zeros : take (room (N c)) work ≡ replicate (room (N c)) 0
  pub rest : drop (room (N c)) work ≡ drop (room (N c)) c.work

-- the number, the mark and every word lent are the same
abbrev pub Same : ℕ → Bool → List ℕ → List ℕ → ℕ → Bool → List ℕ → List ℕ → Type 0
Same n s o w n' s' o' w' = (n ≡ n') × (s ≡ s') × (o ≡ o') × (w ≡ w')

-- What a call that moves bytes may answer: that it failed, or a number of bytes that were lent.
use Rattle.std.specs.Prelude.{◌≡◌, ℕ, ◌≤◌, Result, Ok, IfOk}

abbrev pub Within : {E : Type 0} → ℕ → Result ℕ E → Type 0
Within lent r = IfOk r (λ n. n ≤ lent)

pub within_lent : {E : Type 0} {lent n : ℕ} {r : Result ℕ E} → Within lent r → r ≡ Ok n → n ≤ lent
within_lent w e = rw e at w

-- n (n - 1) .. (n - r + 1) from its smallest factor: before a factor, those of the number below it that are above n - r. One factor more is
-- `falling`'s own rule, and each product on the way fits 64 bits.
use Rattle.std.proofs.Math.Path.{◌≡◌}
use Prim.Native.Nat.{ℕ, suc, ◌+◌, ◌*◌, ◌-◌, ◌≤◌, ◌<◌, ◌^◌}
use Rattle.std.proofs.Math.Nat.{mul_comm}
use Rattle.std.proofs.Common.{arith}
use Rattle.algebra.specs.Binomial.{falling, falling_zero, falling_suc}
use Rattle.limits.specs.Limits.{capacity}
use Rattle.weights.specs.Numbers.{falling_small}

pub record Factors (n r product factor : ℕ) : Type 0 where
  pub some : 0 < factor
  pub low : n < factor + r
  pub high : factor ≤ n + 1
  pub so_far : product ≡ falling (factor - 1) (factor + r - suc n)

pub factors_none : {n r : ℕ} → r ≤ n → Factors n r 1 (n - r + 1)
factors_none {n} {r} h =
    let e : n - r + 1 + r - suc n ≡ 0 = omega arith in
    record { some = omega arith; low = omega arith; high = omega arith; so_far = rw (e, falling_zero (n - r + 1 - 1)) }

module _ {n r product factor : ℕ} (f : Factors n r product factor) (h : factor ≤ n) where
  pub factors_more : Factors n r (product * factor) (factor + 1)
  factors_more =
      let e : factor ≡ suc (factor - 1) = omega (arith, f.some) in
      let d : factor + 1 + r - suc n ≡ suc (factor + r - suc n) = omega (arith, f.low) in
      let b : factor + 1 - 1 ≡ suc (factor - 1) = omega (arith, f.some) in
      record {
        some = omega arith;
        low = omega (arith, f.low);
        high = omega arith;
        so_far = rw (f.so_far, b, d, falling_suc (factor - 1) (factor + r - suc n), ← e) (mul_comm _ _);
      }

  pub factors_fit : n ≤ 255 → r ≤ capacity → product * factor < 2 ^ 64
  factors_fit small few = omega (arith, factors_more.so_far, falling_small (factor + 1 - 1) (factor + 1 + r - suc n) (omega arith) (omega arith))

pub factors_all : {n r product factor : ℕ} → Factors n r product factor → n < factor → product ≡ falling n r
factors_all {n} {r} {product} {factor} f h =
    let last : factor - 1 ≡ n = omega (arith, f.high) in
    let e : factor + r - suc n ≡ r = omega (arith, f.high) in
    rw (last, e) at f.so_far

use Rattle.std.proofs.Common.{◌≡◌, ◌+◌, ◌<◌, ◌≤◌, ℕ, suc, List, ℤ, pos, length, replicate, min, set, zero-add, arith}
use Rattle.std.proofs.lemmas.List.{take_all}
use Rattle.std.proofs.Math.Decide.{dec_le}
use Rattle.std.proofs.Math.ListN.{get_or, drop_of_length-le}
use Rattle.std.proofs.Math.Seq.{paste-suc}
use Rattle.std.specs.Int.{w32}
use mir.ValLaws.{to_z-of_z}
use Rattle.limits.specs.Limits.{capacity}
use Rattle.weights.specs.Lists.{of_slice}
use Rattle.weights.proofs.Weights.of.Invariants.{so_far}
use Rattle.weights.proofs.Weights.of.Goals as goal
use Rattle.weights.proofs.Weights.of.Goals.{then-at-len, else-at-len}

-- a turn with a number to copy, and one without
more : (w : List ℤ) {places : List ℤ} (n : ℕ) {v : ℤ} → n < capacity → n < length w → v ≡ get_or w n (pos 0) → places ≡ so_far w (min n (length w))
    → set places n v ≡ so_far w (min (n + 1) (length w))
more w n room there is e =
    let now : min n (length w) ≡ n = omega arith in
    let next : min (n + 1) (length w) ≡ suc n = omega arith in
    rw (e, is, now, next) (simp zero-add at (paste-suc (replicate capacity (pos 0)) 0 w n (pos 0) (simp zero-add room) there))

same : (w : List ℤ) {places : List ℤ} (n : ℕ) → length w ≤ n → places ≡ so_far w (min n (length w)) → places ≡ so_far w (min (n + 1) (length w))
same w n past e = let all : min n (length w) ≡ min (n + 1) (length w) = omega arith in rw all at e

copied : (w : List ℤ) → record { places = so_far w (min capacity (length w)); len = length w } ≡ of_slice w
unfolding of_slice
copied w = elim (dec_le (length w) capacity) [
  | yes h ↦ let e : min capacity (length w) ≡ length w = omega arith in rw (e, take_all (length w) w (omega arith), take_all capacity w h)
  | no h ↦
      let e : min capacity (length w) ≡ capacity = omega arith in
      rw (e, drop_of_length-le (replicate capacity (pos 0)) {i = length w} (omega arith))
]

pub loop-at-preserved : goal.loop-at-preserved
loop-at-preserved c = elim c.if-at-len.branch [
  | then-at-len t ↦
      let word = to_z-of_z w32 (get_or c.args.weights.now c.loop-at.at (pos 0)) (record { sfits = omega (arith, t.if-at-len) }) in
      rw t.places-is (more c.args.weights.now c.loop-at.at (omega arith) (omega (arith, t.if-at-len)) word c.loop-at.invariant)
  | else-at-len t ↦ rw t.places-is (same c.args.weights.now c.loop-at.at (omega (arith, t.if-at-len)) c.loop-at.invariant)
]

pub returns : goal.returns
returns c = let all : c.loop-at.at ≡ capacity = omega arith in rw (c.loop-at.invariant, all) (copied c.args.weights.now)

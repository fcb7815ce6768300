-- The laws of numbers with a sign, from those without one: a minus sign is no digit, so the first byte tells the two cases apart, and
-- the case with the sign leaves 0 out.
use Rattle.std.specs.Prelude.{ℕ, zero, suc, ◌+◌, ◌≡◌, refl, List, [], ◌∷◌, ◌++◌, ltb, eqb, ℤ, pos, negsuc, neg_ℤ, nat_abs, length, get_or}
use Rattle.std.proofs.Common.{arith, add-one, ltb-false, le-ltb, ne_eqb}
use Rattle.std.proofs.Math.Decide.{ℕ_discrete}
use Rattle.std.proofs.lemmas.Bool.{eqb-false}
use Rattle.limits.specs.Limits.{largest_written}
use Rattle.decimal.specs.Spelling.{Small, decimal, signed}
use Rattle.decimal.specs.Scan.{digit_of, got, number, signed_number}
use Rattle.decimal.specs.Scans.{Begins, Ends, Scans, got_as, never_got, spared_got, then_got}
use Rattle.decimal.specs.NumberLaws.{decimal_starts, numbers}

complete : (z : ℤ) (t : List ℕ) → Small z → Ends t → signed_number (signed z ++ t) ≡ got z (length (signed z))
unfolding signed_number signed digit_of
complete (pos n) t o h =
    let d : get_or (decimal n ++ t) 0 0 ≡ 45 → ⊥ = λ e. decimal_starts n t 45 (omega arith) e in
    rw (ne_eqb _ _ d, numbers.complete n t (omega arith) h, le-ltb largest_written n o)
complete (negsuc n) t o h =
    rw (numbers.complete (suc n) t (omega arith) h, ne_eqb (suc n) 0 (λ e. omega arith), le-ltb largest_written (suc n) o, add-one)

minus_is : (v : ℕ) → (v ≡ 0 → ⊥) → (signed (neg_ℤ (pos v)) ≡ 45 ∷ decimal v) × (nat_abs (neg_ℤ (pos v)) ≡ v)
unfolding signed
minus_is zero n = absurd (n refl)
minus_is (suc v) n = (refl, refl)

sound : (t : List ℕ) (z : ℤ) (i : ℕ) → signed_number t ≡ got z i → Begins (signed z) t i × Small z
unfolding signed_number signed
sound [] z i h = absurd (never_got h)
sound (b ∷ t) z i h = elim (ℕ_discrete b 45) [
  | yes p ↦
      let (v, j, e, g) = then_got (number t) (rw p at h) in
      let (n, g₁) = spared_got (eqb v 0) g in
      let (l, g₂) = spared_got (ltb largest_written v) g₁ in
      let f = (numbers.sound t v j e).0 in
      let m = minus_is v (eqb-false v 0 n) in
      let begins : Begins (45 ∷ decimal v) (45 ∷ t) (j + 1) = record { behind = f.behind; whole = rw (← f.whole); place = omega (arith, f.place) } in
      rw p (got_as (λ z i. Begins (signed z) (45 ∷ t) i × Small z) g₂ (rw (m.0, m.1) (begins, ltb-false _ _ l)))
  | no p ↦
      let (v, j, e, g) = then_got (number (b ∷ t)) (rw (ne_eqb _ _ p) at h) in
      let (l, g₁) = spared_got (ltb largest_written v) g in
      got_as (λ z i. Begins (signed z) (b ∷ t) i × Small z) g₁ ((numbers.sound (b ∷ t) v j e).0, ltb-false _ _ l)
]

pub signed_numbers : Scans Small signed signed_number
signed_numbers = record { complete = complete; sound = sound }

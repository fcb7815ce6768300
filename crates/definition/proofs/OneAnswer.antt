-- Rules 1 to 4 have one answer at most, where the numbers that they divide by can be cancelled: rules 1 and 4 give the k-th number by
-- the ones before, rule 2 gives T by shorter lists, and rule 3 gives S by T. No law of a ring is used.
use Rattle.std.specs.Prelude.{◌≡◌, List, ℕ, zero, suc, ◌≤◌, ◌<◌, length, ℤ}
use Rattle.std.proofs.Common.{sym, ◌∙◌, arith, ext_get_or}
use Rattle.std.proofs.Math.Decide.{dec_le}
use Rattle.algebra.specs.Ring.{Ops, Cancels}
use Rattle.algebra.specs.Power.{nat}
use Rattle.algebra.specs.Natural.{strong}
use Rattle.algebra.specs.Integer.{ℤ_eq}
use Rattle.placements.specs.Placements.{factorials, placed}
use Rattle.definition.specs.Definition.{nth, Rule₁, Resolvent}
use Rattle.definition.proofs.Rules.{nth_suc, newton_cong, newton_past_cong, newton_back_cong, same_T}

module _ {A : Type 0} (o : Ops A) where
  -- rule 1 determines the power sums
  pub same_sums : (c : List A) (n : ℕ) (s s' : ℕ → A) → Rule₁ o c n s → Rule₁ o c n s' → (k : ℕ) → k ≤ n → s k ≡ s' k
  same_sums c n s s' h h' = strong (λ k. k ≤ n → s k ≡ s' k) next
    where
      next : (k : ℕ) → ((i : ℕ) → i < k → i ≤ n → s i ≡ s' i) → k ≤ n → s k ≡ s' k
      next zero ih b = h.zeroth ∙ sym h'.zeroth
      next (suc j) ih b =
          let before : (i : ℕ) → i < suc j → s i ≡ s' i = λ i d. ih i d (omega arith) in
          elim (dec_le (suc j) (length c)) [
            | yes q ↦ h.low (suc j) (omega arith) q b ∙ newton_cong o c (suc j) before ∙ sym (h'.low (suc j) (omega arith) q b)
            | no q ↦ h.high (suc j) (omega arith) b ∙ newton_past_cong o c (suc j) before (omega arith) ∙ sym (h'.high (suc j) (omega arith) b)
          ]

  pub one_answer : (c : List A) (L : List ℤ) → Cancels o (nat o (factorials ℤ_eq L)) → ((k : ℕ) → 1 ≤ k → k ≤ placed (length c) L → Cancels o (nat o k))
      → (b b' : List A) → Resolvent o c L b → Resolvent o c L b' → b ≡ b'
  one_answer c L cancel cancels b b' r r' = ext_get_or o.zero b b' (r.size ∙ sym r'.size)
      (λ i h. sym (nth_suc o b i) ∙ same_b (suc i) (omega arith) (omega (arith, r.size)) ∙ nth_suc o b' i)
    where
      same_S : (k : ℕ) → k ≤ placed (length c) L → r.S k ≡ r'.S k
      same_S k h = cancel _ _ (
          r.rule₃ k h
          ∙ same_T o r.rule₂ r'.rule₂ L k (λ i d. same_sums c _ _ _ r.rule₁ r'.rule₁ i (omega arith))
          ∙ sym (r'.rule₃ k h))

      next : (k : ℕ) → ((i : ℕ) → i < k → 1 ≤ i → i ≤ placed (length c) L → nth o b i ≡ nth o b' i) → 1 ≤ k → k ≤ placed (length c) L → nth o b k ≡ nth o b' k
      next k ih a h = cancels k a h _ _ (
          r.rule₄ k a h
          ∙ newton_back_cong o b b' k (λ i u d. ih i d u (omega arith)) (λ i d. same_S i (omega arith))
          ∙ sym (r'.rule₄ k a h))

      same_b : (k : ℕ) → 1 ≤ k → k ≤ placed (length c) L → nth o b k ≡ nth o b' k
      same_b = strong (λ k. 1 ≤ k → k ≤ placed (length c) L → nth o b k ≡ nth o b' k) next

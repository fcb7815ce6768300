-- Entries that break the promise (document 01, "What a reader of the promises may rely on"). Each is refuted at named cases of
-- the table A to L, where every exit that the promise allows has the row's numbers.
use Rattle.std.proofs.Math.Path.{◌≡◌, refl, sym, ap}
use Rattle.std.proofs.Common.{◌∙◌, le_of_eq, arith}
use Rattle.std.specs.Prelude.{Bool, length, take, drop, replicate, ℤ}
use Rattle.std.proofs.Math.Bool.{true, false}
use mathlib.Core.List.{List, [], ◌∷◌, flat_map, Memᴰ, Permᴰ}
use Prim.Native.Nat.{ℕ, zero, suc, ◌<◌}
use Rattle.std.proofs.Math.ListN.{get_or}
use Rattle.std.proofs.lemmas.List.{length-replicate}
use Rattle.std.proofs.Math.IntN.{pos}
use Rattle.limits.specs.Limits.{room}
use Rattle.algebra.specs.Integer.{ℤ_eq}
use Rattle.algebra.specs.Sum.{total}
use Rattle.algebra.specs.Power.{nat, int}
use Rattle.algebra.specs.Series.{monomial}
use Rattle.algebra.specs.Newton.{times_root, coeff}
use Rattle.algebra.specs.Binomial.{fact, falling}
use Rattle.residues.specs.Residues.{residues, Words}
use Rattle.placements.specs.Placements.{prod, count, except, different, factorials, placed, without, placements, value}
use Rattle.placements.specs.Places.{replaced}
use Rattle.definition.specs.Product.{listed, product, values}
use Rattle.definition.specs.Cost.{lists_up_to, lists}
use Rattle.refusals.specs.Refusals.{Call, weights, N, refusal, Accepted}
use Rattle.refusals.proofs.Reading.{not_refused}
use Rattle.refusals.proofs.Edges.{outcome, outcome_is}
use Rattle.refusals.specs.Cases.{Case, cases}
use Rattle.refusals.proofs.CasesHold.{call}
use Rattle.resolvents.specs.Promise.{Exit, Promise}
use Rattle.resolvents.proofs.Demands.{CaseNumbers, case_numbers, success_exactly, count_placements}

-- an entry that keeps the promise: what it leaves behind at each call
abbrev Keeps : (Call → Exit) → Type 0
Keeps entry = (c : Call) → Promise c (entry c)

-- the cases by their place in the table: A is 0, B 1, C 2, D 3, E 4
abbrev case : ℕ → Case
case i = get_or cases i (record { f = []; weights = []; resolvent = []; mark = true })

-- the case as a call with no word to spare, all words 1
abbrev ask : ℕ → Call
ask i = call (case i) [] (replicate (length (case i).resolvent) 1) (replicate (room (length (case i).resolvent)) 1)

in_table : {X : Type 0} (xs : List X) (d : X) (i : ℕ) → i < length xs → Memᴰ (get_or xs i d) xs
in_table [] d i h = absurd (omega arith)
in_table (x ∷ xs) d zero h = Memᴰ.head refl
in_table (x ∷ xs) d (suc i) h = Memᴰ.tail (in_table xs d i (omega arith))

module _ (entry : Call → Exit) (keeps : Keeps entry) where
  at : (i : ℕ) → i < 12 → CaseNumbers (case i) (entry (ask i))
  unfolding cases
  at i h = case_numbers (case i) (in_table cases _ i h) [] _ _ (le_of_eq (sym (length-replicate _ 1))) (le_of_eq (sym (length-replicate _ 1))) _ (keeps (ask i))

  -- one that refuses everything: A is taken
  pub refuses_everything : ((c : Call) → (entry c).outcome.code ≡ 0 → ⊥) → ⊥
  refuses_everything h = h (ask 0) (at 0 (omega arith)).code

  -- one fixed polynomial for each p and N: A's is x + 242, B's x + 254
  pub one_fixed_polynomial : (b : ℕ → ℕ → List ℕ)
      → ((c : Call) → (entry c).outcome.code ≡ 0 → take (entry c).outcome.count (entry c).output ≡ b c.p (entry c).outcome.count) → ⊥
  unfolding cases
  one_fixed_polynomial b h =
      let a : 242 ∷ [] ≡ b 257 1 = sym (at 0 (omega arith)).words ∙ rw (at 0 (omega arith)).count at (h (ask 0) (at 0 (omega arith)).code) in
      let b' : 254 ∷ [] ≡ b 257 1 = sym (at 1 (omega arith)).words ∙ rw (at 1 (omega arith)).count at (h (ask 1) (at 1 (omega arith)).code) in
      let z : ◌≡◌ {A = ℕ} 242 254 = ap (λ l. get_or l 0 0) (a ∙ sym b') in
      absurd (omega (arith, z))

  -- code 0 with untouched output: A's word is 242, whatever stood there
  pub untouched_output : ((c : Call) → (entry c).outcome.code ≡ 0 → (entry c).output ≡ c.output) → ⊥
  unfolding cases
  untouched_output h =
      let z : ◌≡◌ {A = ℕ} 1 242 = ap (λ l. get_or l 0 0) (rw (h (ask 0) (at 0 (omega arith)).code) at (at 0 (omega arith)).words) in
      absurd (omega (arith, z))

  -- the first weight worked and copied for the others, so that the first weight and r tell the output: C and D have the weights
  -- 1,2 and 1,-1
  pub first_weight_copied : (g : ℕ → List ℕ → ℤ → ℕ → List ℕ)
      → ((c : Call) → (entry c).outcome.code ≡ 0 → take (entry c).outcome.count (entry c).output ≡ g c.p c.f (get_or c.places 0 (pos 0)) c.r) → ⊥
  unfolding cases
  first_weight_copied g h =
      let c : 248 ∷ 20 ∷ [] ≡ g 257 (254 ∷ 2 ∷ []) (pos 1) 2 = sym (at 2 (omega arith)).words ∙ rw (at 2 (omega arith)).count at (h (ask 2) (at 2 (omega arith)).code) in
      let d : 0 ∷ 256 ∷ [] ≡ g 257 (254 ∷ 2 ∷ []) (pos 1) 2 = sym (at 3 (omega arith)).words ∙ rw (at 3 (omega arith)).count at (h (ask 3) (at 3 (omega arith)).code) in
      let z : ◌≡◌ {A = ℕ} 248 0 = ap (λ l. get_or l 0 0) (c ∙ sym d) in
      absurd (omega (arith, z))

  -- a made-up N, not told by n and r alone: with n = r = 2, B has one placement and C two
  pub made_up_number : (g : ℕ → ℕ → ℕ) → ((c : Call) → (entry c).outcome.code ≡ 0 → (entry c).outcome.count ≡ g (length c.f) c.r) → ⊥
  unfolding cases
  made_up_number g h =
      let z : ◌≡◌ {A = ℕ} 1 2 = sym (at 1 (omega arith)).count ∙ h (ask 1) (at 1 (omega arith)).code ∙ sym (h (ask 2) (at 2 (omega arith)).code) ∙ (at 2 (omega arith)).count in
      absurd (omega (arith, z))

  -- one mark for all: A is simple, E is not
  pub one_fixed_mark : (m : Bool) → ((c : Call) → (entry c).outcome.code ≡ 0 → (entry c).outcome.simple ≡ m) → ⊥
  unfolding cases
  one_fixed_mark m h =
      let z : true ≡ false = sym (at 0 (omega arith)).simple ∙ h (ask 0) (at 0 (omega arith)).code ∙ sym (h (ask 4) (at 4 (omega arith)).code) ∙ (at 4 (omega arith)).simple in
      let y : ◌≡◌ {A = ℕ} 0 1 = cc in
      absurd (omega arith)

  -- the weights sorted first, or a number of lists that does not see their order in any other way: 1,1,2 has 16 lists and 2,1,1 has 11
  abbrev on_three : List ℤ → Call
  on_three L = record { p = 257; f = replicate 3 0; places = L; r = 3; output = replicate 3 0; work = replicate (room 3) 0 }

  number_on_three : (L : List ℤ) → (outcome (on_three L)).1 ≡ 0 → ((entry (on_three L)).outcome.code ≡ 0) × ((entry (on_three L)).outcome.lists ≡ lists (weights (on_three L)))
  number_on_three L h =
      let z : refusal (on_three L) ≡ 0 = ap (λ (o : ℕ × ℕ). o.1) (sym (outcome_is (on_three L))) ∙ h in
      ((keeps (on_three L)).code ∙ z, ((keeps (on_three L)).done z).lists)

  pub order_not_seen : (g : List ℤ → ℕ) → ((L M : List ℤ) → Permᴰ L M → g L ≡ g M)
      → ((c : Call) → (entry c).outcome.code ≡ 0 → (entry c).outcome.lists ≡ g (weights c)) → ⊥
  unfolding outcome lists lists_up_to different except replaced total ℤ_eq
  order_not_seen g blind h =
      let a = number_on_three (pos 1 ∷ pos 1 ∷ pos 2 ∷ []) refl in
      let b = number_on_three (pos 2 ∷ pos 1 ∷ pos 1 ∷ []) refl in
      let moved : Permᴰ (pos 1 ∷ pos 1 ∷ pos 2 ∷ []) (pos 2 ∷ pos 1 ∷ pos 1 ∷ []) =
      mathlib.Core.List.Permᴰ.trans (mathlib.Core.List.Permᴰ.cons refl (mathlib.Core.List.Permᴰ.swap refl refl)) (mathlib.Core.List.Permᴰ.swap refl refl) in
      let z : ◌≡◌ {A = ℕ} 16 11 = sym a.1 ∙ h _ a.0 ∙ blind _ _ moved ∙ sym (h _ b.0) ∙ b.1 in
      absurd (omega (arith, z))

  -- row 8 before row 7: three weights 0 on two coefficients get 7
  abbrev mixed : Call
  mixed = record { p = 257; f = 0 ∷ 0 ∷ []; places = replicate 3 (pos 0); r = 3; output = []; work = [] }

  pub row_8_before_row_7 : (entry mixed).outcome.code ≡ 8 → ⊥
  unfolding outcome
  row_8_before_row_7 h =
      let z : ◌≡◌ {A = ℕ} 7 8 = ap (λ (o : ℕ × ℕ). o.1) (outcome_is mixed) ∙ sym (keeps mixed).code ∙ h in
      absurd (omega (arith, z))

-- The same from demand 3 alone, by roots: of an entry it is known only that it answers A to D, whose f are the products of x - 3 and of
-- (x - 1)(x - 2), by the product over the placements.
abbrev Splits : (Call → Exit) → Type 0
Splits entry = (c : Call) (roots : List ℕ) → Words c.p roots → c.f ≡ product (residues c.p) roots → (entry c).outcome.code ≡ 0
    → take (N c) (entry c).output ≡ product (residues c.p) (values (residues c.p) roots (weights c))

-- f by its roots and the product over the placements, with all that they are made of open, so that they compute
unfoldable by_roots : List ℕ → List ℤ → List ℕ × List ℕ
unfolding product listed coeff times_root monomial values placements value different except without ℤ_eq flat_map residues int nat
by_roots rs L = (product (residues 257) rs, product (residues 257) (values (residues 257) rs L))

module _ (entry : Call → Exit) (splits : Splits entry) (taken : (i : ℕ) → i < 4 → (entry (ask i)).outcome.code ≡ 0) where
  three : Words 257 (3 ∷ [])
  three zero h = omega arith
  three (suc i) h = absurd (omega arith)

  one_and_two : Words 257 (1 ∷ 2 ∷ [])
  one_and_two zero h = omega arith
  one_and_two (suc zero) h = omega arith
  one_and_two (suc (suc i)) h = absurd (omega arith)

  -- A's root 3 with the weight 5 gives x - 15; B's roots with 1, 1 give x - 3; C's with 1, 2 give (x - 5)(x - 4); D's with 1, -1 give x^2 - 1
  A_is : take (N (ask 0)) (entry (ask 0)).output ≡ 242 ∷ []
  unfolding cases by_roots
  A_is = splits (ask 0) (3 ∷ []) three refl (taken 0 (omega arith))

  B_is : take (N (ask 1)) (entry (ask 1)).output ≡ 254 ∷ []
  unfolding cases by_roots
  B_is = splits (ask 1) (1 ∷ 2 ∷ []) one_and_two refl (taken 1 (omega arith))

  C_is : take (N (ask 2)) (entry (ask 2)).output ≡ 248 ∷ 20 ∷ []
  unfolding cases by_roots
  C_is = splits (ask 2) (1 ∷ 2 ∷ []) one_and_two refl (taken 2 (omega arith))

  D_is : take (N (ask 3)) (entry (ask 3)).output ≡ 0 ∷ 256 ∷ []
  unfolding cases by_roots
  D_is = splits (ask 3) (1 ∷ 2 ∷ []) one_and_two refl (taken 3 (omega arith))

  pub fixed_against_roots : (b : ℕ → ℕ → List ℕ) → ((c : Call) → (entry c).outcome.code ≡ 0 → take (N c) (entry c).output ≡ b c.p (N c)) → ⊥
  unfolding cases placed falling factorials prod fact count except different ℤ_eq
  fixed_against_roots b h =
      let z : ◌≡◌ {A = ℕ} 242 254 = ap (λ l. get_or l 0 0) (sym A_is ∙ h (ask 0) (taken 0 (omega arith)) ∙ sym (h (ask 1) (taken 1 (omega arith))) ∙ B_is) in
      absurd (omega (arith, z))

  pub copied_against_roots : (g : ℕ → List ℕ → ℤ → ℕ → List ℕ)
      → ((c : Call) → (entry c).outcome.code ≡ 0 → take (N c) (entry c).output ≡ g c.p c.f (get_or c.places 0 (pos 0)) c.r) → ⊥
  unfolding cases
  copied_against_roots g h =
      let z : ◌≡◌ {A = ℕ} 248 0 = ap (λ l. get_or l 0 0) (sym C_is ∙ h (ask 2) (taken 2 (omega arith)) ∙ sym (h (ask 3) (taken 3 (omega arith))) ∙ D_is) in
      absurd (omega (arith, z))

-- and at any call that is taken
module _ (c : Call) (e : Exit) (a : Accepted c) (q : Promise c e) where
  -- a made-up N: the count is that of the placements
  pub made_up_number_anywhere : (e.outcome.count ≡ length (placements ℤ_eq (length c.f) (weights c)) → ⊥) → ⊥
  made_up_number_anywhere wrong = wrong (count_placements c e q ((success_exactly c e q).1 a))

  -- an output word past the N-th changed
  pub later_word_changed : (k : ℕ) → (get_or (drop (N c) e.output) k 0 ≡ get_or (drop (N c) c.output) k 0 → ⊥) → ⊥
  later_word_changed k wrong = wrong (ap (λ l. get_or l k 0) (q.done ((not_refused c).1 a)).success.later)

  -- the work room left as it is
  pub work_room_left : (take (room (N c)) e.work ≡ replicate (room (N c)) 0 → ⊥) → ⊥
  work_room_left wrong = wrong (q.done ((not_refused c).1 a)).success.zeros

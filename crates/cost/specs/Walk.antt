-- The walk over the places of a list's rest: the different weights among the places passed, which grow where a weight stands for the
-- first time, and the number of lists that are worked for them, which is at most V(r) and so fits its word.
use Rattle.std.specs.Prelude.{◌≡◌, List, [], ◌∷◌, ◌++◌, ℕ, suc, ◌+◌, ◌≤◌, ◌<◌, ◌^◌, ℤ, pos, length, take, drop, get_or}
use Rattle.std.proofs.Common.{sym, ap, ◌∙◌, le_refl, le_antisymm, add-one, arith, length-take, take-append-drop, take-suc, take_all}
use Rattle.limits.specs.Limits.{capacity}
use Rattle.algebra.specs.Integer.{ℤ_eq}
use Rattle.placements.specs.Placements.{count, different}
use Rattle.placements.specs.Places.{with_sum}
use Rattle.placements.proofs.Multiplicity.{different_nil, count_append}
use Rattle.placements.proofs.Merge.{different_new, different_old, different_length, with_sum_first}
use Rattle.weights.specs.declared.Weights.{Weights}
use Rattle.weights.specs.Lists.{listed}
use Rattle.weights.specs.Rests.{Rest}
use Rattle.definition.specs.Cost.{lists, most_lists}
use Rattle.definition.proofs.Merge.{lists_so_far, so_far_none, so_far_more, so_far_all, so_far_most, most_mono}

-- the different weights among the first j places
abbrev pub passed : List ℤ → ℕ → List ℤ
passed M j = different ℤ_eq (take j M)

-- the weight at place j
abbrev pub weight_at : List ℤ → ℕ → ℤ
weight_at M j = get_or M j (pos 0)

-- no equal weight stands before it
abbrev pub New : List ℤ → ℕ → Type 0
New M j = count ℤ_eq (weight_at M j) (take j M) ≡ 0

-- as many stand from there on as in the whole list
module _ (M : List ℤ) (j : ℕ) where
  parts : count ℤ_eq (weight_at M j) M ≡ count ℤ_eq (weight_at M j) (take j M) + count ℤ_eq (weight_at M j) (drop j M)
  parts = ap (count ℤ_eq (weight_at M j)) (sym (take-append-drop j M)) ∙ count_append ℤ_eq (weight_at M j) (take j M) (drop j M)

  pub new_here : count ℤ_eq (weight_at M j) (drop j M) ≡ count ℤ_eq (weight_at M j) M → New M j
  new_here e = omega (arith, parts, e)

  pub old_here : ¬ (count ℤ_eq (weight_at M j) (drop j M) ≡ count ℤ_eq (weight_at M j) M) → ¬ New M j
  old_here n z = n (omega (arith, parts, z))

pub passed_none : (M : List ℤ) → passed M 0 ≡ []
passed_none M = different_nil ℤ_eq

pub passed_all : (M : List ℤ) → passed M (length M) ≡ different ℤ_eq M
passed_all M = ap (different ℤ_eq) (take_all (length M) M (le_refl _))

module _ (M : List ℤ) (j : ℕ) (there : j < length M) where
  one_more : take (j + 1) M ≡ take j M ++ weight_at M j ∷ []
  one_more = rw (add-one j) (take-suc M j (pos 0) there)

  pub passed_new : New M j → passed M (j + 1) ≡ passed M j ++ weight_at M j ∷ []
  passed_new z = ap (different ℤ_eq) one_more ∙ different_new ℤ_eq (weight_at M j) (take j M) z

  pub passed_old : ¬ New M j → passed M (j + 1) ≡ passed M j
  passed_old n = ap (different ℤ_eq) one_more ∙ different_old ℤ_eq (weight_at M j) (take j M) n

-- ---- the number of lists

-- so many, when the collisions at the first j places are worked
abbrev pub walked : ℤ → List ℤ → ℕ → ℕ
walked e M j = lists_so_far e M (passed M j)

pub walked_none : (e : ℤ) (M : List ℤ) → 1 + lists M ≡ walked e M 0
walked_none e M = sym (ap (lists_so_far e M) (passed_none M) ∙ so_far_none e M)

pub walked_all : (e : ℤ) (M : List ℤ) → walked e M (length M) ≡ lists (e ∷ M)
walked_all e M = ap (lists_so_far e M) (passed_all M) ∙ so_far_all e M

-- at the end of the rest all of a list's are counted
pub walked_list : {first : ℤ} {j n : ℕ} (list rest : Weights) → Rest list rest first → j ≤ rest.len → rest.len ≤ j → n ≡ walked first (listed rest) j → n ≡ lists (listed list)
walked_list {first} {j} list rest r low high w =
    let all : j ≡ length (listed rest) = le_antisymm low high ∙ sym r.long in
    w ∙ ap (walked first (listed rest)) all ∙ walked_all first (listed rest) ∙ ap lists (sym r.whole)

module _ (e : ℤ) (M : List ℤ) (j : ℕ) (there : j < length M) where
  pub walked_new : New M j → walked e M j + lists (with_sum M j e) ≡ walked e M (j + 1)
  walked_new z = rw (with_sum_first M j e there z, passed_new M j there z) (sym (so_far_more e M (passed M j) (weight_at M j)))

  pub walked_old : ¬ New M j → walked e M j ≡ walked e M (j + 1)
  walked_old n = ap (lists_so_far e M) (sym (passed_old M j there n))

-- V(r) of the largest list is a word of 32 bits
pub walked_fits : (e : ℤ) (M : List ℤ) (j n : ℕ) → n ≡ walked e M j → length M < capacity → j ≤ length M → n < 2 ^ 32
unfolding most_lists
walked_fits e M j n w few h = omega (
  arith,
  so_far_most e M (passed M j) (omega (arith, different_length ℤ_eq (take j M), length-take j M)),
  most_mono (suc (length M)) capacity (omega arith),
)

-- What a weight list and the lists that it is told through have in common: the rest has the other weights, the rest with the
-- first weight added at a place has their sum there, and the list's rule on sizes is kept by both.
use Rattle.std.specs.Prelude.{◌≡◌, refl, [], ◌∷◌, ℕ, ◌+◌, ◌≤◌, ◌<◌, ℤ, pos, length, get_or}
use Rattle.std.proofs.Common.{ap, ◌∙◌, arith}
use Rattle.placements.specs.Places.{with_sum}
use Rattle.weights.specs.declared.Weights.{Weights}
use Rattle.weights.specs.Lists.{listed, without_at, with_sum_at}
use Rattle.weights.specs.Laws.{listed_length, listed_none, listed_first, without_len, with_sum_len}
use Rattle.weights.specs.Sizes.{Bounded, rest_bounded, collision_listed, collision_bounded}

-- the rest with the first weight added at a place
pub record Met (rest met : Weights) (first : ℤ) (j : ℕ) : Type 0 where
  pub len : met.len ≡ rest.len
  pub sum : listed met ≡ with_sum (listed rest) j first
  pub bounded : Bounded met

pub record Rest (list rest : Weights) (first : ℤ) : Type 0 where
  pub shorter : rest.len + 1 ≡ list.len
  pub whole : listed list ≡ first ∷ listed rest
  pub long : length (listed rest) ≡ rest.len
  pub bounded : Bounded rest
  pub meets : (j : ℕ) (met : Weights) → j < rest.len → met ≡ with_sum_at rest j first → Met rest met first j

module _ (list : Weights) (some : 1 ≤ list.len) (b : Bounded list) where
  rest_is : Rest list (without_at list 0) (get_or list.places 0 (pos 0))
  rest_is = record {
    shorter = omega (arith, without_len list b.full b.short 0 some);
    whole = listed_first list b.full b.short some;
    long = let r = rest_bounded list b 0 some in listed_length (without_at list 0) r.full r.short;
    bounded = rest_bounded list b 0 some;
    meets = λ j met h e. rw e (record {
      len = with_sum_len (without_at list 0) j (get_or list.places 0 (pos 0));
      sum = collision_listed list b 0 some j h;
      bounded = collision_bounded list b 0 some j h;
    });
  }

  pub rest_facts : (rest : Weights) (first : ℤ) → first ≡ get_or list.places 0 (pos 0) → rest ≡ without_at list 0 → Rest list rest first
  rest_facts rest first e h = rw (e, h) rest_is

-- a list of one weight
pub one_listed : (list : Weights) (first : ℤ) → list.len ≡ 1 → Bounded list → first ≡ get_or list.places 0 (pos 0) → listed list ≡ first ∷ []
one_listed list first one b e =
    let r = rest_facts list (omega arith) b (without_at list 0) first e refl in
    r.whole ∙ ap (λ L. first ∷ L) (listed_none (without_at list 0) (omega (arith, r.shorter)))

-- Laying weights on roots, each at a root of its own: the sum of g over the values of all ways to do so.
-- The collision theorem (`collide_add`): to lay e ∷ M is to put e anywhere and lay M, less the ways in which e meets a weight of M,
-- and those lay M with e added to that weight. By induction on the roots, since taking a weight out of "M with e added at a place"
-- takes that place or another (`collide_remove`). It is stated with a sum on both sides, so that it holds of any semiring.
use Rattle.std.specs.Prelude.{◌≡◌, ℕ, zero, suc, ◌-◌, length}
use Rattle.std.proofs.Math.Path.{refl, ap, fun_ext}
use Rattle.std.proofs.Common.{sym, ◌∙◌}
use mathlib.Core.List.Permᴰ.{cons as pcons}
use mathlib.Core.List.Permᴰ.{nil as pnil}
use mathlib.Core.List.Permᴰ.{swap as pswap}
use mathlib.Core.List.Permᴰ.{trans as ptrans}
use mathlib.Core.List.{List, [], ◌∷◌, map, Permᴰ}
use Rattle.algebra.specs.Ring.{Ops, Semi, Laws}
use Rattle.algebra.specs.Ring as R
use Rattle.algebra.specs.Power.{pow, nat, mul_pow}
use Rattle.algebra.specs.Sum.{sum, sum_zero, sum_suc, total, total_nil, total_cons, total_map, total_zeros, total_add, mul_total, total_swap}
use Rattle.algebra.specs.Binomial.{choose, expand, binomial, total_expand}
use Rattle.algebra.specs.Newton.{power_sum}

-- every way to take one weight out of a list: the weight, and what is left
unfoldable pub removals : {W : Type 0} → List W → List (W × List W)
removals [] = []
removals (w ∷ L) = (w, L) ∷ map (λ p. (p.0, w ∷ p.1)) (removals L)

-- the lists that come of M when e is added to the weight at one position, each position in turn
unfoldable pub collisions : {W : Type 0} (plus : W → W → W) (e : W) → List W → List (List W)
collisions plus e [] = []
collisions plus e (d ∷ M) = (plus d e ∷ M) ∷ map (λ M'. d ∷ M') (collisions plus e M)

-- a function of a weight and a list of weights that does not see the order of the list
abbrev pub Unordered : {A W : Type 0} → (W → List W → A) → Type 0
Unordered {A} {W} G = (w : W) (L L' : List W) → Permᴰ L L' → G w L ≡ G w L'

module _ {A : Type 0} (o : Ops A) {W : Type 0} (cast : W → A) where
  open o use {zero as 𝟘, add as ◌⊕◌, mul as ◌⊗◌}

  infixl 60 ◌⊕◌
  infixl 70 ◌⊗◌
  -- the sum of g (Σ w a) over all ways to give the weights w of L to different places a of rs
  unfoldable pub layings : List A → List W → (A → A) → A
  layings [] [] g = g 𝟘
  layings [] (w ∷ L) g = 𝟘
  layings (a ∷ rs) L g = layings rs L g ⊕ total o (removals L) (λ p. layings rs p.1 (λ v. g (cast p.0 ⊗ a ⊕ v)))

  pub layings_none : (w : W) (L : List W) (g : A → A) → layings [] (w ∷ L) g ≡ 𝟘
  unfolding layings
  layings_none w L g = refl

  pub layings_cons : (a : A) (rs : List A) (L : List W) (g : A → A)
      → layings (a ∷ rs) L g ≡ layings rs L g ⊕ total o (removals L) (λ p. layings rs p.1 (λ v. g (cast p.0 ⊗ a ⊕ v)))
  unfolding layings
  layings_cons a rs L g = refl

module _ {A : Type 0} {o : Ops A} (s : Semi o) {W : Type 0} where
  open o use {zero as 𝟘, add as ◌⊕◌, mul as ◌⊗◌}

  infixl 60 ◌⊕◌
  infixl 70 ◌⊗◌
  pub removals_nil : (F : W × List W → A) → total o (removals []) F ≡ 𝟘
  unfolding removals
  removals_nil F = total_nil o F

  pub removals_cons : (w : W) (L : List W) (F : W × List W → A)
      → total o (removals (w ∷ L)) F ≡ F (w, L) ⊕ total o (removals L) (λ p. F (p.0, w ∷ p.1))
  unfolding removals
  removals_cons w L F = simp (total_cons o, total_map o)

  pub collisions_nil : (plus : W → W → W) (e : W) (F : List W → A) → total o (collisions plus e []) F ≡ 𝟘
  unfolding collisions
  collisions_nil plus e F = total_nil o F

  pub collisions_cons : (plus : W → W → W) (e d : W) (M : List W) (F : List W → A)
      → total o (collisions plus e (d ∷ M)) F ≡ F (plus d e ∷ M) ⊕ total o (collisions plus e M) (λ M'. F (d ∷ M'))
  unfolding collisions
  collisions_cons plus e d M F = simp (total_cons o, total_map o)

  -- each list that is left is one shorter than L
  pub removals_cong : (L : List W) (F G : W × List W → A) → ((p : W × List W) → suc (length p.1) ≡ length L → F p ≡ G p) → total o (removals L) F ≡ total o (removals L) G
  removals_cong [] F G h = simp removals_nil
  removals_cong (w ∷ L) F G h = rw (removals_cons w L F, removals_cons w L G, h (w, L) refl)
      (ap (λ x. G (w, L) ⊕ x) (removals_cong L (λ p. F (p.0, w ∷ p.1)) (λ p. G (p.0, w ∷ p.1)) (λ p q. h (p.0, w ∷ p.1) (ap suc q))))

  -- ---- the order of the weights does not matter
  pub cons_unordered : (x : W) (G : W → List W → A) → Unordered G → Unordered (λ w L. G w (x ∷ L))
  cons_unordered x G u w L L' p = u w (x ∷ L) (x ∷ L') (pcons refl p)

  pub removals_perm : (G : W → List W → A) → Unordered G → {L L' : List W} → Permᴰ L L'
      → total o (removals L) (λ p. G p.0 p.1) ≡ total o (removals L') (λ p. G p.0 p.1)
  removals_perm G u pnil = refl
  removals_perm G u (pcons {a = a} {b = b} {l₁ = L} {l₂ = L'} e p) =
      rw e (simp (removals_cons, u b L L' p) (ap (λ x. G b L' ⊕ x) (removals_perm (λ w L. G w (b ∷ L)) (cons_unordered b G u) p)))
  removals_perm G u (pswap {a = a} {b = b} {l = L} e f) =
      rw (← e, ← f) (simp (removals_cons, R.add_left_comm s (G a (b ∷ L)))
      (ap (λ x. G b (a ∷ L) ⊕ (G a (b ∷ L) ⊕ total o (removals L) x)) (fun_ext (λ p. u p.0 (a ∷ b ∷ p.1) (b ∷ a ∷ p.1) (pswap refl refl)))))
  removals_perm G u (ptrans p q) = removals_perm G u p ∙ removals_perm G u q

  module _ (cast : W → A) where
    none_perm : {L L' : List W} → Permᴰ L L' → (g : A → A) → layings o cast [] L g ≡ layings o cast [] L' g
    none_perm pnil g = refl
    none_perm (pcons e p) g = simp (layings_none o cast)
    none_perm (pswap e f) g = simp (layings_none o cast)
    none_perm (ptrans p q) g = none_perm p g ∙ none_perm q g

    pub layings_perm : (rs : List A) (g : A → A) {L L' : List W} → Permᴰ L L' → layings o cast rs L g ≡ layings o cast rs L' g
    layings_perm [] g p = none_perm p g
    layings_perm (a ∷ rs) g {L} {L'} p = rw (layings_cons o cast a rs L, layings_cons o cast a rs L', layings_perm rs g p)
        (ap (λ x. layings o cast rs L' g ⊕ x) (removals_perm (λ w M. layings o cast rs M (λ v. g (cast w ⊗ a ⊕ v))) (λ w M M' q. layings_perm rs (λ v. g (cast w ⊗ a ⊕ v)) q) p))

    -- ---- no weights, and sums of g
    pub layings_empty : (rs : List A) (g : A → A) → layings o cast rs [] g ≡ g 𝟘
    layings_empty [] g = unfold layings in refl
    layings_empty (a ∷ rs) g = rw (layings_cons o cast a rs [] g, removals_nil, R.add-zero s) (layings_empty rs g)

    pub layings_zero : (rs : List A) (L : List W) → layings o cast rs L (λ v. 𝟘) ≡ 𝟘
    layings_zero [] [] = layings_empty [] _
    layings_zero [] (w ∷ L) = layings_none o cast w L _
    layings_zero (a ∷ rs) L = simp (layings_cons o cast, layings_zero rs, total_zeros s, R.zero-add s)

    pub layings_add : (rs : List A) (L : List W) (g h : A → A) → layings o cast rs L (λ v. g v ⊕ h v) ≡ layings o cast rs L g ⊕ layings o cast rs L h
    layings_add [] [] g h = simp layings_empty
    layings_add [] (w ∷ L) g h = simp (layings_none o cast, R.zero-add s)
    layings_add (a ∷ rs) L g h = simp (layings_cons o cast, layings_add rs, total_add s, R.sums, s)

    pub layings_mul : (rs : List A) (L : List W) (c : A) (g : A → A) → layings o cast rs L (λ v. c ⊗ g v) ≡ c ⊗ layings o cast rs L g
    layings_mul [] [] c g = simp layings_empty
    layings_mul [] (w ∷ L) c g = simp (layings_none o cast, R.mul-zero s)
    layings_mul (a ∷ rs) L c g = simp (layings_cons o cast, layings_mul rs, R.mul-add s, mul_total s)

    pub layings_sum : (rs : List A) (L : List W) (n : ℕ) (G : ℕ → A → A) → layings o cast rs L (λ v. sum o n (λ i. G i v)) ≡ sum o n (λ i. layings o cast rs L (G i))
    layings_sum rs L zero G = simp (sum_zero o) (layings_zero rs L)
    layings_sum rs L (suc n) G = simp (sum_suc o, layings_add, layings_sum rs L n G)

    layings_expand : (rs : List A) (L : List W) (k : ℕ) (G : ℕ → ℕ → A → A)
        → layings o cast rs L (λ v. expand o k (λ i j. G i j v)) ≡ expand o k (λ i j. layings o cast rs L (G i j))
    unfolding expand
    layings_expand rs L k G = layings_sum rs L (suc k) (λ i v. nat o (choose k i) ⊗ G i (k - i) v) ∙ simp layings_mul

    -- one weight's part, expanded
    expanded : (rs : List A) (e : W) (M : List W) (k : ℕ)
        → total o rs (λ b. layings o cast rs M (λ v. pow o (cast e ⊗ b ⊕ v) k)) ≡ expand o k (λ i j. pow o (cast e) i ⊗ power_sum o rs i ⊗ layings o cast rs M (λ v. pow o v j))
    unfolding power_sum
    expanded rs e M k =
        ap (total o rs) (fun_ext (λ b. ap (layings o cast rs M) (fun_ext (λ v. binomial s (cast e ⊗ b) v k))
        ∙ layings_expand rs M k (λ i j v. pow o (cast e ⊗ b) i ⊗ pow o v j)
        ∙ simp (layings_mul, mul_pow s)))
        ∙ total_expand s rs k _
        ∙ ap (expand o k) (fun_ext (λ i. fun_ext (λ j. between (pow o (cast e) i) _ (λ b. pow o b i))))
      where
        between : (a c : A) (f : A → A) → total o rs (λ b. a ⊗ f b ⊗ c) ≡ a ⊗ total o rs f ⊗ c
        between a c f = rw (R.mul_comm s (a ⊗ total o rs f) c, mul_total s a, mul_total s c) (ap (total o rs) (fun_ext (λ b. R.mul_comm s (a ⊗ f b) c)))

module _ {A : Type 0} {o : Ops A} (s : Semi o) {W : Type 0} (plus : W → W → W) where
  open o use {zero as 𝟘, add as ◌⊕◌, mul as ◌⊗◌}

  infixl 60 ◌⊕◌
  infixl 70 ◌⊗◌
  -- ---- the collision theorem

  -- after a collision either the weight that was met is taken out, or another one
  pub collide_remove : (e : W) (M : List W) (F : W → List W → A)
      → total o (collisions plus e M) (λ M'. total o (removals M') (λ p. F p.0 p.1))
      ≡ total o (removals M) (λ p. F (plus p.0 e) p.1) ⊕ total o (removals M) (λ p. total o (collisions plus e p.1) (λ M'. F p.0 M'))
  collide_remove e [] F = simp (collisions_nil s, removals_nil s, R.zero-add s)
  collide_remove e (d ∷ M) F = simp (collisions_cons s, removals_cons s, total_add s, collide_remove e M (λ w M'. F w (d ∷ M')), R.semiring, s)

  module _ (cast : W → A) (cast_plus : (d e : W) → cast (plus d e) ≡ cast d ⊕ cast e) where
    -- no places: a list that is not empty has nowhere to go
    collisions_none : (e : W) (M : List W) (g : A → A) → total o (collisions plus e M) (λ M'. layings o cast [] M' g) ≡ 𝟘
    collisions_none e [] g = simp (collisions_nil s)
    collisions_none e (d ∷ M) g = simp (collisions_cons s, layings_none o cast, total_zeros s, R.zero-add s)

    cast_both : (d e : W) (a v : A) → cast (plus d e) ⊗ a ⊕ v ≡ cast e ⊗ a ⊕ (cast d ⊗ a ⊕ v)
    cast_both d e a v = rw cast_plus (simp (R.semiring, s))

    rearrange : (i r t b c d p q : A) → i ⊕ b ≡ p → r ⊕ d ≡ q → (i ⊕ (t ⊕ r)) ⊕ (b ⊕ (c ⊕ d)) ≡ (t ⊕ c) ⊕ (p ⊕ q)
    rearrange i r t b c d p q h k = rw (← h, ← k) (simp (R.semiring, s))

    pub collide_add : (rs : List A) (e : W) (M : List W) (g : A → A)
        → layings o cast rs (e ∷ M) g ⊕ total o (collisions plus e M) (λ M'. layings o cast rs M' g)
        ≡ total o rs (λ b. layings o cast rs M (λ v. g (cast e ⊗ b ⊕ v)))
    collide_add [] e M g = simp (layings_none o cast, collisions_none, total_nil o, R.zero-add s)
    collide_add (a ∷ rs) e M g =
        simp (layings_cons o cast, total_cons o, removals_cons s, total_add s, collide_remove e M (λ w M'. layings o cast rs M' (λ v. g (cast w ⊗ a ⊕ v))), cast_both)
        (rearrange _ _ _ _ _ _ _ _ (collide_add rs e M g)
        (sym (total_add s (removals M) _ _)
        ∙ ap (total o (removals M)) (fun_ext (λ p. collide_add rs e p.1 (λ v. g (cast p.0 ⊗ a ⊕ v))))
        ∙ total_swap s (removals M) rs _
        ∙ simp (R.add_left_comm s)))

module _ {A : Type 0} {o : Ops A} (l : Laws o) {W : Type 0} (plus : W → W → W) (cast : W → A) (cast_plus : (d e : W) → cast (plus d e) ≡ o.add (cast d) (cast e)) where
  open o use {add as ◌⊕◌, mul as ◌⊗◌, neg as ⊖◌}

  infixl 60 ◌⊕◌
  infixl 70 ◌⊗◌
  infix 80 ⊖◌
  -- for the k-th powers, with the collisions taken away
  pub collide_powers : (rs : List A) (e : W) (M : List W) (k : ℕ)
      → layings o cast rs (e ∷ M) (λ v. pow o v k)
      ≡ expand o k (λ i j. pow o (cast e) i ⊗ power_sum o rs i ⊗ layings o cast rs M (λ v. pow o v j)) ⊕ ⊖ total o (collisions plus e M) (λ M'. layings o cast rs M' (λ v. pow o v k))
  collide_powers rs e M k = R.eq_sub l _ _ _ (collide_add l.semi plus cast cast_plus rs e M (λ v. pow o v k)) ∙ rw (expanded l.semi cast rs e M k)

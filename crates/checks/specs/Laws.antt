-- How a table is read: row by row, since a row whose test fails can be left out, and part by part, since a part that gives no number
-- can be. Then a number is given exactly when its row's test holds and no earlier one does.
use Rattle.std.specs.Prelude.{◌≡◌, refl, Bool, true, false, not, ◌&&◌, ◌||◌, ◌↔◌, ℕ, zero, suc, ◌≤◌, ◌<◌, eqb, ltb, length}
use Rattle.std.proofs.Common.{sym, ap, ◌∙◌, arith, eq-eqb, ltb-true}
use Rattle.std.proofs.lemmas.Bool.{false≢true}
use mathlib.Core.List.{List, [], ◌∷◌, ◌++◌, map, Memᴰ}
use Rattle.std.proofs.Math.Decide.{ℕ_discrete}
use Rattle.checks.specs.Checks.{Table, first, row, Free, Numbered, some_below, Answers}

-- ---- tests
pub or_left : {a : Bool} (b : Bool) → a ≡ true → (a || b) ≡ true
or_left b e = rw e

pub or_right : (a : Bool) {b : Bool} → b ≡ true → (a || b) ≡ true
or_right true e = refl
or_right false e = e

pub or_none : {a b : Bool} → a ≡ false → b ≡ false → (a || b) ≡ false
or_none {a} {b} e f = rw (e, f)

pub neither : (a b : Bool) → (a || b) ≡ false → (a ≡ false) × (b ≡ false)
neither true b e = absurd (false≢true (sym e))
neither false b e = (refl, e)

-- two tests for the same thing give the same answer
pub same_test : {P : Type 0} {a b : Bool} → (a ≡ true) ↔ P → (b ≡ true) ↔ P → a ≡ b
same_test {a = true} f g = sym (g.1 (f.0 refl))
same_test {a = false} {b = true} f g = f.1 (g.0 refl)
same_test {a = false} {b = false} f g = refl

pub none_below : (t : ℕ → Bool) (n : ℕ) → some_below t n ≡ false → (i : ℕ) → i < n → t i ≡ false
unfolding some_below
none_below t zero e i h = absurd (omega arith)
none_below t (suc n) e i h = elim (ℕ_discrete i n) [
  | yes q ↦ rw q (neither (t n) _ e).0
  | no q ↦ none_below t n (neither (t n) _ e).1 i (omega arith)
]

pub below_none : (t : ℕ → Bool) (n : ℕ) → ((i : ℕ) → i < n → t i ≡ false) → some_below t n ≡ false
unfolding some_below
below_none t zero h = refl
below_none t (suc n) h = or_none (h n (omega arith)) (below_none t n (λ i b. h i (omega arith)))

pub some_here : (t : ℕ → Bool) (n i : ℕ) → i < n → t i ≡ true → some_below t n ≡ true
unfolding some_below
some_here t zero i h e = absurd (omega arith)
some_here t (suc n) i h e = elim (ℕ_discrete i n) [
  | yes q ↦ rw (← q, e)
  | no q ↦ or_right (t n) (some_here t n i (omega arith) e)
]

-- ---- rows
pub first_nil : first [] ≡ 0
unfolding first
first_nil = refl

pub first_holds : {t : Bool} (k : ℕ) (rest : Table) → t ≡ true → first ((t, k) ∷ rest) ≡ k
unfolding first
first_holds k rest e = rw e

pub first_passes : {t : Bool} (k : ℕ) (rest : Table) → t ≡ false → first ((t, k) ∷ rest) ≡ first rest
unfolding first
first_passes k rest e = rw e

-- what a row says to code that returns its number: its test holds, and those of the rows before it fail
pub row_here : {t : Bool} (k : ℕ) (rest : Table) → t ≡ true → k ≡ first ((t, k) ∷ rest)
row_here k rest e = sym (first_holds k rest e)

pub row_later : {t : Bool} {n : ℕ} (k : ℕ) (rest : Table) → t ≡ false → n ≡ first rest → n ≡ first ((t, k) ∷ rest)
row_later k rest e h = h ∙ sym (first_passes k rest e)

pub row_none : 0 ≡ first []
row_none = sym first_nil

-- where no number is given, the first test fails
pub first_clear : (t : Bool) (k : ℕ) (rest : Table) → 0 < k → first ((t, k) ∷ rest) ≡ 0 → (t ≡ false) × (first rest ≡ 0)
unfolding first
first_clear true k rest h e = absurd (omega arith)
first_clear false k rest h e = (refl, e)

-- the number is 0 or that of a row
pub first_listed : (rows : Table) → Memᴰ (first rows) (0 ∷ map (λ r. r.1) rows)
unfolding first
first_listed [] = Memᴰ.head refl
first_listed ((true, k) ∷ rows) = Memᴰ.tail (Memᴰ.head refl)
first_listed ((false, k) ∷ rows) = later (first_listed rows)
  where
    later : {x : ℕ} {xs : List ℕ} → Memᴰ x (0 ∷ xs) → Memᴰ x (0 ∷ k ∷ xs)
    later (Memᴰ.head e) = Memᴰ.head e
    later (Memᴰ.tail m) = Memᴰ.tail (Memᴰ.tail m)

-- no number is above the largest
abbrev AtMost : ℕ → Table → Type 0
AtMost m [] = Unit {0}
AtMost m ((t, k) ∷ rows) = (k ≤ m) × AtMost m rows

pub first_at_most : (m : ℕ) (rows : Table) → AtMost m rows → first rows ≤ m
unfolding first
first_at_most m [] h = omega arith
first_at_most m ((true, k) ∷ rows) h = h.0
first_at_most m ((false, k) ∷ rows) h = first_at_most m rows h.1

pub row_at_most : (m : ℕ) (rows : Table) → AtMost m rows → (j : ℕ) → j < length rows → (row rows j).1 ≤ m
row_at_most m [] h j l = omega arith
row_at_most m ((t, k) ∷ rows) h zero l = h.0
row_at_most m ((t, k) ∷ rows) h (suc j) l = row_at_most m rows h.1 j (omega arith)

-- ---- parts
-- a number that the first part gives, the table gives
pub first_given : (rows more : Table) → (first rows ≡ 0 → ⊥) → first (rows ++ more) ≡ first rows
unfolding first
first_given [] more n = absurd (n refl)
first_given ((true, k) ∷ rows) more n = refl
first_given ((false, k) ∷ rows) more n = first_given rows more n

-- where it gives none, the rest decides
pub first_none : (rows : Table) → Numbered rows → (more : Table) → first rows ≡ 0 → first (rows ++ more) ≡ first more
unfolding first
first_none [] r more e = refl
first_none ((true, k) ∷ rows) r more e = absurd (omega (arith, r.0))
first_none ((false, k) ∷ rows) r more e = first_none rows r.2 more e

pub first_both : (rows : Table) → Numbered rows → (more : Table) → first (rows ++ more) ≡ 0 → (first rows ≡ 0) × (first more ≡ 0)
unfolding first
first_both [] r more e = (refl, e)
first_both ((true, k) ∷ rows) r more e = absurd (omega (arith, r.0))
first_both ((false, k) ∷ rows) r more e = first_both rows r.2 more e

-- and what a part says to code that returns its number
pub part_here : {k : ℕ} (rows more : Table) → k ≡ first rows → (k ≡ 0 → ⊥) → k ≡ first (rows ++ more)
part_here rows more e n = e ∙ sym (first_given rows more (λ z. n (e ∙ z)))

pub part_later : {k n : ℕ} (rows more : Table) → Numbered rows → k ≡ first rows → k ≡ 0 → n ≡ first more → n ≡ first (rows ++ more)
part_later rows more r e z h = h ∙ sym (first_none rows r more (sym e ∙ z))

-- the rest matters by its number only
pub first_same : (rows a b : Table) → first a ≡ first b → first (rows ++ a) ≡ first (rows ++ b)
unfolding first
first_same [] a b e = e
first_same ((true, k) ∷ rows) a b e = refl
first_same ((false, k) ∷ rows) a b e = first_same rows a b e

-- ---- numbers
-- a number that no row has is not given
first_free : (k : ℕ) (rows : Table) → 0 < k → Free k rows → first rows ≡ k → ⊥
unfolding first
first_free k [] h f e = omega arith
first_free k ((true, n) ∷ rows) h f e = f.0 e
first_free k ((false, n) ∷ rows) h f e = first_free k rows h f.1 e

row_free : (k : ℕ) (rows : Table) → Free k rows → (j : ℕ) → j < length rows → (row rows j).1 ≡ k → ⊥
row_free k [] f j h e = omega arith
row_free k ((t, n) ∷ rows) f zero h e = f.0 e
row_free k ((t, n) ∷ rows) f (suc j) h e = row_free k rows f.1 j (omega arith) e

pub row_not_zero : (rows : Table) → Numbered rows → (j : ℕ) → j < length rows → (row rows j).1 ≡ 0 → ⊥
row_not_zero [] r j h e = omega arith
row_not_zero ((t, n) ∷ rows) r zero h e = omega (arith, r.0)
row_not_zero ((t, n) ∷ rows) r (suc j) h e = row_not_zero rows r.2 j (omega arith) e

-- the number of a row is given exactly when its test holds and no earlier one does
pub first_exactly : (rows : Table) → Numbered rows → (j : ℕ) → j < length rows
    → (first rows ≡ (row rows j).1) ↔ (((row rows j).0 ≡ true) × ((i : ℕ) → i < j → (row rows i).0 ≡ false))
unfolding first
first_exactly [] r j h = absurd (omega arith)
first_exactly ((true, k) ∷ rows) r zero h = (λ e. (refl, λ i a. absurd (omega arith)), λ e. refl)
first_exactly ((false, k) ∷ rows) r zero h = (λ e. absurd (first_free k rows r.0 r.1 e), λ e. absurd (false≢true e.0))
first_exactly ((true, k) ∷ rows) r (suc j) h = (
  λ e. absurd (row_free k rows r.1 j (omega arith) (sym e)),
  λ e. absurd (false≢true (sym (e.1 0 (omega arith)))),
)
first_exactly ((false, k) ∷ rows) r (suc j) h =
    let i = first_exactly rows r.2 j (omega arith) in
    (λ e. let g = i.0 e in (g.0, λ n a. earlier n a g.1), λ e. i.1 (e.0, λ n a. e.1 (suc n) (omega arith)))
  where
    earlier : (n : ℕ) → n < suc j → ((i : ℕ) → i < j → (row rows i).0 ≡ false) → (row ((false, k) ∷ rows) n).0 ≡ false
    earlier zero a g = refl
    earlier (suc n) a g = g n (omega arith)

-- Whether a table is numbered, as a test that computes: it reads the numbers, not the rows' tests.
unfoldable free_test : ℕ → Table → Bool
free_test k [] = true
free_test k ((t, n) ∷ rest) = not (eqb n k) && free_test k rest

unfoldable pub numbered_test : Table → Bool
unfolding free_test
numbered_test [] = true
numbered_test ((t, k) ∷ rest) = ltb 0 k && (free_test k rest && numbered_test rest)

both : (a b : Bool) → (a && b) ≡ true → (a ≡ true) × (b ≡ true)
both true b e = (refl, e)
both false b e = absurd (false≢true e)

free_right : (k : ℕ) (rows : Table) → free_test k rows ≡ true → Free k rows
unfolding free_test
free_right k [] e = tt
free_right k ((t, n) ∷ rows) e = let b = both (not (eqb n k)) _ e in (λ q. false≢true (sym (ap not (eq-eqb n k q)) ∙ b.0), free_right k rows b.1)

pub numbered_right : (rows : Table) → numbered_test rows ≡ true → Numbered rows
unfolding numbered_test
numbered_right [] e = tt
numbered_right ((t, k) ∷ rows) e =
    let a = both (ltb 0 k) _ e in
    let b = both (free_test k rows) _ a.1 in
    (ltb-true 0 k a.0, free_right k rows b.0, numbered_right rows b.1)

-- ---- promises
-- two ends of a call that an entry's promise allows are equal, where two refusals are and two successes are
pub answers_decide : {X : Type 0} {number : ℕ} (code : X → ℕ) (Refused Done : X → Type 0)
    → ((number ≡ 0 → ⊥) → (x y : X) → code x ≡ code y → Refused x → Refused y → x ≡ y)
    → (number ≡ 0 → (x y : X) → code x ≡ code y → Done x → Done y → x ≡ y)
    → (x y : X) → Answers number (code x) (Refused x) (Done x) → Answers number (code y) (Refused y) (Done y) → x ≡ y
answers_decide {number = number} code Refused Done r d x y p q =
    let same = p.code ∙ sym q.code in
    elim (ℕ_discrete number 0) [
      | yes z ↦ d z x y same (p.done z) (q.done z)
      | no n ↦ r n x y same (p.refused n) (q.refused n)
    ]

-- a promise at one number is one at an equal number
pub answers_moved : {number number' code : ℕ} {Refused Refused' Done Done' : Type 0} → number ≡ number' → (Refused → Refused') → (number' ≡ 0 → Done → Done')
    → Answers number code Refused Done → Answers number' code Refused' Done'
answers_moved e r d p = record { code = p.code ∙ e; refused = λ n. r (p.refused (λ z. n (sym e ∙ z))); done = λ z. d z (p.done (e ∙ z)) }

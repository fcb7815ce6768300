-- A spelling and a scanner are each other's inverse by two laws: what is spelt is read, where it ends, and what is read was spelt.
-- From the second, the place behind what is read is within the text.
use Rattle.std.specs.Prelude.{ℕ, suc, ◌+◌, ◌≤◌, ◌<◌, ◌≡◌, refl, Bool, true, false, cond, List, [], ◌∷◌, ◌++◌, length, get_or, drop}
use Rattle.std.proofs.Common.{◌∙◌, ap, append_assoc, arith, length-append, drop-cons}
use Rattle.std.proofs.Math.Decide.{dec_lt}
use Rattle.std.proofs.Math.ListN.{get_or-eq_default}
use Rattle.std.proofs.Math.Seq.{drop-append_seam}
use Rattle.decimal.specs.Scan.{Got, and_then, bad, digit_of, got, refused}

-- t begins with l, and i is the place behind it
pub record Begins (l t : List ℕ) (i : ℕ) : Type 0 where
  pub behind : List ℕ
  pub whole : t ≡ l ++ behind
  pub place : i ≡ length l

-- a text at whose front no digit stands: the empty one too
abbrev pub Ends : List ℕ → Type 0
Ends t = 9 < digit_of (get_or t 0 0)

pub record Scans {A : Type 0} (Ok : A → Type 0) (spell : A → List ℕ) (item : List ℕ → Got A) : Type 0 where
  pub complete : (v : A) (t : List ℕ) → Ok v → Ends t → item (spell v ++ t) ≡ got v (length (spell v))
  pub sound : (t : List ℕ) (v : A) (i : ℕ) → item t ≡ got v i → Begins (spell v) t i × Ok v

pub never_got : {A : Type 0} {v : A} {i n : ℕ} → ◌≡◌ {A = Got A} (refused n) (got v i) → ⊥
never_got h = let z : ◌≡◌ {A = ℕ} 0 1 = cc in omega arith

pub never_true : false ≡ true → ⊥
never_true h = let z : ◌≡◌ {A = ℕ} 0 1 = cc in omega arith

-- what a scanner that found something went through: a part, a test that it passed, a test that refuses
pub then_got : {A B : Type 0} {f : A → ℕ → Got B} {v : B} {i : ℕ} (g : Got A) → and_then g f ≡ got v i → (u : A) × (j : ℕ) × (g ≡ got u j) × (f u j ≡ got v i)
then_got (got u j) h = (u, j, refl, h)
then_got (refused n) h = absurd (never_got h)

pub passed_got : {A : Type 0} {x : Got A} {v : A} {i : ℕ} (b : Bool) → cond b x bad ≡ got v i → (b ≡ true) × (x ≡ got v i)
passed_got true h = (refl, h)
passed_got false h = absurd (never_got h)

pub spared_got : {A : Type 0} {x : Got A} {v : A} {i : ℕ} (b : Bool) → cond b bad x ≡ got v i → (b ≡ false) × (x ≡ got v i)
spared_got true h = absurd (never_got h)
spared_got false h = (refl, h)

-- two findings that are one have the same properties
pub got_as : {A : Type 0} (P : A → ℕ → Type 0) {u v : A} {i j : ℕ} → got u i ≡ got v j → P u i → P v j
got_as P {u} {v} {i} {j} h p = let a : u ≡ v = cc in let b : i ≡ j = cc in rw (← a, ← b) p

pub begins_within : {l t : List ℕ} {i : ℕ} → Begins l t i → i ≤ length t
begins_within {l} b = omega (arith, b.place, ap length b.whole, length-append l b.behind)

-- a byte other than 0 is within the text
pub byte_within : (t : List ℕ) (i b : ℕ) → get_or t i 0 ≡ b → 0 < b → i < length t
byte_within t i b e p = elim (dec_lt i (length t)) [
  | yes q ↦ q
  | no q ↦
      let z : get_or t i 0 ≡ 0 = get_or-eq_default t 0 (omega arith) in
      absurd (omega arith)
]

-- one behind the other
pub begins_then : {l m t : List ℕ} {i j : ℕ} → Begins l t i → Begins m (drop i t) j → Begins (l ++ m) t (i + j)
begins_then {l} {m} f g =
    let d = drop-append_seam l f.behind in
    record {
      behind = g.behind;
      whole = f.whole ∙ rw (← d, ← f.place, ← f.whole, g.whole, append_assoc);
      place = omega (arith, f.place, g.place, length-append l m);
    }

pub begins_byte : (t : List ℕ) (i b : ℕ) → get_or t i 0 ≡ b → 0 < b → Begins (b ∷ []) (drop i t) 1
begins_byte t i b e p = record { behind = drop (suc i) t; whole = rw (← e) (drop-cons t i 0 (byte_within t i b e p)); place = refl }

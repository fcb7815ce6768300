-- The loop of the list reader. After n items, reading the whole is going on from the place reached, with the first n of out as the
-- items so far. A turn reads an item and the byte behind it: a line feed ends the list, a comma leads to the next turn, and any
-- other byte refuses.
use Rattle.std.proofs.Common.{◌≡◌, sym, ◌∙◌, ap, cond, ℕ, suc, ◌+◌, ◌-◌, ◌≤◌, ◌<◌, List, [], ◌∷◌, ◌++◌, Some, None, length, get_or, take, drop, set, eqb}
use Rattle.std.proofs.Common.{arith, length-drop, length-set, take_all, drop-drop, ne_eqb}
use Rattle.std.proofs.Math.Nat.{sub-zero}
use Rattle.std.proofs.lemmas.List.{take_more_set}
use Rattle.decimal.specs.Scan.{Got, ListRead, bad, got, more_items, read_list}
use Rattle.decimal.specs.Scans.{Scans, begins_within, byte_within}

-- `&t[at..]`, as the borrow checker has it
abbrev pub rest : List ℕ → ℕ → List ℕ
rest t at = take (length t - at) (drop at t)

pub rest_is : (t : List ℕ) (at : ℕ) → rest t at ≡ drop at t
rest_is t at = take_all (length t - at) (drop at t) (omega (arith, length-drop at t))

pub rest_length : (t : List ℕ) (at : ℕ) → length (rest t at) ≡ length t - at
rest_length t at = ap length (rest_is t at) ∙ length-drop at t

-- after n items, of which there may be `most`
pub record Reading {A : Type 0} (item : List ℕ → Got A) (t : List ℕ) (most : ℕ) (out : List A) (n at : ℕ) : Type 0 where
  pub place : at ≤ length t
  pub so : read_list item most t ≡ more_items item (most - n) (drop at t) (take n out) at

-- a turn: the item v of k bytes, and the byte b behind it
pub record ItemRead {A : Type 0} (item : List ℕ → Got A) (t : List ℕ) (most : ℕ) (out : List A) (n at : ℕ) (v : A) (k b : ℕ) : Type 0 where
  pub reading : Reading item t most out n at
  pub size : length out ≡ most
  pub room : n < most
  pub found : got v k ≡ item (rest t at)
  pub byte : b ≡ get_or (rest t at) k 0

pub reading_none : {A : Type 0} (item : List ℕ → Got A) (t : List ℕ) (most : ℕ) (out : List A) → Reading item t most out 0 0
reading_none item t most out = record { place = omega arith; so = simp sub-zero }

module _ {A : Type 0} {item : List ℕ → Got A} {t : List ℕ} {most : ℕ} {out : List A} {n at : ℕ} where
  pub full : Reading item t most out n at → most ≤ n → ListRead (read_list item most t) None out
  full w h = let z : most - n ≡ 0 = omega arith in record { found = rw (w.so, z); fits = omega arith }

  turned : Reading item t most out n at → n < most → read_list item most t ≡ more_items item (suc (most - (n + 1))) (rest t at) (take n out) at
  turned w h = let z : most - n ≡ suc (most - (n + 1)) = omega arith in rw (w.so, z, rest_is t at)

  -- whatever out holds then
  pub no_item : Reading item t most out n at → n < most → bad ≡ item (rest t at) → (now : List A) → ListRead (read_list item most t) None now
  no_item w h e now = record { found = rw (turned w h, ← e); fits = omega arith }

  module _ {v : A} {k b : ℕ} (u : ItemRead item t most out n at v k b) where
    taken : read_list item most t ≡
        cond (eqb b 10) (got (take n out ++ (v ∷ [])) (at + (k + 1)))
        (cond (eqb b 44) (more_items item (most - (n + 1)) (drop (k + 1) (drop at t)) (take n out ++ (v ∷ [])) (at + (k + 1))) bad)
    taken = rw (turned u.reading u.room, ← u.found, u.byte, rest_is t at)

    stored : take (n + 1) (set out n v) ≡ take n out ++ (v ∷ [])
    stored = take_more_set out n v (omega (arith, u.size, u.room))

    pub ended : b ≡ 10 → ListRead (read_list item most t) (Some (n + 1, at + (k + 1))) (set out n v)
    ended p = record { found = rw (taken, p, stored); fits = simp length-set (omega (arith, u.size, u.room)) }

    pub other : (b ≡ 10 → ⊥) → (b ≡ 44 → ⊥) → ListRead (read_list item most t) None (set out n v)
    other p q = record { found = rw (taken, ne_eqb _ _ p, ne_eqb _ _ q); fits = omega arith }

    -- the place behind the item is within the text, and the place behind a comma too
    pub item_fits : {Ok : A → Type 0} {spell : A → List ℕ} → Scans Ok spell item → at + k ≤ length t
    item_fits R = omega (arith, begins_within (R.sound (rest t at) v k (sym u.found)).0, rest_length t at, u.reading.place)

    pub more : b ≡ 44 → Reading item t most (set out n v) (n + 1) (at + (k + 1))
    more q = record {
      place = omega (arith, byte_within (rest t at) k 44 (sym u.byte ∙ q) (omega arith), rest_length t at);
      so = rw (taken, ne_eqb b 10 (λ p. omega arith), q, drop-drop, stored);
    }

-- The laws of a line of items, from those of one item: behind each item stands a comma or the line feed, neither of which goes on an item,
-- so the line is read item by item.
use Prim.Native.Nat.{ℕ, zero, suc, ◌+◌, ◌≤◌, ◌<◌}
use Rattle.std.specs.Prelude.{◌≡◌, eqb, length, get_or}
use Rattle.std.proofs.Math.Path.{refl, ap, ap₂}
use Rattle.std.proofs.Common.{◌∙◌, eqb-true, ne_eqb}
use mathlib.Core.List.{List, [], ◌∷◌, ◌++◌, append_assoc}
use native.Mathlib.Omega.{arith}
use Rattle.std.proofs.Math.Decide.{ℕ_discrete}
use Rattle.std.proofs.Math.ListN.{drop, length-append}
use Rattle.std.proofs.Math.Seq.{drop-append-add, get_or-append_seam}
use Rattle.decimal.specs.Spelling.{Each, after, line}
use Rattle.decimal.specs.Scan.{Got, digit_of, got, more_items, read_list}
use Rattle.decimal.specs.Scans.{Begins, Scans, begins_byte, begins_then, got_as, never_got, passed_got, then_got}

module _ {A : Type 0} (Ok : A → Type 0) (spell : A → List ℕ) (item : List ℕ → Got A) (R : Scans Ok spell item) where
  -- ---- what is written is read
  items_complete : (xs : List A) (x : A) (k : ℕ) (t : List ℕ) (acc : List A) (at : ℕ) → length xs < k → Ok x → Each Ok xs →
      more_items item k (spell x ++ (after spell xs ++ t)) acc at ≡ got (acc ++ (x ∷ xs)) (at + length (spell x ++ after spell xs))
  unfolding after digit_of
  items_complete xs x zero t acc at h o os = absurd (omega arith)
  items_complete [] x (suc k) t acc at h o os =
      rw (R.complete x (10 ∷ t) o (omega arith), get_or-append_seam, length-append)
  items_complete (y ∷ ys) x (suc k) t acc at h o os =
      let l = spell x in
      let r : List ℕ = spell y ++ after spell ys in
      let u : List ℕ = spell y ++ (after spell ys ++ t) in
      let w : r ++ t ≡ u = append_assoc (spell y) (after spell ys) t in
      let d : drop (length l + 1) (l ++ (44 ∷ u)) ≡ u = drop-append-add l (44 ∷ u) 1 in
      rw (w, R.complete x (44 ∷ u) o (omega arith), get_or-append_seam, d)
      (items_complete ys y k t (acc ++ (x ∷ [])) (at + (length l + 1)) (omega arith) os.0 os.1
      ∙ ap₂ got (append_assoc acc (x ∷ []) (y ∷ ys)) (omega (arith, length-append l (44 ∷ r))))

  pub line_complete : (xs : List A) (k : ℕ) (t : List ℕ) → 0 < length xs → length xs ≤ k → Each Ok xs → read_list item k (line spell xs ++ t) ≡ got xs (length (line spell xs))
  unfolding line
  line_complete [] k t p h os = absurd (omega arith)
  line_complete (x ∷ xs) k t p h os = rw append_assoc (items_complete xs x k t [] 0 h os.0 os.1 ∙ ap (got (x ∷ xs)) (omega arith))

  -- ---- what is read was written
  pub record Lined (k : ℕ) (t : List ℕ) (acc : List A) (at : ℕ) (xs : List A) (i : ℕ) : Type 0 where
    pub x : A
    pub more : List A
    pub size : ℕ
    pub items : xs ≡ acc ++ (x ∷ more)
    pub room : length more < k
    pub ok : Ok x × Each Ok more
    pub text : Begins (spell x ++ after spell more) t size
    pub place : i ≡ at + size

  lined_more : (k : ℕ) (t : List ℕ) (acc : List A) (at : ℕ) (v : A) (j : ℕ) (xs : List A) (i : ℕ) → Begins (spell v) t j → Ok v → get_or t j 0 ≡ 44 →
      Lined k (drop (j + 1) t) (acc ++ (v ∷ [])) (at + (j + 1)) xs i → Lined (suc k) t acc at xs i
  unfolding after
  lined_more k t acc at v j xs i f o p l = record {
    x = v;
    more = l.x ∷ l.more;
    size = j + 1 + l.size;
    items = l.items ∙ append_assoc acc (v ∷ []) (l.x ∷ l.more);
    room = omega (arith, l.room);
    ok = (o, l.ok);
    text = rw append_assoc at (begins_then (begins_then f (begins_byte t j 44 p (omega arith))) l.text);
    place = omega (arith, l.place);
  }

  items_sound : (k : ℕ) (t : List ℕ) (acc : List A) (at : ℕ) (xs : List A) (i : ℕ) → more_items item k t acc at ≡ got xs i → Lined k t acc at xs i
  unfolding after
  items_sound zero t acc at xs i h = absurd (never_got h)
  items_sound (suc k) t acc at xs i h =
      let (v, j, e, g) = then_got (item t) h in
      let (f, o) = R.sound t v j e in
      elim (ℕ_discrete (get_or t j 0) 10) [
        | yes p ↦
            let text : Begins (spell v ++ (10 ∷ [])) t (j + 1) = begins_then f (begins_byte t j 10 p (omega arith)) in
            got_as (Lined (suc k) t acc at) (rw p at g)
            (record { x = v; more = []; size = j + 1; items = refl; room = omega arith; ok = (o, tt); text = text; place = refl })
        | no p ↦
            let (q, g₁) = passed_got (eqb (get_or t j 0) 44) (rw (ne_eqb _ _ p) at g) in
            lined_more k t acc at v j xs i f o (eqb-true _ _ q) (items_sound k (drop (j + 1) t) (acc ++ (v ∷ [])) (at + (j + 1)) xs i g₁)
      ]

  pub line_sound : (k : ℕ) (t : List ℕ) (xs : List A) (i : ℕ) → read_list item k t ≡ got xs i → Begins (line spell xs) t i × Each Ok xs × (0 < length xs) × (length xs ≤ k)
  unfolding line
  line_sound k t xs i h =
      let l : Lined k t [] 0 xs i = items_sound k t [] 0 xs i h in
      let e : l.size ≡ i = omega (arith, l.place) in
      rw l.items (rw e at l.text, l.ok, omega arith, omega (arith, l.room))

-- A line with a key in front and a line feed behind ends by itself, so what is written is read, whatever follows it, and what is read
-- was written. The law of each line is made of the laws of its parts.
use Rattle.std.specs.Prelude.{ℕ, ◌≤◌, ◌≡◌, refl, Bool, true, false, cond, List, [], ◌∷◌, ◌++◌, eqb, length, get_or, drop}
use Rattle.std.proofs.Common.{sym, ap₂, append_assoc, arith, length-append, eqb-true, eq-eqb, ne_eqb}
use Rattle.std.proofs.Math.Decide.{ℕ_discrete}
use Rattle.std.proofs.Math.Seq.{drop-append_seam, get_or-append_seam}
use Rattle.decimal.specs.Spelling.{Word, line}
use Rattle.decimal.specs.Scan.{Got, bad, digit_of, got, number, read_list}
use Rattle.decimal.specs.Scans.{Begins, Scans, begins_byte, begins_then, begins_within, got_as, never_true, passed_got, then_got}
use Rattle.decimal.specs.NumberLaws.{numbers}
use Rattle.decimal.specs.ListLaws.{line_complete, line_sound}
use Rattle.lines.specs.Lines.{OneTo, bytes, head_text, mark_text, number_line}
use Rattle.lines.specs.Scan.{both, head, keyed, mark, one_line, starts}

-- what is written is read, whatever stands behind it, and what is read was written
pub record Exact {A : Type 0} (Ok : A → Type 0) (render : A → List ℕ) (scan : List ℕ → Got A) : Type 0 where
  pub complete : (v : A) (t : List ℕ) → Ok v → scan (render v ++ t) ≡ got v (length (render v))
  pub sound : (t : List ℕ) (v : A) (i : ℕ) → scan t ≡ got v i → Begins (render v) t i × Ok v

pub within : {A : Type 0} {Ok : A → Type 0} {render : A → List ℕ} {scan : List ℕ → Got A} → Exact Ok render scan →
    (t : List ℕ) (v : A) (i : ℕ) → scan t ≡ got v i → i ≤ length t
within E t v i h = begins_within (E.sound t v i h).0

-- ---- a list line
module _ {A : Type 0} {Ok : A → Type 0} {spell : A → List ℕ} {item : List ℕ → Got A} (R : Scans Ok spell item) where
  pub lines : (k : ℕ) → Exact (OneTo k Ok) (line spell) (read_list item k)
  lines k = record {
    complete = λ xs t o. line_complete Ok spell item R xs k t o.at_least o.at_most o.each;
    sound = λ t xs i h. let s = line_sound Ok spell item R k t xs i h in (s.0, record { each = s.1; at_least = s.2; at_most = s.3 });
  }

-- ---- a line of one item
module _ {A : Type 0} {Ok : A → Type 0} {spell : A → List ℕ} {item : List ℕ → Got A} (R : Scans Ok spell item) where
  pub one_lines : Exact Ok (λ v. spell v ++ (10 ∷ [])) (one_line item)
  unfolding digit_of
  one_lines = record {
    complete = λ v t o. rw (append_assoc, R.complete v (10 ∷ t) o (omega arith), get_or-append_seam, length-append);
    sound = λ t v i h.
        let (u, j, e, g) = then_got (item t) h in
        let (p, g₁) = passed_got (eqb (get_or t j 0) 10) g in
        let (f, o) = R.sound t u j e in
        got_as (λ v i. Begins (spell v ++ (10 ∷ [])) t i × Ok v) g₁ (begins_then f (begins_byte t j 10 (eqb-true _ _ p) (omega arith)), o);
  }

-- ---- a key in front
pub starts_complete : (key t : List ℕ) → starts key (key ++ t) ≡ true
starts_complete [] t = refl
starts_complete (k ∷ key) t = rw (eq-eqb k k refl) (starts_complete key t)

pub starts_sound : (key t : List ℕ) → starts key t ≡ true → t ≡ key ++ drop (length key) t
starts_sound [] t h = refl
starts_sound (k ∷ key) [] h = absurd (never_true h)
starts_sound (k ∷ key) (b ∷ t) h = elim (ℕ_discrete k b) [
  | yes p ↦ ap₂ (λ (x : ℕ) (l : List ℕ). x ∷ l) (sym p) (starts_sound key t (rw (eq-eqb k b p) at h))
  | no p ↦ absurd (never_true (rw (ne_eqb k b p) at h))
]

pub starts_begins : (key t : List ℕ) → starts key t ≡ true → Begins key t (length key)
starts_begins key t h = record { behind = drop (length key) t; whole = starts_sound key t h; place = refl }

module _ {A : Type 0} {Ok : A → Type 0} {render : A → List ℕ} {scan : List ℕ → Got A} (key : List ℕ) (E : Exact Ok render scan) where
  pub keyeds : Exact Ok (λ v. key ++ render v) (keyed key scan)
  keyeds = record {
    complete = λ v t o. rw (append_assoc, starts_complete, drop-append_seam, E.complete v t o, length-append);
    sound = λ t v i h.
        let (s, g) = passed_got (starts key t) h in
        let (u, j, e, g₁) = then_got (scan (drop (length key) t)) g in
        let (f, o) = E.sound _ u j e in
        got_as (λ v i. Begins (key ++ render v) t i × Ok v) g₁ (begins_then (starts_begins key t s) f, o);
  }

-- ---- one behind the other
module _ {A B : Type 0} {Ok : A → Type 0} {Ok' : B → Type 0} {render : A → List ℕ} {render' : B → List ℕ}
    {first : List ℕ → Got A} {second : List ℕ → Got B} (E : Exact Ok render first) (F : Exact Ok' render' second) where
  pub boths : Exact (λ (v : A × B). Ok v.0 × Ok' v.1) (λ v. render v.0 ++ render' v.1) (both first second)
  boths = record {
    complete = λ v t o. rw (append_assoc, E.complete v.0 _ o.0, drop-append_seam, F.complete v.1 t o.1, length-append);
    sound = λ t v i h.
        let (a, j, e, g) = then_got (first t) h in
        let (b, k, d, g₁) = then_got (second (drop j t)) g in
        let (f, o) = E.sound t a j e in
        let (f₁, o₁) = F.sound _ b k d in
        got_as (λ v i. Begins (render v.0 ++ render' v.1) t i × (Ok v.0 × Ok' v.1)) g₁ (begins_then f f₁, (o, o₁));
  }

-- ---- the first two lines of either record, and the mark
pub number_lines : (key : List ℕ) → Exact Word (number_line key) (keyed key (one_line number))
number_lines key = keyeds key (one_lines numbers)

pub heads : Exact (λ (v : ℕ × ℕ). Word v.0 × Word v.1) (λ v. head_text v.0 v.1) head
unfolding head head_text
heads = boths (number_lines (bytes "modulus=")) (number_lines (bytes "degree="))

no_is_not_yes : (t : List ℕ) → starts (mark_text true) (mark_text false ++ t) ≡ false
unfolding mark_text bytes
no_is_not_yes t = refl

mark_complete : (b : Bool) (t : List ℕ) → mark (mark_text b ++ t) ≡ got b (length (mark_text b))
unfolding mark
mark_complete true t = rw (starts_complete (mark_text true) t)
mark_complete false t = rw (no_is_not_yes t, starts_complete (mark_text false) t)

mark_sound : (t : List ℕ) (b : Bool) (i : ℕ) (x : Bool) → starts (mark_text true) t ≡ x →
    cond x (got true (length (mark_text true))) (cond (starts (mark_text false) t) (got false (length (mark_text false))) bad) ≡ got b i →
    Begins (mark_text b) t i × Unit {0}
mark_sound t b i true e h = got_as (λ b i. Begins (mark_text b) t i × Unit {0}) h (starts_begins (mark_text true) t e, tt)
mark_sound t b i false e h =
    let (f, g) = passed_got (starts (mark_text false) t) h in
    got_as (λ b i. Begins (mark_text b) t i × Unit {0}) g (starts_begins (mark_text false) t f, tt)

pub marks : Exact (λ (b : Bool). Unit {0}) mark_text mark
unfolding mark
marks = record { complete = λ b t o. mark_complete b t; sound = λ t b i h. mark_sound t b i (starts (mark_text true) t) refl h }

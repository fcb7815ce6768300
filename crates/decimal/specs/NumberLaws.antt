-- The scanner reads `decimal n` as n, and reads nothing else: both go from the front digit on, and a number with one digit more is ten
-- times the number and the digit. A zero is followed by no digit, so no number has two spellings.
use Rattle.std.specs.Prelude.{ℕ, zero, suc, ◌+◌, ◌*◌, ◌/◌, ◌%◌, ◌≤◌, ◌<◌, ◌≡◌, refl, List, [], ◌∷◌, ◌++◌, eqb, ltb, length, get_or}
use Rattle.std.proofs.Common.{sym, ◌∙◌, ap, append_assoc, arith, length-append, ltb-false, lt-ltb, le-ltb, ne_eqb}
use Rattle.std.proofs.Math.Decide.{dec_lt}
use Rattle.std.proofs.lemmas.Bool.{eqb-false}
use Rattle.decimal.specs.Spelling.{Word, decimal, digits, largest_word}
use Rattle.decimal.specs.Scan.{digit_of, got, more_digits, number}
use Rattle.decimal.specs.Scans.{Begins, Ends, Scans, got_as, never_got, spared_got}

-- ---- the spelling: the fuel does not matter, and a number is its front digits with one behind them
digits_fuel : (f g n : ℕ) → n < f → n < g → digits f n ≡ digits g n
unfolding digits
digits_fuel zero g n p q = absurd (omega arith)
digits_fuel (suc f) zero n p q = absurd (omega arith)
digits_fuel (suc f) (suc g) n p q = elim (dec_lt n 10) [
  | yes h ↦ simp (lt-ltb _ _ h)
  | no h ↦ simp (le-ltb n 10 (omega arith)) (ap (λ (l : List ℕ). l ++ ((48 + n % 10) ∷ [])) (digits_fuel f g (n / 10) (omega arith) (omega arith)))
]

pub decimal_small : (n : ℕ) → n < 10 → decimal n ≡ (48 + n) ∷ []
unfolding decimal digits
decimal_small n h = simp (lt-ltb _ _ h)

pub decimal_more : (v d : ℕ) → 0 < v → d < 10 → decimal (v * 10 + d) ≡ decimal v ++ ((48 + d) ∷ [])
unfolding decimal digits
decimal_more v d p q =
    let a : (v * 10 + d) / 10 ≡ v = omega arith in
    let b : (v * 10 + d) % 10 ≡ d = omega arith in
    rw (le-ltb (v * 10 + d) 10 (omega arith), a, b) (ap (λ (l : List ℕ). l ++ ((48 + d) ∷ [])) (digits_fuel (v * 10 + d) (suc v) v (omega arith) (omega arith)))

-- what holds of the digits, and of a number with one digit more where it holds of the number, holds of each number
by_digits_below : (P : ℕ → Type 0) → ((n : ℕ) → n < 10 → P n) → ((v d : ℕ) → 0 < v → d < 10 → P v → P (v * 10 + d)) → (f n : ℕ) → n < f → P n
by_digits_below P one more zero n p = absurd (omega arith)
by_digits_below P one more (suc f) n p = elim (dec_lt n 10) [
  | yes h ↦ one n h
  | no h ↦
      let e : n / 10 * 10 + n % 10 ≡ n = omega arith in
      rw e at (more (n / 10) (n % 10) (omega arith) (omega arith) (by_digits_below P one more f (n / 10) (omega arith)))
]

pub by_digits : (P : ℕ → Type 0) → ((n : ℕ) → n < 10 → P n) → ((v d : ℕ) → 0 < v → d < 10 → P v → P (v * 10 + d)) → (n : ℕ) → P n
by_digits P one more n = by_digits_below P one more (suc n) n (omega arith)

-- ---- digits
pub digit_of_digit : (d : ℕ) → d < 10 → digit_of (48 + d) ≡ d
unfolding digit_of
digit_of_digit d h = simp (le-ltb (48 + d) 48 (omega arith), le-ltb 57 (48 + d) (omega arith)) (omega arith)

pub digit_spelt : (b : ℕ) → digit_of b ≤ 9 → 48 + digit_of b ≡ b
unfolding digit_of
digit_spelt b h = elim (dec_lt b 48) [
  | yes p ↦ let k : 10 ≤ 9 = simp (lt-ltb _ _ p) at h in omega arith
  | no p ↦ elim (dec_lt 57 b) [
    | yes q ↦ let k : 10 ≤ 9 = simp (le-ltb b 48 (omega arith), lt-ltb _ _ q) at h in omega arith
    | no q ↦ simp (le-ltb b 48 (omega arith), le-ltb 57 b (omega arith)) (omega arith)
  ]
]

-- ---- what is spelt is read
more_ends : (t : List ℕ) (v i : ℕ) → Ends t → more_digits t v i ≡ got v i
more_ends [] v i h = refl
more_ends (b ∷ t) v i h = simp (lt-ltb _ _ h)

more_digit : (t : List ℕ) (v d i : ℕ) → 0 < v → d < 10 → Word (v * 10 + d) → more_digits ((48 + d) ∷ t) v i ≡ more_digits t (v * 10 + d) (i + 1)
more_digit t v d i p q h = simp (digit_of_digit d q, le-ltb 9 d (omega arith), ne_eqb v 0 (λ e. omega arith), le-ltb _ _ h)

reads_on : (n : ℕ) → Word n → (t : List ℕ) → number (decimal n ++ t) ≡ more_digits t n (length (decimal n))
reads_on = by_digits (λ (n : ℕ). Word n → (t : List ℕ) → number (decimal n ++ t) ≡ more_digits t n (length (decimal n)))
    (λ n p m t. rw (decimal_small n p) (simp (digit_of_digit n p, le-ltb 9 n (omega arith))))
    (λ v d p q r m t. rw (decimal_more v d p q, append_assoc, length-append) (r (omega arith) ((48 + d) ∷ t) ∙ more_digit t v d _ p q m))

-- ---- what is read was spelt
-- v was read, and s stands behind it
read_whole : (t s : List ℕ) {v i n j : ℕ} → Word v → i ≡ length (decimal v) → t ≡ decimal v ++ s → got v i ≡ got n j → Begins (decimal n) t j × Word n
read_whole t s m l e h = got_as (λ n j. Begins (decimal n) t j × Word n) h (record { behind = s; whole = e; place = l }, m)

more_sound : (s t : List ℕ) (v i n j : ℕ) → Word v → i ≡ length (decimal v) → t ≡ decimal v ++ s → more_digits s v i ≡ got n j → Begins (decimal n) t j × Word n
more_sound [] t v i n j m l e h = read_whole t [] m l e h
more_sound (b ∷ s) t v i n j m l e h = elim (dec_lt 9 (digit_of b)) [
  | yes p ↦ read_whole t (b ∷ s) m l e (simp (lt-ltb _ _ p) at h)
  | no p ↦
      let p' : digit_of b ≤ 9 = omega arith in
      let (q, g) = spared_got (eqb v 0) (rw (le-ltb _ _ p') at h) in
      let (r, g₁) = spared_got (ltb largest_word (v * 10 + digit_of b)) g in
      let k : decimal (v * 10 + digit_of b) ≡ decimal v ++ (b ∷ []) =
      decimal_more v (digit_of b) (omega (arith, eqb-false v 0 q)) (omega arith) ∙ rw (digit_spelt b p') in
      more_sound s t (v * 10 + digit_of b) (i + 1) n j (ltb-false _ _ r) (rw (k, length-append, l)) (rw (k, append_assoc) e) g₁
]

number_sound : (t : List ℕ) (n j : ℕ) → number t ≡ got n j → Begins (decimal n) t j × Word n
number_sound [] n j h = absurd (never_got h)
number_sound (b ∷ t) n j h =
    let (p, g) = spared_got (ltb 9 (digit_of b)) h in
    let q : digit_of b ≤ 9 = ltb-false _ _ p in
    let k : decimal (digit_of b) ≡ b ∷ [] = decimal_small (digit_of b) (omega arith) ∙ rw (digit_spelt b q) in
    more_sound t (b ∷ t) (digit_of b) 1 n j (omega arith) (rw k) (rw k) g

pub numbers : Scans Word decimal number
numbers = record { complete = λ n t m h. reads_on n m t ∙ more_ends t n _ h; sound = number_sound }

-- ---- the spelling from its front
pub decimal_split : (v : ℕ) → 10 ≤ v → decimal v ≡ decimal (v / 10) ++ ((48 + v % 10) ∷ [])
decimal_split v h =
    let e : v / 10 * 10 + v % 10 ≡ v = omega arith in
    rw e at (decimal_more (v / 10) (v % 10) (omega arith) (omega arith))

pub length_more : (v : ℕ) → 10 ≤ v → length (decimal v) ≡ length (decimal (v / 10)) + 1
length_more v h = rw (decimal_split v h, length-append)

pub length_small : (v : ℕ) → v < 10 → length (decimal v) ≡ 1
length_small v h = rw (decimal_small v h)

-- ---- how long it is
abbrev tens : ℕ → ℕ
tens zero = 1
tens (suc k) = 10 * tens k

pub digits_at_most : (k n : ℕ) → n < tens (suc k) → length (decimal n) ≤ suc k
digits_at_most zero n h = rw (length_small n (omega arith)) (omega arith)
digits_at_most (suc k) n h = elim (dec_lt n 10) [
  | yes l ↦ rw (length_small n l) (omega arith)
  | no l ↦ let i : length (decimal (n / 10)) ≤ suc k = digits_at_most k (n / 10) (omega arith) in omega (arith, length_more n (omega arith))
]

pub word_length : (n : ℕ) → Word n → length (decimal n) ≤ 10
word_length n h = digits_at_most 9 n (omega arith)

-- ---- a number starts with a digit
pub decimal_starts : (n : ℕ) (t : List ℕ) (b : ℕ) → 9 < digit_of b → get_or (decimal n ++ t) 0 0 ≡ b → ⊥
decimal_starts n t b h e = by_digits (λ (n : ℕ). (t : List ℕ) → get_or (decimal n ++ t) 0 0 ≡ b → ⊥)
    (λ n p t e.
    let d : get_or (decimal n ++ t) 0 0 ≡ 48 + n = rw (decimal_small n p) in
    let k : digit_of b ≡ n = ap digit_of (sym e ∙ d) ∙ digit_of_digit n p in
    omega arith)
    (λ v d p q r t e. r (((48 + d) ∷ []) ++ t) (rw (decimal_more v d p q, append_assoc) at e))
    n t e

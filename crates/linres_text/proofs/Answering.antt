-- How a text comes to its answer: the entry was called with the job that the text holds, and what it found is written.
use mathlib.Core.Path.{◌≡◌, refl, sym, ap, ◌∙◌}
use mathlib.Core.List.{List}
use Prim.Native.Nat.{ℕ, ◌≤◌, ◌<◌}
use native.Mathlib.Omega.{arith}
use lib.ListN.{length, take}
use lib.Seq.{take-length}
use lib.IntN.{ℤ}
use Rattle.limits.specs.Limits.{most_placements, largest_room, longest_text, most_numbers}
use Rattle.placements.specs.Placements.{placed}
use Rattle.refusals.specs.Resolved.{Resolved}
use Rattle.refusals.specs.Success.{Success}
use Rattle.resolvents.specs.Results.{Outcome}
use Rattle.resolvents.specs.Promise.{Promise, left}
use Rattle.resolvents.specs.Slices.{asked}
use Rattle.lines.specs.Lines.{refused_line}
use Rattle.records.specs.Told.{JobRead}
use Rattle.records.specs.Told.{Written}
use Rattle.records.specs.Put.{Put}
use Rattle.records.specs.Records.{Job, JobHolds, job_text, AnswerHolds, answer, answer_text}
use Rattle.records.specs.Promises.{ReadsJob, WritesAnswer, job_read}
use Rattle.records.proofs.Theorems.{read_job_exactly, read_job_values, job_values, job_one_spelling}
use Rattle.linres_text.specs.Texts.{job_refusal, AnswerTo, TextOf}
use Rattle.linres_text.specs.Promise.{Puts}
use Rattle.linres_text.proofs.Jobs.{N_of, Good, good_exactly, entry_number, answer_holds}

-- ---- a job
-- the entry was called with it and with room for every N: `e` came back, and `words` and `rest` stand in the two slices
pub record Called (j : Job) (e : Outcome) : Type 0 where
  pub output : List ℕ
  pub work : List ℕ
  pub words : List ℕ
  pub rest : List ℕ
  pub kept : Promise (asked j.modulus j.coeffs j.weights output work) (left e words rest)
  pub output_long : length output ≡ most_placements
  pub work_long : length work ≡ largest_room

module _ {j : Job} {e : Outcome} (c : Called j e) where
  code_is : e.code ≡ job_refusal j
  code_is = c.kept.code ∙ entry_number j c.output c.work c.output_long c.work_long

  pub job_refused : (out out' : List ℕ) (r : Written) → (e.code ≡ 0 → ⊥) → Put (refused_line e.code) out r out' → Puts (AnswerTo j) out r out'
  job_refused out out' r n p = record {
    bytes = refused_line e.code;
    right = record { refused = λ _. ap refused_line code_is; answered = λ z. absurd (n (code_is ∙ z)) };
    put = p;
  }

  module _ (zero : e.code ≡ 0) where
    is_good : Good j
    is_good = (good_exactly j).0 (sym code_is ∙ zero)

    found : Success (asked j.modulus j.coeffs j.weights c.output c.work) e.count e.simple c.words c.rest
    found = (c.kept.done (sym c.kept.code ∙ zero)).success

    number : e.count ≡ N_of j
    number = found.number ∙ ap (placed (length j.coeffs)) (take-length j.weights)

    pub few : e.count ≤ most_placements
    few = rw number is_good.number.high

    pub job_answered : (out out' : List ℕ) (r : Written) → WritesAnswer (answer j.modulus e.simple (take e.count c.words)) out r out'
        → Puts (AnswerTo j) out r out'
    job_answered out out' r p =
        let b : List ℕ = take e.count c.words in
        let resolved : Resolved j.modulus j.coeffs j.weights e.simple b = rw number (rw (take-length j.weights) at found.resolved) in
        let held : AnswerHolds (answer j.modulus e.simple b) = answer_holds j is_good e.simple b resolved.resolvent.size resolved.words in
        record {
          bytes = answer_text (answer j.modulus e.simple b);
          right = record {
            refused = λ n. absurd (n (sym code_is ∙ zero));
            answered = λ _. record { mark = e.simple; b = b; resolved = resolved; text = refl };
          };
          put = p.put held;
        }

-- ---- a text
-- it was read into slices of as many numbers as a line of a job may have: `r` came back, `cs` and `ws` stand in them
pub record Read (text : List ℕ) (r : JobRead) : Type 0 where
  pub coeffs : List ℕ
  pub weights : List ℤ
  pub cs : List ℕ
  pub ws : List ℤ
  pub read : ReadsJob text (coeffs, weights) r (cs, ws)
  pub coeffs_long : length coeffs ≡ most_numbers
  pub weights_long : length weights ≡ most_numbers

module _ (text : List ℕ) where
  pub too_long : (out out' : List ℕ) (r : Written) → longest_text < length text → Put (refused_line 1) out r out' → Puts (TextOf text) out r out'
  too_long out out' r h p = record {
    bytes = refused_line 1;
    right = record { long = λ _. refl; none = λ _. refl; job = λ l. absurd (omega arith) };
    put = p;
  }

  module _ {r : JobRead} (c : Read text r) where
    room_is : (most_numbers ≤ length c.coeffs) × (most_numbers ≤ length c.weights)
    room_is = (omega (arith, c.coeffs_long), omega (arith, c.weights_long))

    module _ (other : r.code ≡ 0 → ⊥) where
      never : (j : Job) → JobHolds j → text ≡ job_text j → ⊥
      never j h e = other ((read_job_exactly c.read).1 (room_is, (j, h, e)))

      -- a number other than 0 is that of row 1
      pub row_1 : r.code ≡ 1
      row_1 = ap (λ (x : JobRead). x.code) (c.read.no_record room_is (λ i. never i.0 i.1 i.2)).0

      pub no_job : {n : ℕ} (out out' : List ℕ) (s : Written) → n ≡ 1 → Put (refused_line n) out s out' → Puts (TextOf text) out s out'
      no_job out out' s one p = record {
        bytes = refused_line 1;
        right = record { long = λ _. refl; none = λ _. refl; job = λ _ j h e. absurd (never j h e) };
        put = rw one at p;
      }

    module _ (zero : r.code ≡ 0) where
      values : JobHolds (job_values r (c.cs, c.ws)) × (text ≡ job_text (job_values r (c.cs, c.ws)))
      values = read_job_values c.read zero

      pub counts : (r.degree ≤ most_numbers) × (r.weights ≤ most_numbers)
      counts =
          let i = ((read_job_exactly c.read).0 zero).1 in
          let e : r ≡ job_read i.0 = (c.read.success room_is i.0 i.1 i.2).0 in
          (rw (ap (λ (x : JobRead). x.degree) e) i.1.coeffs.at_most, rw (ap (λ (x : JobRead). x.weights) e) i.1.weights.at_most)

      pub a_job : (out out' : List ℕ) (s : Written) → length text ≤ longest_text → Puts (AnswerTo (job_values r (c.cs, c.ws))) out s out'
          → Puts (TextOf text) out s out'
      a_job out out' s l p = record {
        bytes = p.bytes;
        right = record {
          long = λ m. absurd (omega arith);
          none = λ n. absurd (n _ values.0 values.1);
          job = λ _ j h e. rw (job_one_spelling _ j values.0 h (sym values.1 ∙ e)) at p.right;
        };
        put = p.put;
      }

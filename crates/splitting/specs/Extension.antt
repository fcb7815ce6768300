-- Rings over a ring: another ring, and a map into it that keeps the operations, takes no two numbers to one, and keeps what can
-- be cancelled. The ring itself is one, and a ring over a ring over A is one; A[y]/(f) is one by `AdjoinLaws`.
use Rattle.std.specs.Prelude.{◌≡◌, refl}
use Rattle.algebra.specs.Ring.{Ops, Laws, Cancels}
use Rattle.algebra.specs.Hom.{Hom, hom_then}

pub record Extension {A : Type 0} (o : Ops A) : Type 1 where
  pub carrier : Type 0
  pub ops : Ops carrier
  pub laws : Laws ops
  pub embed : A → carrier
  pub hom : Hom o ops embed
  pub injective : (a b : A) → embed a ≡ embed b → a ≡ b
  pub cancels : (a : A) → Cancels o a → Cancels ops (embed a)

abbrev pub itself : {A : Type 0} {o : Ops A} → Laws o → Extension o
itself {A} {o} l = record {
  carrier = A;
  ops = o;
  laws = l;
  embed = λ a. a;
  hom = record { at_zero = refl; at_one = refl; at_add = λ a b. refl; at_mul = λ a b. refl; at_neg = λ a. refl };
  injective = λ a b e. e;
  cancels = λ a e. e;
}

abbrev pub further : {A : Type 0} {o : Ops A} (e : Extension o) → Extension e.ops → Extension o
further e r = record {
  carrier = r.carrier;
  ops = r.ops;
  laws = r.laws;
  embed = λ a. r.embed (e.embed a);
  hom = hom_then e.hom r.hom;
  injective = λ a b p. e.injective a b (r.injective _ _ p);
  cancels = λ a p. r.cancels _ (e.cancels a p);
}

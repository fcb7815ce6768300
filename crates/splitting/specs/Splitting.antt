-- A ring over A in which a monic polynomial over A has all its roots. `Splittings` has that there is one for every monic polynomial.
use Rattle.std.specs.Prelude.{◌≡◌, List, map}
use Rattle.algebra.specs.Ring.{Ops}
use Rattle.definition.specs.Product.{product}
use Rattle.splitting.specs.Extension.{Extension}

-- a ring over A with all roots of x^n + c1 x^(n-1) + .. + cn
pub record Splitting {A : Type 0} (o : Ops A) (c : List A) : Type 1 where
  pub ring : Extension o
  pub roots : List ring.carrier
  pub factors : map ring.embed c ≡ product ring.ops roots

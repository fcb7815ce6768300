-- Document 01, "Sums worked by hand, p = 257": cases A to L as one table, with the mark of each, and what a case says.
use Rattle.std.specs.Prelude.{Bool, true, false, List, [], ◌∷◌, ℕ, length, ℤ, pos, negsuc}
use Rattle.refusals.specs.Refusals.{GoodJob}
use Rattle.refusals.specs.Resolved.{Resolved}

-- coefficients of f, weights, coefficients of the resolvent, mark
pub record Case : Type 0 where
  pub f : List ℕ
  pub weights : List ℤ
  pub resolvent : List ℕ
  pub mark : Bool

abbrev case : List ℕ → List ℤ → List ℕ → Bool → Case
case f w b m = record { f = f; weights = w; resolvent = b; mark = m }

-- All are simple but E, whose f is (x - 1)^2. The weight -1 is `negsuc 0`.
unfoldable pub cases : List Case
cases =
    -- A
    case (254 ∷ []) (pos 5 ∷ []) (242 ∷ []) true
    -- B
    ∷ case (254 ∷ 2 ∷ []) (pos 1 ∷ pos 1 ∷ []) (254 ∷ []) true
    -- C
    ∷ case (254 ∷ 2 ∷ []) (pos 1 ∷ pos 2 ∷ []) (248 ∷ 20 ∷ []) true
    -- D
    ∷ case (254 ∷ 2 ∷ []) (pos 1 ∷ negsuc 0 ∷ []) (0 ∷ 256 ∷ []) true
    -- E
    ∷ case (255 ∷ 1 ∷ []) (pos 1 ∷ negsuc 0 ∷ []) (0 ∷ 0 ∷ []) false
    -- F
    ∷ case (0 ∷ 254 ∷ []) (pos 1 ∷ negsuc 0 ∷ []) (0 ∷ 245 ∷ []) true
    -- G
    ∷ case (0 ∷ 0 ∷ 256 ∷ []) (pos 1 ∷ pos 1 ∷ []) (0 ∷ 0 ∷ 1 ∷ []) true
    -- H
    ∷ case (251 ∷ 11 ∷ 251 ∷ []) (pos 1 ∷ pos 1 ∷ []) (245 ∷ 47 ∷ 197 ∷ []) true
    -- I
    ∷ case (251 ∷ 11 ∷ 251 ∷ []) (pos 1 ∷ pos 1 ∷ pos 1 ∷ []) (251 ∷ []) true
    -- J
    ∷ case (251 ∷ 11 ∷ 251 ∷ []) (pos 2 ∷ pos 1 ∷ []) (221 ∷ 20 ∷ 193 ∷ 163 ∷ 54 ∷ 136 ∷ []) true
    -- K
    ∷ case (0 ∷ 0 ∷ 0 ∷ 256 ∷ []) (pos 1 ∷ pos 1 ∷ []) (0 ∷ 0 ∷ 0 ∷ 4 ∷ 0 ∷ 0 ∷ []) true
    -- L
    ∷ case (0 ∷ 0 ∷ 0 ∷ 1 ∷ []) (pos 1 ∷ pos 1 ∷ []) (0 ∷ 0 ∷ 0 ∷ 253 ∷ 0 ∷ 0 ∷ []) true
    ∷ []

-- What a case says: no row refuses the job, and its coefficients and mark are the answer.
pub record Holds (k : Case) : Type 0 where
  pub good : GoodJob 257 k.f (length k.weights) k.weights
  pub resolved : Resolved 257 k.f k.weights k.mark k.resolvent

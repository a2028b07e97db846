-- What the function of each wall of the program has: its exponents are near, and so are those of its bound in one variable.
use Rattle.std.proofs.Common.{ℕ, ◌*◌, ◌≤◌, sym, subst, [], ◌∷◌, arith}
use Rattle.std.specs.Prelude.{ℤ, pos, ◌-ℤ◌, nat_abs}
use Rattle.std.proofs.lemmas.Int.{ints}
use Rattle.scattering.specs.Collections.{Every}
use Rattle.scattering.specs.Series.{Sum, origin, degree, absolute, IsWallFunction}
use Rattle.trunc_series.specs.Shown.{Seen, HasNearTerms}
use Rattle.plane_geom.specs.Shown.{vector_of}
use Rattle.power_tables.specs.Parts.{GrowsBy}
use Rattle.scatter_diagram.specs.declared.wall.Wall.{Wall as CodeWall}
use Rattle.scatter_diagram.specs.Proper.{IsTame}
use Rattle.local_product.specs.OneVariable.{in_one_variable, IsInOneVariable}
use Rattle.local_product.proofs.Exponents.{AreAround, series-around, around-near, absolute-around}
use Rattle.local_product.proofs.OneVariable.{around-one_variable}
use Rattle.local_product.proofs.OneVariableFunctions.{one_variable-function, one_variable-near}

pub tame-around : (f : Sum) → Every IsTame f → AreAround origin f
tame-around [] h = tt
tame-around (t ∷ f) h = ((same t.0.exp.a (degree t.0) h.0.0, same t.0.exp.b (degree t.0) h.0.1), tame-around f h.1)
  where
    same : (x : ℤ) (d : ℕ) → nat_abs x ≤ 64 * d → nat_abs (x -ℤ pos 0) ≤ 64 * d
    same x d l = omega (arith, ints, l)

around-tame : (f : Sum) → AreAround origin f → GrowsBy 64 f
around-tame [] h = tt
around-tame (t ∷ f) h = ((same t.0.exp.a (degree t.0) h.0.0, same t.0.exp.b (degree t.0) h.0.1), around-tame f h.1)
  where
    same : (x : ℤ) (d : ℕ) → nat_abs (x -ℤ pos 0) ≤ 64 * d → nat_abs x ≤ 64 * d
    same x d l = omega (arith, ints, l)

module _ (w : CodeWall) where
  pub function-around : AreAround origin w.function.terms
  function-around = tame-around w.function.terms w.proper.tame

  pub function-near : w.function.order ≤ 24 → HasNearTerms w.function.terms
  function-near l = around-near w.function.order origin w.function.terms l (omega arith, omega arith) function-around w.proper.function.series.low

  module _ (s : Seen) (is : IsInOneVariable w.function s) where
    pub bound-function : IsWallFunction s.order (vector_of w.dir) s.terms
    bound-function = subst (λ (n : ℕ). IsWallFunction n (vector_of w.dir) s.terms) (sym is.order) (one_variable-function w.function.order (vector_of w.dir) w.function.terms w.proper.function s is)

    pub bound-near : w.function.order ≤ 24 → HasNearTerms s.terms
    bound-near l = one_variable-near w.function.order (vector_of w.dir) w.function.terms w.proper.function s is l function-around

    pub bound-grows : GrowsBy 64 s.terms
    bound-grows = around-tame s.terms (series-around w.function.order origin s (in_one_variable (absolute w.function.terms)) is (around-one_variable origin (absolute w.function.terms) (absolute-around w.function.terms function-around)))

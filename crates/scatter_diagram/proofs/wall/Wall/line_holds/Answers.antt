use Rattle.std.proofs.Common.{◌≡◌, ◌∙◌, refl, ap, eqb, arith, of_z, Bool, true, false, cond}
use Rattle.std.specs.Prelude.{ℤ, pos, negsuc, int_lt}
use Rattle.std.proofs.lemmas.Int.{ints}
use mir.Syntax.{w32}
use Rattle.scattering.specs.Series.{int_eq, det}
use Rattle.scattering.specs.Plane.{difference}
use Rattle.plane_geom.specs.Shown.{point_of, vector_of, signum}
use Rattle.crossing_theory.proofs.LocalRuns.{holds-is}
use Rattle.scatter_diagram.specs.Shown.{wall_of}
use Rattle.scatter_diagram.proofs.wall.Wall.line_holds.Goals as goal

-- the sign is 0 where the number is
signed : (z : ℤ) → eqb (of_z w32 (signum z)) 0 ≡ int_eq z (pos 0)
signed z = go (int_lt z (pos 0)) refl (int_lt (pos 0) z) refl
  where
    below : (z : ℤ) → int_lt z (pos 0) ≡ true → false ≡ int_eq z (pos 0)
    below z e = grind (arith, ints)

    above : (z : ℤ) → int_lt (pos 0) z ≡ true → false ≡ int_eq z (pos 0)
    above z e = grind (arith, ints)

    zero : (z : ℤ) → int_lt z (pos 0) ≡ false → int_lt (pos 0) z ≡ false → true ≡ int_eq z (pos 0)
    zero z e f = grind (arith, ints)

    go : (b : Bool) → int_lt z (pos 0) ≡ b → (c : Bool) → int_lt (pos 0) z ≡ c → eqb (of_z w32 (signum z)) 0 ≡ int_eq z (pos 0)
    go true e c f = ap (λ b. eqb (of_z w32 (cond b (negsuc 0) (cond (int_lt (pos 0) z) (pos 1) (pos 0)))) 0) e ∙ below z e
    go false e true f = (λ i. eqb (of_z w32 (cond (e i) (negsuc 0) (cond (f i) (pos 1) (pos 0)))) 0) ∙ above z f
    go false e false f = (λ i. eqb (of_z w32 (cond (e i) (negsuc 0) (cond (f i) (pos 1) (pos 0)))) 0) ∙ zero z e f

pub returns : goal.returns
returns c =
    ap (λ z. eqb (of_z w32 z) 0) c.side.ensures
    ∙ signed (det (vector_of c.args.self.now.dir) (difference (point_of c.args.self.now.at) (point_of c.args.p.now)))
    ∙ holds-is (wall_of c.args.self.now) (point_of c.args.p.now)

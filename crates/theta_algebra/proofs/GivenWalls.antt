-- What a diagram's type says of its walls, as the theory asks it.
use Rattle.std.proofs.Common.{ℕ, List}
use Rattle.std.specs.Prelude.{None}
use Rattle.limits.specs.Limits.{exponent_per_degree}
use Rattle.scattering.specs.Collections.{Every}
use Rattle.scattering.specs.Series.{Exp, degree}
use Rattle.scattering.specs.Wall.{Wall, walls, cut_walls}
use Rattle.scattering.specs.Theta.{IsAskFault}
use Rattle.scattering.proofs.Lists.{Every-at}
use Rattle.scatter_diagram.specs.Proper.{AreTameWalls, IsTame}
use Rattle.scatter_diagram.specs.Listed.{SeenDiagram}
use Rattle.plane_geom.specs.Shown.{point_of}
use Rattle.plane_geom.specs.declared.Point.{Point as CodePoint}
use Rattle.trunc_series.specs.Shown.{Seen, IsValid}
use Rattle.broken_line_theory.proofs.ThetaWithin.{IsNearby}
use Rattle.theta_algebra.specs.Steps.{IsKnownDiagram}
use Rattle.theta_algebra.specs.Thetas.{IsThetaOf}
use Rattle.theta_algebra.proofs.TakenThetas.{theta-nearby}
use Rattle.broken_line_theory.proofs.Reach.{AreTermsWithin}
use Rattle.broken_lines.proofs.Levels.{whole-term}

pub terms-within : (b : ℕ) (ws : List Wall) → AreTameWalls ws → AreTermsWithin exponent_per_degree (cut_walls b ws)
terms-within b ws tame t i = let w = whole-term b ws t i in Every-at IsTame w.0.function t (Every-at (λ (v : Wall). Every IsTame v.function) ws w.0 tame w.1) w.2

-- the exponents of a theta that was found
pub given-nearby : (e : SeenDiagram) (k n : ℕ) (r : Exp) (at : CodePoint) (s : Seen) → IsKnownDiagram e k → IsThetaOf (walls e.diagram) n r (point_of at) s → IsAskFault (walls e.diagram) n r (point_of at) None
    → IsValid s.order s.terms → Every (λ t. IsNearby exponent_per_degree r t.0.exp (degree t.0)) s.terms
given-nearby e k n r at s given is free valid =
    theta-nearby (walls e.diagram) n e.order r (point_of at) given.proper at.reduced (terms-within n (walls e.diagram) given.tame) s.terms s.order valid.series free is.0

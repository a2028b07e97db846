-- The whole product: its weight, and the family that the steps end with.
use Rattle.std.proofs.Common.{◌≡◌, ℕ, sym, subst, ◌+◌, ◌*◌, ◌<◌, ◌≤◌, arith, List, min}
use Rattle.scattering.specs.Collections.{Every}
use Rattle.scattering.specs.Series.{Exp, Sum, IsSeries}
use Rattle.scattering.specs.Plane.{Point, IsPoint}
use Rattle.scattering.specs.Wall.{Wall, IsWall}
use Rattle.scattering.specs.ThetaProduct.{IsFamily}
use Rattle.trunc_series.specs.Shown.{sum_of, Seen}
use Rattle.trunc_series.specs.declared.key.Exp.{Exp as CodeExp}
use Rattle.broken_line_theory.proofs.ProductSteps.{steps_end, runs-ready}
use Rattle.theta_algebra.specs.Families.{IsFamilyOf}
use Rattle.theta_algebra.specs.Parts.{AreFamilyParts}
use Rattle.theta_algebra.specs.Steps.{IsAtStage, IsBegunProduct}
use Rattle.theta_algebra.specs.declared.steps.Steps.{Steps}

-- a weight that is kept up to a bound

pub most-below : (n c most m : ℕ) → m ≡ min n most → c < most → m ≤ c → n ≡ m
most-below n c most m e l h = grind arith

pub most-above : (n c most m : ℕ) → m ≡ min n most → c < m → c < n
most-above n c most m e l = omega (arith, e, l)

-- ---- after all steps

module _ (ws : List Wall) (k : ℕ) (l r : Exp) (q : Point) (begun steps : Steps) (h : IsBegunProduct ws k l r q begun) (reached : IsAtStage ws k q h.s (h.x * h.y) (k + 1) steps) (j : ℕ) (walls : Every (IsWall j) ws) (point : IsPoint q) where
  pub family-series : IsSeries k (sum_of steps.family.items)
  family-series = (runs-ready ws k j q walls point h.s (h.x * h.y) (k + 1) (sum_of steps.family.items) steps.weight reached.runs).series

  family : IsFamily ws k l r q (sum_of steps.family.items)
  family = steps_end ws k j l r q h.s (sum_of steps.family.items) (h.x * h.y) steps.weight walls point h.product reached.runs

  pub family-of-parts : (ps : List (CodeExp × Seen)) → AreFamilyParts k (sum_of steps.family.items) ps → IsFamilyOf ws k l r q ps
  family-of-parts ps parts = record {
    family = subst (λ (f : Sum). IsFamily ws k l r q f) (sym parts.family) family;
    sorted = parts.sorted;
    each = parts.each;
  }

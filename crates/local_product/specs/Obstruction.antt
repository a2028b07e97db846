-- The local product at a point of a diagram, and what is known of the correction that is found there.
--     weight_at e p n             the weight of p
--     image_at e p n m            the image of z^m
--     IsObstruction ws p n h      h is the correction at p, whole, and small enough to be merged
use Rattle.std.specs.Prelude.{◌≡◌, ℕ, ◌+◌, ◌*◌, ◌≤◌, ◌<◌, IsTrue, nat_abs, List, ℤ}
use Rattle.std.specs.List.{sum_by}
use Rattle.limits.specs.Limits.{largest_weight, exponent_per_degree}
use Rattle.scattering.specs.Collections.{Every}
use Rattle.scattering.specs.Series.{Exp, Sum, mass_to}
use Rattle.scattering.specs.Plane.{Point}
use Rattle.scattering.specs.Wall.{Wall, walls, starts_at}
use Rattle.scattering.specs.LocalProduct.{image, weight, IsConsistentAt}
use Rattle.scattering.specs.Correction.{Lie, IsCorrection, IsWhole}
use Rattle.scattering.specs.Stops.{WeightTooLarge}
use Rattle.weight_theory.specs.Laws.{AreWhole}
use Rattle.plane_geom.specs.Shown.{point_of}
use Rattle.plane_geom.specs.declared.Point.{Point as CodePoint}
use Rattle.scatter_diagram.specs.Listed.{SeenDiagram}
use Rattle.scatter_diagram.specs.Stopped.{IfStop}
use Rattle.scatter_diagram.specs.declared.stop.Stop.{Stop}

abbrev pub weight_at : SeenDiagram → CodePoint → ℕ → ℕ
weight_at e p n = weight (walls e.diagram) (point_of p) n

abbrev pub image_at : SeenDiagram → CodePoint → ℕ → Exp → Sum
image_at e p n m = image (walls e.diagram) (point_of p) n m

abbrev pub IsHeavyAt : SeenDiagram → CodePoint → ℕ → Type 0
IsHeavyAt e p n = largest_weight < weight_at e p n

abbrev pub IsLightAt : SeenDiagram → CodePoint → ℕ → Type 0
IsLightAt e p n = weight_at e p n ≤ largest_weight

-- the point is consistent at the order before
abbrev pub IsConsistentBefore : SeenDiagram → CodePoint → ℕ → Type 0
IsConsistentBefore e p order = (n : ℕ) → n + 1 ≡ order → IsConsistentAt (walls e.diagram) n (point_of p)

-- no ray that starts at the point is heavy
abbrev pub HasLightRays : SeenDiagram → CodePoint → ℕ → Type 0
HasLightRays e p n = Every (λ r. IsTrue (starts_at r (point_of p)) → mass_to n r.function ≤ largest_weight) e.diagram.rays

-- only for memory, or for the weight of the point
abbrev pub IsStoppedByWeight : SeenDiagram → CodePoint → ℕ → Stop → Type 0
IsStoppedByWeight e p order stop = IfStop stop (λ n c. (n ≡ order) × (c ≡ WeightTooLarge) × IsHeavyAt e p order)

-- all exponents are within 64·n
abbrev pub AreWithin : ℕ → Lie → Type 0
AreWithin n h = Every (λ t. (nat_abs t.0.exp.a ≤ exponent_per_degree * n) × (nat_abs t.0.exp.b ≤ exponent_per_degree * n)) h

pub record IsObstruction (ws : List Wall) (p : Point) (n : ℕ) (h : Lie) : Type 0 where
  pub correction : IsCorrection ws p n h
  pub whole : Every IsWhole h
  pub within : AreWithin n h
  -- the whole values gcd·c sum to at most 2^126 in absolute value
  pub values : (vs : List ℤ) → AreWhole h vs → sum_by nat_abs vs ≤ largest_weight

abbrev pub IsObstructionAt : SeenDiagram → CodePoint → ℕ → Lie → Type 0
IsObstructionAt e p n h = IsObstruction (walls e.diagram) (point_of p) n h

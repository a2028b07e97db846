-- What merging asks of corrections and of rays, and what it answers.
--     StaysWithin n p h rs     each ray from p has, with what h adds to it, a mass of at most 2^127
--     StayWithin n cs rs       so for each correction
--     IsMergedTo ..            the merged diagram, with 8192 walls at most
--     IsStoppedAt ..           the merged diagram has more walls
use Rattle.std.specs.Prelude.{◌≡◌, ℕ, ◌≤◌, ◌<◌, ◌++◌, List, length}
use Rattle.limits.specs.Limits.{largest_mass, most_walls}
use Rattle.scattering.specs.Collections.{In, Every}
use Rattle.scattering.specs.Series.{Sum, mass_to}
use Rattle.scattering.specs.Plane.{Point}
use Rattle.scattering.specs.Wall.{Wall, Diagram, walls}
use Rattle.scattering.specs.Stops.{TooManyWalls}
use Rattle.scattering.specs.Correction.{Lie, Corrections, IsMerged}
use Rattle.scatter_diagram.specs.Listed.{SeenDiagram}
use Rattle.scatter_diagram.specs.declared.stop.Stop.{Stop}
use Rattle.scatter_diagram.specs.Stopped.{IfStop}
use Rattle.ray_merge.specs.Additions.{AreAdded, IsLight, IsLightAlong, IsTameElement, terms_along}

abbrev pub AreLight : Corrections → Type 0
AreLight cs = Every (λ c. IsLight c.1) cs

abbrev pub AreTame : ℕ → Corrections → Type 0
AreTame n cs = Every (λ c. IsTameElement n c.1) cs

-- f are the terms that h adds
pub record StaysWithin (n : ℕ) (p : Point) (h : Lie) (rays : List Wall) : Type 0 where
  pub new : (f : Sum) → AreAdded h f → IsLightAlong n f
  pub old : (f : Sum) (r : Wall) → AreAdded h f → In r rays → r.at ≡ p → mass_to n (r.function ++ terms_along r.dir f) ≤ largest_mass

abbrev pub StayWithin : ℕ → Corrections → List Wall → Type 0
StayWithin n cs rays = Every (λ c. StaysWithin n c.0 c.1 rays) cs

pub record IsMergedTo (given : List Wall) (e : Diagram) (cs : Corrections) (n : ℕ) (d : SeenDiagram) : Type 0 where
  pub order : d.order ≡ n
  pub merged : IsMerged given e cs n d.diagram
  pub few : length (walls d.diagram) ≤ most_walls

-- only for memory, or for more than 8192 walls of the merged diagram
abbrev pub IsStoppedAt : List Wall → Diagram → Corrections → ℕ → Stop → Type 0
IsStoppedAt given e cs n stop = IfStop stop (λ m cause. (m ≡ n) × (cause ≡ TooManyWalls) × ((e' : Diagram) × IsMerged given e cs n e' × (most_walls < length (walls e'))))

-- Where the exponents of the functions of walls are within 64 times the degree, those of corrections are.
use Rattle.std.proofs.Common.{ℕ, List}
use Rattle.scattering.specs.Wall.{Wall}
use Rattle.scattering.specs.Correction.{Corrections, AreCorrections}
use Rattle.scattering.proofs.Lists.{Every-implies}
use Rattle.local_product.proofs.Obstructed.{correction-within}
use Rattle.ray_merge.specs.Additions.{IsTameElement}
use Rattle.ray_merge.specs.Answer.{AreTame}
use Rattle.scatter_diagram.specs.Proper.{AreTameWalls}

pub tame-corrections : (ws : List Wall) (n : ℕ) (cs : Corrections) → AreTameWalls ws → AreCorrections ws n cs → AreTame n cs
tame-corrections ws n cs h a = Every-implies _ (λ c. IsTameElement n c.1) cs (λ c k. correction-within ws c.0 n c.1 h k.2) a.each

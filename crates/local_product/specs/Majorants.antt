-- Half-walls with the tables of their majorants' powers.
--     majorant_half, majorant_halves    the half-walls
--     HasMajorant n b                   b has the table of its wall's majorant, to degree n
--     AreBounding n hs bs               bs are the half-walls hs, with such tables
use Rattle.std.specs.Prelude.{◌≡◌, ℕ, neg_ℤ, List, map}
use Rattle.scattering.specs.Collections.{Every}
use Rattle.scattering.specs.Series.{Exp, Sum, monomial, z}
use Rattle.scattering.specs.LocalProduct.{Half, carry_majorant}
use Rattle.trunc_series.specs.declared.arithmetic.Arithmetic.TheVariants.{Saturating}
use Rattle.trunc_series.specs.Shown.{Seen}
use Rattle.power_tables.specs.Tables.{IsTableOf}
use Rattle.scatter_diagram.specs.Shown.{wall_of}
use Rattle.wall_auto.specs.ByDegree.{StandsByDegree}
use Rattle.wall_auto.specs.Sign.{sign}
use Rattle.local_product.specs.declared.half_walls.HalfWall.{HalfWall}
use Rattle.local_product.specs.declared.majorants.BoundingHalf.{BoundingHalf}
use Rattle.local_product.specs.OneVariable.{in_one_variable, IsInOneVariable}
use Rattle.local_product.specs.Shown.{halves_of}

abbrev pub majorant_half : BoundingHalf → Half
majorant_half b = record { wall = wall_of b.wall.now; side = neg_ℤ (sign b.crossing) }

abbrev pub majorant_halves : List BoundingHalf → List Half
majorant_halves bs = map majorant_half bs

-- the table is that of |f| in one variable
pub record HasMajorant (n : ℕ) (b : BoundingHalf) : Type 0 where
  pub bound : Seen
  pub in_one_variable : IsInOneVariable b.wall.now.function bound
  pub powers : IsTableOf Saturating n bound.terms b.powers

abbrev pub AreBounding : ℕ → List HalfWall → List BoundingHalf → Type 0
AreBounding n hs bs = (majorant_halves bs ≡ halves_of hs) × Every (HasMajorant n) bs

abbrev pub carried_majorant : ℕ → List BoundingHalf → Exp → Sum
carried_majorant n bs m = carry_majorant n (majorant_halves bs) (monomial (z m))

-- its parts by degree, in one variable, with saturating numbers
abbrev pub IsMajorantByDegree : ℕ → List BoundingHalf → Exp → List Sum → Type 0
IsMajorantByDegree n bs m parts = StandsByDegree Saturating n parts (in_one_variable (carried_majorant n bs m))

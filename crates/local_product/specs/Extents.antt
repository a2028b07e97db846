-- Which terms of an image are read.
--     extent_of x n f      all terms of f, or those of degree n alone
use Rattle.std.specs.Prelude.{ℕ}
use Rattle.scattering.specs.Series.{Sum}
use Rattle.scattering.specs.ThetaProduct.{of_degree}
use Rattle.local_product.specs.declared.carrying.Extent.{Extent}
use Rattle.local_product.specs.declared.carrying.Extent.TheVariants.{Whole, Highest}

abbrev pub extent_of : Extent → ℕ → Sum → Sum
extent_of Whole n f = f
extent_of Highest n f = of_degree n f

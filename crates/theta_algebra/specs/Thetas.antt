-- Theta functions as series of the program.
--     IsThetaOf ws b m q s      s is the series of order b that is the theta of m at q
use Rattle.std.specs.Prelude.{◌≡◌, ℕ, List}
use Rattle.scattering.specs.Series.{Exp, IsSeries}
use Rattle.scattering.specs.Plane.{Point}
use Rattle.scattering.specs.Wall.{Wall}
use Rattle.scattering.specs.Theta.{IsTheta}
use Rattle.trunc_series.specs.Shown.{Seen}

abbrev pub IsThetaOf : List Wall → ℕ → Exp → Point → Seen → Type 0
IsThetaOf ws b m q s = IsTheta ws b m q s.terms × (s.order ≡ b) × IsSeries b s.terms

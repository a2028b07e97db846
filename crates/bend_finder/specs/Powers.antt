-- Powers at a point, for the product F of the functions of the live walls there.
--     power_majorant n ls q i, power_series n ls q i     |F|^i and F^i
use Rattle.std.specs.Prelude.{ℕ, ◌<◌, ◌≤◌, List, ◌∷◌, map}
use Rattle.scattering.specs.Collections.{In, Every}
use Rattle.scattering.specs.Series.{Sum, Term, absolute, degree, pow, rest}
use Rattle.scattering.specs.Plane.{Point}
use Rattle.scattering.specs.Wall.{Wall}
use Rattle.scattering.specs.BrokenLine.{live_on, product}
use Rattle.trunc_series.specs.Shown.{Seen, IsSeriesOf}
use Rattle.trunc_series.specs.Capped.{IsMajorantOf}
use Rattle.scatter_diagram.specs.declared.wall.Wall.{Wall as CodeWall}

-- the functions are of order n at least
abbrev pub AreAtLeast : ℕ → List CodeWall → Type 0
AreAtLeast n ws = Every (λ w. n ≤ w.function.order) ws

-- the function has no term of degree at most n other than 1
abbrev pub HasNoneTo : ℕ → Wall → Type 0
HasNoneTo n w = (t : Term) → In t (rest w.function) → n < degree t.0

abbrev pub HaveNoneTo : ℕ → List Wall → Type 0
HaveNoneTo n ws = (w : Wall) → In w ws → HasNoneTo n w

-- |f| for the functions of the live walls on q
abbrev pub functions_on : List Wall → Point → List Sum
functions_on ls q = map (λ w. absolute w.function) (live_on ls q)

-- m has one wall more than the product p of the functions of others
abbrev pub IsMultiplied : ℕ → Wall → Point → Seen → Seen → Type 0
IsMultiplied n w q p m = (ls : List Wall) → IsMajorantOf p n (product n (functions_on ls q)) → IsMajorantOf m n (product n (functions_on (w ∷ ls) q))

-- the functions of the live walls on q
abbrev pub series_on : List Wall → Point → List Sum
series_on ls q = map (λ w. w.function) (live_on ls q)

abbrev pub power_majorant : ℕ → List Wall → Point → ℕ → Sum
power_majorant n ls q i = pow n (product n (functions_on ls q)) i

abbrev pub power_series : ℕ → List Wall → Point → ℕ → Sum
power_series n ls q i = pow n (product n (series_on ls q)) i

abbrev pub IsMultipliedExactly : ℕ → Wall → Point → Seen → Seen → Type 0
IsMultipliedExactly n w q p m = (ls : List Wall) → IsSeriesOf p n (product n (series_on ls q)) → IsSeriesOf m n (product n (series_on (w ∷ ls) q))

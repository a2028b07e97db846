-- What a table of masses keeps of a wall's function.
--     SeenMassTable                  what contracts see of a table
--     IsMassTable k d f t        t is a table of the function f of direction d, to degree k
use Rattle.std.specs.Prelude.{◌≡◌, ℕ, ◌+◌, ◌-◌, ◌≤◌, nat_abs, List, [], slice_index_or}
use Rattle.scattering.specs.Collections.{Every}
use Rattle.scattering.specs.Series.{Exp, Sum, degree, rest}
use Rattle.weight_bounds.specs.Masses.{mass_of_power, BoundsByDegree, IsReached}

pub record SeenMassTable : Type 0 where
  pub order : ℕ
  pub least : ℕ
  pub size : ℕ
  pub reach : List ℕ
  pub powers : List (List ℕ)

-- the masses by degree of the r-th power; where none are kept they are 0
abbrev pub masses_of : SeenMassTable → ℕ → List ℕ
masses_of t r = slice_index_or t.powers (r - 1) []

pub record IsMassTable (k : ℕ) (d : Exp) (f : Sum) (t : SeenMassTable) : Type 0 where
  pub order : t.order ≡ k
  pub size : t.size ≡ nat_abs d.a + nat_abs d.b
  pub positive : 1 ≤ t.least
  pub least : Every (λ u. t.least ≤ degree u.0) (rest f)
  pub reach : IsReached k t.reach f
  pub masses : (r : ℕ) → 1 ≤ r → BoundsByDegree k (masses_of t r) (mass_of_power f r)

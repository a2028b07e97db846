-- What tables of masses say of a wall's function.
use Rattle.std.proofs.Common.{ℕ, ◌≤◌, [], ◌∷◌, arith}
use Rattle.scattering.specs.Collections.{Every}
use Rattle.scattering.specs.Series.{Exp, Sum, degree, rest}
use Rattle.weight_bounds.specs.Tables.{SeenMassTable, IsMassTable}

pub table-positive : (k : ℕ) (d : Exp) (f : Sum) (t : SeenMassTable) → IsMassTable k d f t → Every (λ u. 1 ≤ degree u.0) (rest f)
table-positive k d f t h = go (rest f) h.least
  where
    go : (u : Sum) → Every (λ x. t.least ≤ degree x.0) u → Every (λ x. 1 ≤ degree x.0) u
    go [] q = tt
    go (x ∷ u) q = (let a = q.0 in let b = h.positive in omega (arith, a, b), go u q.1)

-- Sums in one variable: the powers of each key replaced by its degree, as a power of t1.
use Rattle.std.specs.Prelude.{map}
use Rattle.scattering.specs.Series.{Key, Term, Sum, no_powers, degree, absolute}
use Rattle.trunc_series.specs.Shown.{Seen, IsSeriesOf}

abbrev pub one_variable : Key → Key
one_variable k = record { powers = record no_powers { t1 = degree k }; exp = k.exp }

abbrev pub in_one_variable : Sum → Sum
in_one_variable f = map (λ (t : Term). (one_variable t.0, t.1)) f

-- s is the series of |f|, of the same order
abbrev pub IsInOneVariable : Seen → Seen → Type 0
IsInOneVariable f s = IsSeriesOf s f.order (in_one_variable (absolute f.terms))

-- A series is told by its coefficients, so the terms of a series that has a sum's coefficients are those of the sum.
use Rattle.std.proofs.Common.{◌≡◌, ℕ, refl, ap, ◌∙◌, arith}
use Rattle.std.specs.Prelude.{ℤ, pos, ◌≤ℤ◌, nat_abs}
use Rattle.std.proofs.lemmas.Int.{ints}
use Rattle.trunc_series.specs.Worked.{line_terms}
use Rattle.scattering.specs.Series.{Term, Sum, IsSeries}
use Rattle.trunc_series.specs.Shown.{Seen, IsSeriesOf}
use Rattle.std.specs.Int.{int_min}
use Rattle.trunc_series.specs.Arithmetic.{limit}
use Rattle.trunc_series.specs.Capped.{IsMajorant, IsMajorantOf}
use Rattle.trunc_series.proofs.Majorants.{min-fixed}
use Rattle.scattering.proofs.Lists.{Every-implies}
use Rattle.scattering.proofs.Determined.{terms-unique}
use Rattle.trunc_series.proofs.Coefficients.{apart-rising, coef-has}

pub series-terms : (s : Seen) (n m : ℕ) (f : Sum) → IsSeriesOf s n f → IsSeries m f → s.terms ≡ f
series-terms s n m f h v = terms-unique s.terms f h.series.rises v.rises h.series.nonzero v.nonzero h.same

-- the same of majorants, of sums whose coefficients are kept as they are
pub majorant-terms : (s : Seen) (n m : ℕ) (f : Sum) → IsMajorantOf s n f → IsMajorant m f → s.terms ≡ f
majorant-terms s n m f h v =
    terms-unique s.terms f h.series.rises v.series.rises h.series.nonzero v.series.nonzero
    (λ k. h.capped k ∙ coef-has (λ c. int_min c limit ≡ c) f refl (apart-rising f v.series.rises) (Every-implies (λ (t : Term). (pos 0 ≤ℤ t.1) × (t.1 ≤ℤ limit)) (λ t. int_min t.1 limit ≡ t.1) f (λ t i. min-fixed t.1 i.1) v.range) k)

pub line-series : (c : ℤ) → nat_abs c ≡ 1 → IsSeries 2 (line_terms c)
line-series c h = record {
  rises = ((refl, tt), (tt, tt));
  nonzero = ((λ e. cc), ((λ e. absurd (let q : nat_abs c ≡ 0 = ap nat_abs e in omega (arith, h, q))), tt));
  low = (omega arith, (omega arith, tt));
}

pub line-majorant : IsMajorant 2 (line_terms (pos 1))
line-majorant = record {
  order = omega arith;
  series = line-series (pos 1) refl;
  range = ((omega (arith, ints), omega (arith, ints)), ((omega (arith, ints), omega (arith, ints)), tt));
}

-- Wall functions of one term.
use Rattle.std.proofs.Common.{◌≢◌, refl, arith}
use Rattle.std.specs.Prelude.{ℤ, pos}
use Rattle.std.proofs.lemmas.Int.{ints}
use Rattle.scattering.specs.Series.{IsWallFunction}
use Rattle.trunc_series.specs.Shown.{HasNearTerms}
use Rattle.trunc_series.specs.Worked.{line_terms}

pub wall-line : (c : ℤ) → c ≢ pos 0 → IsWallFunction 2 (record { a = pos 1; b = pos 0 }) (line_terms c)
wall-line c n = record {
  series = record { rises = ((refl, tt), (tt, tt)); nonzero = ((λ e. cc), (n, tt)); low = (omega arith, (omega arith, tt)) };
  constant = refl;
  others = ((omega arith, (pos 1, omega (arith, ints), refl)), tt);
}

pub near-line : (c : ℤ) → HasNearTerms (line_terms c)
near-line c = ((omega arith, omega arith), ((omega arith, omega arith), tt))

-- The terms so far.
use Rattle.std.proofs.Common.{map, take}
use Rattle.scattering.specs.Series.{rest}
use Rattle.plane_geom.specs.Shown.{vector_of}
use Rattle.trunc_series.specs.Shown.{sum_of}
use Rattle.scatter_text.specs.PrintedRows.{row_of, AreAlong}
use Rattle.scatter_text.proofs.along.terms_along.Given as goal

abbrev pub invariant-loop-term : goal.invariant-loop-term
invariant-loop-term l = AreAlong (vector_of l.dir) (map row_of l.out.items) (rest (sum_of (take l.term-index l.terms)))

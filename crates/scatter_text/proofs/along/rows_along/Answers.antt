-- The sorted terms are the rows.
use Rattle.std.proofs.Common.{map, sym, subst}
use Rattle.scattering.specs.Collections.{Every}
use Rattle.scattering.specs.Series.{Sum, rest, IsMultiple}
use Rattle.plane_geom.specs.Shown.{vector_of}
use Rattle.scatter_diagram.specs.Shown.{wall_of}
use Rattle.scatter_text.specs.PrintedRows.{row_of, AreAlong}
use Rattle.scatter_text.proofs.WallRows.{multiples, are-rows}
use Rattle.scatter_text.proofs.along.rows_along.Goals as goal

pub terms_along-requires : goal.terms_along-requires
terms_along-requires c =
    let w = c.args.wall.now in
    subst (λ (f : Sum). Every (λ t. IsMultiple (vector_of w.dir) t.0.exp) (rest f)) (sym c.terms.ensures.terms) (multiples w.function.order (vector_of w.dir) w.function.terms w.proper.function)

pub returns : goal.returns
returns c =
    let w = c.args.wall.now in
    are-rows (wall_of w) w.function.order c.in_ok-rows.rows.items c.sort.new.rows.items c.terms.ensures.valid.series
    (subst (λ (f : Sum). AreAlong (vector_of w.dir) (map row_of c.in_ok-rows.rows.items) (rest f)) c.terms.ensures.terms c.in_ok-rows.ensures)
    c.sort.ensures.permutation c.sort.ensures.sorted

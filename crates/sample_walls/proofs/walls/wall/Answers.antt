use Rattle.std.proofs.Common.{ap, sym, ◌∙◌}
use Rattle.std.proofs.lemmas.Int.{to_z-of_z}
use mir.Syntax.{w32}
use Rattle.plane_geom.specs.Places.{pair}
use Rattle.plane_geom.specs.Shown.{point_of}
use Rattle.trunc_series.specs.Shown.{sum_of}
use Rattle.trunc_series.proofs.Unique.{series-terms}
use Rattle.scatter_diagram.specs.Kinds.{kind_of}
use Rattle.scatter_diagram.specs.Shown.{wall_of}
use Rattle.sample_walls.proofs.LowFunctions.{low-series, low-terms, low-distinct, low-made, low-direction}
use Rattle.sample_walls.proofs.walls.wall.Goals as goal
use Rattle.sample_walls.proofs.walls.wall.Goals.{in-Line, in-Outgoing}

pub from_terms-requires-clause-distinct : goal.from_terms-requires-clause-distinct
from_terms-requires-clause-distinct c = low-distinct c.args.order (pair c.args.a c.args.b) (sum_of c.args.terms.now) c.requires.function

pub from_terms-requires-clause-each : goal.from_terms-requires-clause-each
from_terms-requires-clause-each c = low-terms c.args.order (pair c.args.a c.args.b) (sum_of c.args.terms.now) c.requires.function

pub line-requires : goal.line-requires
line-requires c =
    let d = low-direction c.new.result c.in_ok-dir.dir (pair c.args.a c.args.b) c.in_ok-dir.ensures.ok_part (rw (to_z-of_z w32 c.args.a c.ranges.a, to_z-of_z w32 c.args.b c.ranges.b) at c.new.ensures.numbers) in
    low-made c.in_ok-dir.dir (pair c.args.a c.args.b) c.args.order (sum_of c.args.terms.now) c.in_ok-function.function d c.requires.function c.in_ok-function.ensures

pub outgoing-requires : goal.outgoing-requires
outgoing-requires c =
    let d = low-direction c.new.result c.in_ok-dir.dir (pair c.args.a c.args.b) c.in_ok-dir.ensures.ok_part (rw (to_z-of_z w32 c.args.a c.ranges.a, to_z-of_z w32 c.args.b c.ranges.b) at c.new.ensures.numbers) in
    low-made c.in_ok-dir.dir (pair c.args.a c.args.b) c.args.order (sum_of c.args.terms.now) c.in_ok-function.function d c.requires.function c.in_ok-function.ensures

pub returns-clause-wall : goal.returns-clause-wall
returns-clause-wall c =
    let d = low-direction c.new.result c.in_ok-dir.dir (pair c.args.a c.args.b) c.in_ok-dir.ensures.ok_part (rw (to_z-of_z w32 c.args.a c.ranges.a, to_z-of_z w32 c.args.b c.ranges.b) at c.new.ensures.numbers) in
    let t = series-terms c.in_ok-function.function c.args.order c.args.order (sum_of c.args.terms.now) c.in_ok-function.ensures (low-series c.args.order (pair c.args.a c.args.b) (sum_of c.args.terms.now) c.requires.function) in
    elim c.match-kind.branch [
      | in-Line w ↦ ap wall_of w.result-is ∙ w.line.ensures.wall ∙ (λ i. record { kind = kind_of (sym w.in-Line.is i); at = point_of c.args.at; dir = d i; function = t i })
      | in-Outgoing w ↦ ap wall_of w.result-is ∙ w.outgoing.ensures.wall ∙ (λ i. record { kind = kind_of (sym w.in-Outgoing.is i); at = point_of c.args.at; dir = d i; function = t i })
    ]

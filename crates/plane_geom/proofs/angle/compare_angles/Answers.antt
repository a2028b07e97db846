use Rattle.std.proofs.Common.{true, false, ◌∙◌}
use Rattle.plane_geom.specs.Shown.{vector_of}
use Rattle.plane_geom.proofs.Casts.{back25}
use Rattle.plane_geom.proofs.Ordered.{one-half, first-upper, second-upper}
use Rattle.plane_geom.proofs.angle.compare_angles.Goals as goal

pub returns-then-upper-2 : goal.returns-then-upper-2
returns-then-upper-2 c = c.by_turn.ensures ∙ one-half (vector_of c.args.d.now) (vector_of c.args.e.now) true c.if-upper.ensures c.if-upper-2.ensures _ (back25 c.det.result c.det.ensures.bound ∙ c.det.ensures.value)

pub returns-else-upper-2 : goal.returns-else-upper-2
returns-else-upper-2 c = first-upper (vector_of c.args.d.now) (vector_of c.args.e.now) c.if-upper.ensures c.if-upper-2.ensures

pub returns-then-upper-3 : goal.returns-then-upper-3
returns-then-upper-3 c = second-upper (vector_of c.args.d.now) (vector_of c.args.e.now) c.if-upper.ensures c.if-upper-3.ensures

pub returns-else-upper-3 : goal.returns-else-upper-3
returns-else-upper-3 c =
    c.by_turn-else-upper-3.ensures
    ∙ one-half (vector_of c.args.d.now) (vector_of c.args.e.now) false c.if-upper.ensures c.if-upper-3.ensures _ (back25 c.det-else-upper-3.result c.det-else-upper-3.ensures.bound ∙ c.det-else-upper-3.ensures.value)

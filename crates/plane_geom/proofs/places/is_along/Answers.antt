use Rattle.std.proofs.Common.{◌∙◌, sym}
use Rattle.plane_theory.proofs.Points.{line-test}
use Rattle.plane_theory.proofs.Directions.{direction-not_origin}
use Rattle.plane_geom.specs.Shown.{point_of, vector_of}
use Rattle.plane_geom.proofs.Casts.{zero-out, zero-in}
use Rattle.plane_geom.proofs.places.is_along.Goals as goal

pub returns : goal.returns
returns c =
    let t = line-test (point_of c.args.at.now) (vector_of c.args.dir.now) (point_of c.args.p.now) c.args.at.now.reduced.below c.args.p.now.reduced.below (direction-not_origin _ c.args.dir.now.primitive) in
    (λ h. t.0 (sym c.turn.ensures ∙ zero-out c.turn.result c.turn.type_inv h), λ h. zero-in c.turn.result (c.turn.ensures ∙ t.1 h))

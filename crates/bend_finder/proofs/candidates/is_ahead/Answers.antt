use Rattle.std.proofs.Common.{sym, subst}
use Rattle.std.specs.Prelude.{◌↔◌, IsTrue}
use Rattle.scattering.specs.Plane.{FromOn, Beyond}
use Rattle.plane_geom.specs.declared.Support.{Support}
use Rattle.plane_geom.specs.Shown.{point_of, vector_of, OnSupport}
use Rattle.plane_theory.proofs.Points.{beyond-from}
use Rattle.plane_theory.proofs.Directions.{direction-not_origin}
use Rattle.bend_finder.proofs.WallCrossings.{from-beyond, not-beyond}
use Rattle.bend_finder.proofs.candidates.is_ahead.Goals as goal

pub returns-in-Equal : goal.returns-in-Equal
returns-in-Equal c = (
  λ t. absurd (cc),
  λ b. absurd (not-beyond (point_of c.args.p.now) (vector_of c.args.d.now) c.args.p.now.reduced (direction-not_origin (vector_of c.args.d.now) c.args.d.now.primitive)
      (subst (Beyond (point_of c.args.p.now) (vector_of c.args.d.now)) (sym (c.compare.ensures.equal.0 c.in-Equal.is)) b)),
)

pub returns-in_default : goal.returns-in_default
returns-in_default c =
    let o : IsTrue c.on.result ↔ FromOn (point_of c.args.p.now) (vector_of c.args.d.now) (point_of c.args.q.now) =
    subst (λ (s : Support). IsTrue c.on.result ↔ OnSupport s (point_of c.args.q.now)) c.stretch.ensures c.on.ensures in (
      λ t. from-beyond (point_of c.args.p.now) (vector_of c.args.d.now) (point_of c.args.q.now) c.args.p.now.reduced c.args.q.now.reduced (o.0 t) (λ e. c.in_default.not-Equal (c.compare.ensures.equal.1 (sym e))),
      λ b. o.1 (beyond-from (point_of c.args.p.now) (vector_of c.args.d.now) (point_of c.args.q.now) b),
    )

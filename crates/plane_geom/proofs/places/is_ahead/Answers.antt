use Rattle.std.proofs.Common.{◌∙◌, sym, subst, ℤ, pos}
use Rattle.std.specs.Prelude.{◌≤ℤ◌}
use Rattle.plane_theory.proofs.Points.{from-test, test-from}
use Rattle.plane_theory.proofs.Directions.{direction-not_origin}
use Rattle.plane_geom.specs.Shown.{point_of, vector_of}
use Rattle.plane_geom.proofs.Casts.{zero-out, zero-bits, bits-zero, least-out, least-in}
use Rattle.plane_geom.proofs.places.is_ahead.Goals as goal

pub returns-then-turn-eq0 : goal.returns-then-turn-eq0
returns-then-turn-eq0 c =
    let u = c.args.start.now.reduced.below in let v = c.args.p.now.reduced.below in
    let z = zero-bits c.turn-turn.result c.turn-turn.type_inv c.if-turn-eq0.true in (
      λ h. test-from (point_of c.args.start.now) (vector_of c.args.along.now) (point_of c.args.p.now) u v (direction-not_origin _ c.args.along.now.primitive) (sym c.turn-turn.ensures ∙ z)
          (subst (λ (x : ℤ). pos 0 ≤ℤ x) c.ahead-ahead.ensures (least-out c.ahead-ahead.result c.ahead-ahead.type_inv h)),
      λ h. least-in c.ahead-ahead.result c.ahead-ahead.type_inv (subst (λ (x : ℤ). pos 0 ≤ℤ x) (sym c.ahead-ahead.ensures) (from-test (point_of c.args.start.now) (vector_of c.args.along.now) (point_of c.args.p.now) u v h).1),
    )

pub returns-else-turn-eq0 : goal.returns-else-turn-eq0
returns-else-turn-eq0 c =
    let u = c.args.start.now.reduced.below in let v = c.args.p.now.reduced.below in (
      λ h. absurd (c.if-turn-eq0.false (bits-zero c.turn-turn.result (zero-out c.turn-turn.result c.turn-turn.type_inv h))),
      λ h. absurd (c.if-turn-eq0.false (bits-zero c.turn-turn.result (c.turn-turn.ensures ∙ (from-test (point_of c.args.start.now) (vector_of c.args.along.now) (point_of c.args.p.now) u v h).0))),
    )

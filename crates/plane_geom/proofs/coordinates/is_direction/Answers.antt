use Rattle.std.proofs.Common.{eqb-true, eq-eqb}
use Rattle.plane_geom.proofs.Made.{direction-found, direction-one}
use Rattle.plane_geom.proofs.coordinates.is_direction.Goals as goal

pub returns : goal.returns
returns c = (
  λ h. direction-found c.args.a c.args.b c.unsigned_abs-x.result c.unsigned_abs-y.result c.ranges.a c.ranges.b c.unsigned_abs-x.ensures.value c.unsigned_abs-y.ensures.value c.gcd.result c.if-x-gt-LARGEST_DIRECTION.false c.if-y-gt-LARGEST_DIRECTION.false c.gcd.ensures (eqb-true c.gcd.result 1 h),
  λ h. eq-eqb c.gcd.result 1 (direction-one c.args.a c.args.b c.unsigned_abs-x.result c.unsigned_abs-y.result c.ranges.a c.ranges.b c.unsigned_abs-x.ensures.value c.unsigned_abs-y.ensures.value c.gcd.result c.gcd.ensures h),
)

use Rattle.plane_geom.proofs.Ordered.{angles-equal, angles-ordered}
use Rattle.plane_geom.proofs.angle.angle_cmp.Goals as goal

pub returns-clause-equal : goal.returns-clause-equal
returns-clause-equal c = angles-equal c.args.d.now c.args.e.now c.compare_angles.result c.compare_angles.ensures

pub returns-clause-total : goal.returns-clause-total
returns-clause-total c = angles-ordered

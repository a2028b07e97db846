use Rattle.std.proofs.Common.{◌≡◌, ℕ, ◌-◌, subst, arith}
use Rattle.scattering.specs.Wall.{walls}
use Rattle.joint_finder.specs.Joints.{AreJoints, points_of}
use Rattle.correction_tests.proofs.joints.found_from.Goals as goal

pub joints_from-requires-clause-known : goal.joints_from-requires-clause-known
joints_from-requires-clause-known g c κs o = λ n e.
    let before : c.args.order - 1 ≡ n = omega (arith, e) in
    rw c.as_slice.ensures.value (subst (λ (k : ℕ). AreJoints k (walls c.args.e.now.diagram) (points_of c.in_ok-known.known.items)) before c.in_ok-known.ensures.joints)

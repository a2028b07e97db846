use Rattle.std.proofs.Common.{subst}
use Rattle.scattering.specs.Series.{Exp}
use Rattle.plane_geom.specs.Shown.{vector_of, support_dir, OnSupport}
use Rattle.joint_finder.specs.Strands.{IsSameUpToSign}
use Rattle.joint_finder.proofs.StrandWalls.{on-line}
use Rattle.joint_finder.proofs.strands.lies_on.Goals as goal

pub returns-then-on : goal.returns-then-on
returns-then-on c = λ t. on-line c.args.line.now c.args.s.now c.requires
    (subst (OnSupport c.args.line.now) c.whole_line.ensures.at (c.on.ensures.0 c.if-on.true))
    (subst (IsSameUpToSign (support_dir c.args.s.now)) c.whole_line-2.ensures.dir (subst (λ (d : Exp). IsSameUpToSign d (vector_of c.whole_line-2.result.1.now)) c.whole_line.ensures.dir (c.are_along.ensures t)))

use Rattle.std.proofs.Common.{subst}
use Rattle.std.specs.Prelude.{None}
use Rattle.std.proofs.lemmas.Result.{err_from_is_err_and}
use Rattle.scattering.specs.Theta.{IsAskFault}
use Rattle.plane_geom.specs.Shown.{point_of}
use Rattle.trunc_series.specs.Shown.{exp_of}
use Rattle.bend_finder.specs.Ahead.{SeenFinder}
use Rattle.broken_lines.specs.Traced.{IsTailsFault}
use Rattle.theta_algebra.specs.Thetas.{IsThetaOf}
use Rattle.theta_algebra.proofs.thetas.theta.Goals as goal

pub returns-in_err-weighed-clause-fault : goal.returns-in_err-weighed-clause-fault
returns-in_err-weighed-clause-fault c =
    let p = err_from_is_err_and c.from_residual-in_err-weighed.result c.from_residual-in_err-weighed.ensures.1 in
    rw (p.1, p.2) (subst (λ (f : SeenFinder). IsTailsFault f.walls f.limit (exp_of c.args.m) (point_of c.args.at.now) c.in_err-weighed.field-0.0) c.in_ok-tracer.ensures c.in_err-weighed.ensures.fault)

pub returns-clause-theta : goal.returns-clause-theta
returns-clause-theta c = subst (λ (f : SeenFinder). IsThetaOf f.walls f.limit (exp_of c.args.m) (point_of c.args.at.now) c.in_ok-weighed.weighed.0) c.in_ok-tracer.ensures c.in_ok-weighed.ensures.theta

pub returns-clause-free : goal.returns-clause-free
returns-clause-free c = subst (λ (f : SeenFinder). IsAskFault f.walls f.limit (exp_of c.args.m) (point_of c.args.at.now) None) c.in_ok-tracer.ensures c.in_ok-weighed.ensures.free

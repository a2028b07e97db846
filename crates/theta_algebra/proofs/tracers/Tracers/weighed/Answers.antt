use Rattle.std.proofs.Common.{◌≡◌, ◌≤◌, ℕ, ◌∙◌, sym, subst}
use Rattle.std.specs.Prelude.{IfOk, IfErr, None}
use Rattle.std.specs.Ordering.{nat_cmp}
use Rattle.std.proofs.lemmas.Map.Lookups.{exact_unsigned}
use Rattle.scattering.specs.Theta.{IsAskFault}
use Rattle.scattering.specs.ThetaProduct.{IsThetaWeight}
use Rattle.scattering.specs.Wall.{walls}
use Rattle.plane_geom.specs.Shown.{point_of}
use Rattle.trunc_series.specs.Shown.{exp_of}
use Rattle.scatter_diagram.specs.Listed.{SeenDiagram}
use Rattle.bend_finder.specs.Ahead.{SeenFinder, finder}
use Rattle.broken_lines.specs.Traced.{IsTailsFault}
use Rattle.theta_algebra.specs.Thetas.{IsThetaOf}
use Rattle.bend_finder.proofs.KeptMaps.{put-has, same-has}
use Rattle.theta_algebra.proofs.tracers.Tracers.weighed.Goals as goal

pub taken_tracer-requires-clause-limit : goal.taken_tracer-requires-clause-limit
taken_tracer-requires-clause-limit c = subst (λ (e : SeenDiagram). c.args.limit ≤ e.order) (sym c.self.view_is) c.requires.limit

pub invariant_of-self-in_err-insert : goal.invariant_of-self-in_err-insert
invariant_of-self-in_err-insert c =
    same-has nat_cmp (λ (k : ℕ) (f : SeenFinder). f ≡ finder (walls c.self.inside.diagram.now.diagram) k) c.taken_tracer.new.kept c.insert.new.self c.in_err-insert.ensures.err c.in_ok-tracer.ensures.kept

pub invariant_of-self-2 : goal.invariant_of-self-2
invariant_of-self-2 c =
    put-has nat_cmp (λ (k : ℕ) (f : SeenFinder). f ≡ finder (walls c.self.inside.diagram.now.diagram) k) c.taken_tracer.new.kept c.insert.new.self exact_unsigned c.args.limit c.weighed_theta-weighed.new.tracer c.in_ok-insert.ensures.updates
    (c.weighed_theta-weighed.ensures.same ∙ c.in_ok-tracer.ensures.tracer) c.in_ok-tracer.ensures.kept

pub returns-clause-theta : goal.returns-clause-theta
returns-clause-theta c =
    subst (λ (e : SeenDiagram). IfOk c.weighed_theta-weighed.result (λ r. IsThetaOf (walls e.diagram) c.args.limit (exp_of c.args.m) (point_of c.args.at.now) r.0)) c.self.view_is
    (subst (λ (f : SeenFinder). IfOk c.weighed_theta-weighed.result (λ r. IsThetaOf f.walls f.limit (exp_of c.args.m) (point_of c.args.at.now) r.0)) c.in_ok-tracer.ensures.tracer c.weighed_theta-weighed.ensures.theta)

pub returns-clause-weight : goal.returns-clause-weight
returns-clause-weight c =
    subst (λ (e : SeenDiagram). IfOk c.weighed_theta-weighed.result (λ r. IsThetaWeight (walls e.diagram) c.args.limit (exp_of c.args.m) (point_of c.args.at.now) r.1)) c.self.view_is
    (subst (λ (f : SeenFinder). IfOk c.weighed_theta-weighed.result (λ r. IsThetaWeight f.walls f.limit (exp_of c.args.m) (point_of c.args.at.now) r.1)) c.in_ok-tracer.ensures.tracer c.weighed_theta-weighed.ensures.weight)

pub returns-clause-free : goal.returns-clause-free
returns-clause-free c =
    subst (λ (e : SeenDiagram). IfOk c.weighed_theta-weighed.result (λ r. IsAskFault (walls e.diagram) c.args.limit (exp_of c.args.m) (point_of c.args.at.now) None)) c.self.view_is
    (subst (λ (f : SeenFinder). IfOk c.weighed_theta-weighed.result (λ r. IsAskFault f.walls f.limit (exp_of c.args.m) (point_of c.args.at.now) None)) c.in_ok-tracer.ensures.tracer c.weighed_theta-weighed.ensures.free)

pub returns-clause-fault : goal.returns-clause-fault
returns-clause-fault c =
    subst (λ (e : SeenDiagram). IfErr c.weighed_theta-weighed.result (IsTailsFault (walls e.diagram) c.args.limit (exp_of c.args.m) (point_of c.args.at.now))) c.self.view_is
    (subst (λ (f : SeenFinder). IfErr c.weighed_theta-weighed.result (IsTailsFault f.walls f.limit (exp_of c.args.m) (point_of c.args.at.now))) c.in_ok-tracer.ensures.tracer c.weighed_theta-weighed.ensures.fault)

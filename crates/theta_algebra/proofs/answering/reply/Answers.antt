-- What each kind asks for is what its call gives.
use Rattle.std.proofs.Common.{ℕ, sym, subst, Ok}
use Rattle.scattering.specs.Wall.{walls}
use Rattle.plane_geom.specs.Shown.{point_of}
use Rattle.theta_algebra.specs.declared.query.QueryKind.{QueryKind}
use Rattle.theta_algebra.specs.declared.query.QueryKind.TheVariants.{Theta, Product}
use Rattle.theta_algebra.specs.declared.query.Reply.TheVariants.{Series, Family}
use Rattle.theta_algebra.specs.Answering.{IsResult}
use Rattle.theta_algebra.proofs.answering.reply.Goals as goal

pub returns-in_ok-weighed-in-Theta-clause-result : goal.returns-in_ok-weighed-in-Theta-clause-result
returns-in_ok-weighed-in-Theta-clause-result c =
    let ws = walls c.args.tracers.now.diagram in
    let q = point_of c.args.at.now in
    let r = Ok (Series c.in_ok-weighed-in-Theta.weighed.0) in
    subst (λ (k : QueryKind). IsResult ws c.args.tracers.now.order k q r) (sym c.in-Theta.is)
    (subst (λ (n : ℕ). IsResult ws n (Theta c.in-Theta.m) q r) c.order-order.ensures.value (c.in_ok-weighed-in-Theta.ensures.theta, c.in_ok-weighed-in-Theta.ensures.free))

pub returns-in_ok-family-in-Product-clause-result : goal.returns-in_ok-family-in-Product-clause-result
returns-in_ok-family-in-Product-clause-result c =
    let ws = walls c.args.tracers.now.diagram in
    let q = point_of c.args.at.now in
    let r = Ok (Family c.in_ok-family-in-Product.family) in
    subst (λ (k : QueryKind). IsResult ws c.args.tracers.now.order k q r) (sym c.in-Product.is)
    (subst (λ (n : ℕ). IsResult ws n (Product c.in-Product.p c.in-Product.q) q r) c.order-order.ensures.value (c.in_ok-family-in-Product.ensures.family, c.in_ok-family-in-Product.ensures.free))

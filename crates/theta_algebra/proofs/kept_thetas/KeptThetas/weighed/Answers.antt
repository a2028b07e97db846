use Rattle.std.proofs.Common.{ℕ, sym, subst, ◌≡◌}
use Rattle.std.specs.Prelude.{None}
use Rattle.scattering.specs.Wall.{walls}
use Rattle.scattering.specs.Theta.{IsAskFault}
use Rattle.plane_geom.specs.Shown.{point_of}
use Rattle.trunc_series.specs.Shown.{exp_of}
use Rattle.theta_algebra.specs.Thetas.{IsThetaOf}
use Rattle.theta_algebra.specs.KeptThetas.{AreKeptThetas}
use Rattle.theta_algebra.proofs.kept_thetas.KeptThetas.weighed.Goals as goal
use Rattle.theta_algebra.proofs.kept_thetas.KeptThetas.weighed.Goals.{in-Some+else-kept-limit, in_default}

pub returns-then-kept-limit-clause-theta : goal.returns-then-kept-limit-clause-theta
returns-then-kept-limit-clause-theta c =
    let kept = c.requires.kept c.args.m c.in-Some.kept.now (sym c.in-Some.ensures.value) in
    let at = subst (λ (n : ℕ). IsThetaOf (walls c.args.tracers.now.diagram) n (exp_of c.args.m) (point_of c.args.at.now) c.in-Some.kept.now.theta) c.if-kept-limit.true kept.theta in
    subst (IsThetaOf (walls c.args.tracers.now.diagram) c.args.limit (exp_of c.args.m) (point_of c.args.at.now)) (sym c.in_ok-copy.ensures) at

pub returns-then-kept-limit-clause-free : goal.returns-then-kept-limit-clause-free
returns-then-kept-limit-clause-free c =
    let kept = c.requires.kept c.args.m c.in-Some.kept.now (sym c.in-Some.ensures.value) in
    subst (λ (n : ℕ). IsAskFault (walls c.args.tracers.now.diagram) n (exp_of c.args.m) (point_of c.args.at.now) None) c.if-kept-limit.true kept.free

pub returns-in_err-weighed-clause-kept : goal.returns-in_err-weighed-clause-kept
returns-in_err-weighed-clause-kept c =
    let same : c.match-get.self ≡ c.args.self.now = elim c.match-get.branch [ in-Some+else-kept-limit w ↦ w.self-is | in_default w ↦ w.self-is ] in
    subst (AreKeptThetas (walls c.args.tracers.now.diagram) (point_of c.args.at.now)) (sym same) c.requires.kept

pub returns-in_err-keep-clause-kept : goal.returns-in_err-keep-clause-kept
returns-in_err-keep-clause-kept c =
    let same : c.match-get.self ≡ c.args.self.now = elim c.match-get.branch [ in-Some+else-kept-limit w ↦ w.self-is | in_default w ↦ w.self-is ] in
    c.keep.ensures (walls c.args.tracers.now.diagram) (point_of c.args.at.now)
    (subst (AreKeptThetas (walls c.args.tracers.now.diagram) (point_of c.args.at.now)) (sym same) c.requires.kept)
    (record { theta = c.in_ok-weighed.ensures.theta; weight = c.in_ok-weighed.ensures.weight; free = c.in_ok-weighed.ensures.free })

pub returns-clause-kept : goal.returns-clause-kept
returns-clause-kept c =
    let same : c.match-get.self ≡ c.args.self.now = elim c.match-get.branch [ in-Some+else-kept-limit w ↦ w.self-is | in_default w ↦ w.self-is ] in
    c.keep.ensures (walls c.args.tracers.now.diagram) (point_of c.args.at.now)
    (subst (AreKeptThetas (walls c.args.tracers.now.diagram) (point_of c.args.at.now)) (sym same) c.requires.kept)
    (record { theta = c.in_ok-weighed.ensures.theta; weight = c.in_ok-weighed.ensures.weight; free = c.in_ok-weighed.ensures.free })

use Rattle.std.proofs.Common.{◌≡◌, ℕ, sym, subst, ◌∙◌, ◌+◌, arith}
use Rattle.std.proofs.lemmas.Result.{err_from_is_err_and}
use Rattle.scattering.specs.ThetaProduct.{StepsFault}
use Rattle.scattering.specs.Wall.{walls}
use Rattle.plane_geom.specs.Shown.{point_of}
use Rattle.scatter_diagram.specs.Listed.{SeenDiagram}
use Rattle.broken_lines.specs.Traced.{IsFaultBy}
use Rattle.theta_algebra.specs.KeptThetas.{AreKeptThetas}
use Rattle.theta_algebra.specs.Steps.{IsKnownDiagram, IsAtStage, IsAtSomeStage}
use Rattle.theta_algebra.proofs.product.run.Goals as goal

pub step-requires-clause-given : goal.step-requires-clause-given
step-requires-clause-given c = subst (λ (e : SeenDiagram). IsKnownDiagram e c.args.limit) (sym c.loop-d.invariant.2) c.requires.given

pub step-requires-clause-before : goal.step-requires-clause-before
step-requires-clause-before c =
    let b = c.requires.begun in
    subst (λ (e : SeenDiagram). IsAtSomeStage (walls e.diagram) c.args.limit (point_of c.args.at.now) c.loop-d.d c.loop-d.steps) (sym c.loop-d.invariant.2) (b.0, b.1, c.loop-d.invariant.0 b.0 b.1 b.2)

pub step-requires-clause-kept : goal.step-requires-clause-kept
step-requires-clause-kept c =
    subst (λ (e : SeenDiagram). AreKeptThetas (walls e.diagram) (point_of c.args.at.now) c.loop-d.thetas) (sym c.loop-d.invariant.2) c.loop-d.invariant.1

pub loop-d-preserved : goal.loop-d-preserved
loop-d-preserved c =
    let same = c.loop-d.invariant.2 in (
      λ s first begun. subst
          (λ (e : SeenDiagram). IsAtStage (walls e.diagram) c.args.limit (point_of c.args.at.now) s first c.loop-d.d c.loop-d.steps
          → IsAtStage (walls e.diagram) c.args.limit (point_of c.args.at.now) s first (c.loop-d.d + 1) c.in_ok-steps.steps) same (c.in_ok-steps.ensures.after s first) (c.loop-d.invariant.0 s first begun),
      subst (λ (e : SeenDiagram). AreKeptThetas (walls e.diagram) (point_of c.args.at.now) c.step.new.thetas) same c.in_ok-steps.ensures.kept,
      c.in_ok-steps.ensures.same ∙ same,
    )

pub returns-in_err-steps-clause-fault : goal.returns-in_err-steps-clause-fault
returns-in_err-steps-clause-fault c =
    let p = err_from_is_err_and c.from_residual.result c.from_residual.ensures.1 in
    rw (p.1, p.2) (λ s first begun. subst
    (λ (e : SeenDiagram). IsAtStage (walls e.diagram) c.args.limit (point_of c.args.at.now) s first c.loop-d.d c.loop-d.steps
    → IsFaultBy (StepsFault (walls e.diagram) c.args.limit (point_of c.args.at.now) s first) c.in_err-steps.field-0.0) c.loop-d.invariant.2 (c.in_err-steps.ensures.fault s first) (c.loop-d.invariant.0 s first begun))

pub returns-clause-after : goal.returns-clause-after
returns-clause-after c =
    let f = c.loop-d-test.false in let g = c.loop-d.auto.d-end in
    let e : c.loop-d.d ≡ c.args.limit + 1 = omega (arith, f, g) in
    λ s first begun. subst (λ (d : ℕ). IsAtStage (walls c.args.tracers.now.diagram) c.args.limit (point_of c.args.at.now) s first d c.loop-d.steps) e (c.loop-d.invariant.0 s first begun)

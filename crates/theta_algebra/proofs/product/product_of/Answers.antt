use Rattle.std.proofs.Common.{ℕ, ◌≤◌, sym, subst, ◌*◌, ◌+◌}
use Rattle.std.proofs.lemmas.Result.{err_from_is_err_and}
use Rattle.limits.specs.Limits.{highest_order}
use Rattle.scattering.specs.Series.{IsSeries}
use Rattle.scattering.specs.ThetaProduct.{StepsFault}
use Rattle.scattering.specs.Wall.{walls}
use Rattle.plane_geom.specs.Shown.{point_of}
use Rattle.trunc_series.specs.Shown.{exp_of, sum_of}
use Rattle.trunc_series.specs.Reduced.{Terms}
use Rattle.scatter_diagram.specs.Listed.{SeenDiagram}
use Rattle.broken_lines.specs.Traced.{IsFaultBy}
use Rattle.theta_algebra.specs.KeptThetas.{AreKeptThetas}
use Rattle.theta_algebra.specs.Parts.{AreFamilyParts}
use Rattle.theta_algebra.specs.Steps.{IsKnownDiagram, IsAtStage, IsAtSomeStage}
use Rattle.theta_algebra.proofs.ProductFaults.{steps-fault, steps-free}
use Rattle.theta_algebra.proofs.WholeProducts.{family-series, family-of-parts}
use Rattle.theta_algebra.proofs.product.product_of.Goals as goal

pub begun-requires-clause-kept : goal.begun-requires-clause-kept
begun-requires-clause-kept c = c.new-thetas.ensures (walls c.args.tracers.now.diagram) (point_of c.args.at.now)

pub run-requires-clause-given : goal.run-requires-clause-given
run-requires-clause-given c =
    let o = c.order-order.ensures in
    subst (λ (e : SeenDiagram). IsKnownDiagram e c.args.limit) (sym c.in_ok-begun.ensures.same)
    (record { limit = c.requires.limit; bound = subst (λ (n : ℕ). n ≤ highest_order) o.value o.bound; proper = o.proper; tame = o.tame })

pub run-requires-clause-begun : goal.run-requires-clause-begun
run-requires-clause-begun c =
    let h = c.in_ok-begun.ensures.begun in
    subst (λ (e : SeenDiagram). IsAtSomeStage (walls e.diagram) c.args.limit (point_of c.args.at.now) 0 c.in_ok-begun.begun) (sym c.in_ok-begun.ensures.same) (h.s, h.x * h.y, h.reached)

pub run-requires-clause-kept : goal.run-requires-clause-kept
run-requires-clause-kept c =
    subst (λ (e : SeenDiagram). AreKeptThetas (walls e.diagram) (point_of c.args.at.now) c.begun.new.thetas) (sym c.in_ok-begun.ensures.same) c.in_ok-begun.ensures.kept

pub returns-in_err-steps-clause-fault : goal.returns-in_err-steps-clause-fault
returns-in_err-steps-clause-fault c =
    let h = c.in_ok-begun.ensures.begun in
    let p = err_from_is_err_and c.from_residual-in_err-steps.result c.from_residual-in_err-steps.ensures.1 in
    rw (p.1, p.2) (steps-fault (walls c.args.tracers.now.diagram) c.args.limit (exp_of c.args.p) (exp_of c.args.q) (point_of c.args.at.now) c.in_ok-begun.begun h c.in_err-steps.field-0.0
    (subst (λ (e : SeenDiagram). IsAtStage (walls e.diagram) c.args.limit (point_of c.args.at.now) h.s (h.x * h.y) 0 c.in_ok-begun.begun
    → IsFaultBy (StepsFault (walls e.diagram) c.args.limit (point_of c.args.at.now) h.s (h.x * h.y)) c.in_err-steps.field-0.0)
    c.in_ok-begun.ensures.same (c.in_err-steps.ensures.fault h.s (h.x * h.y)) h.reached))

pub parts-requires-clause-series : goal.parts-requires-clause-series
parts-requires-clause-series c =
    let h = c.in_ok-begun.ensures.begun in
    let k = c.args.limit in
    let q = point_of c.args.at.now in
    let begun = c.in_ok-begun.begun in
    let steps = c.in_ok-steps.steps in
    let reached = subst (λ (e : SeenDiagram). IsAtStage (walls e.diagram) k q h.s (h.x * h.y) 0 begun → IsAtStage (walls e.diagram) k q h.s (h.x * h.y) (k + 1) steps)
    c.in_ok-begun.ensures.same (c.in_ok-steps.ensures.after h.s (h.x * h.y)) h.reached in
    subst (λ (ts : Terms). IsSeries k (sum_of ts)) (sym c.as_slice.ensures.value)
    (family-series (walls c.args.tracers.now.diagram) k (exp_of c.args.p) (exp_of c.args.q) q begun steps h reached c.args.tracers.now.order c.order-order.ensures.proper c.args.at.now.reduced)

pub returns-clause-family : goal.returns-clause-family
returns-clause-family c =
    let h = c.in_ok-begun.ensures.begun in
    let k = c.args.limit in
    let q = point_of c.args.at.now in
    let begun = c.in_ok-begun.begun in
    let steps = c.in_ok-steps.steps in
    let reached = subst (λ (e : SeenDiagram). IsAtStage (walls e.diagram) k q h.s (h.x * h.y) 0 begun → IsAtStage (walls e.diagram) k q h.s (h.x * h.y) (k + 1) steps)
    c.in_ok-begun.ensures.same (c.in_ok-steps.ensures.after h.s (h.x * h.y)) h.reached in
    family-of-parts (walls c.args.tracers.now.diagram) k (exp_of c.args.p) (exp_of c.args.q) q begun steps h reached c.args.tracers.now.order c.order-order.ensures.proper c.args.at.now.reduced c.in_ok-parts.field-0.items
    (subst (λ (ts : Terms). AreFamilyParts k (sum_of ts) c.in_ok-parts.field-0.items) c.as_slice.ensures.value c.in_ok-parts.ensures)

pub returns-clause-free : goal.returns-clause-free
returns-clause-free c =
    let h = c.in_ok-begun.ensures.begun in
    let k = c.args.limit in
    let q = point_of c.args.at.now in
    let begun = c.in_ok-begun.begun in
    let steps = c.in_ok-steps.steps in
    let reached = subst (λ (e : SeenDiagram). IsAtStage (walls e.diagram) k q h.s (h.x * h.y) 0 begun → IsAtStage (walls e.diagram) k q h.s (h.x * h.y) (k + 1) steps)
    c.in_ok-begun.ensures.same (c.in_ok-steps.ensures.after h.s (h.x * h.y)) h.reached in
    steps-free (walls c.args.tracers.now.diagram) k (exp_of c.args.p) (exp_of c.args.q) q begun h steps reached

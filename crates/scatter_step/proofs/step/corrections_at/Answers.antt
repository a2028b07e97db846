use Rattle.std.proofs.Common.{subst, sym}
use Rattle.std.proofs.lemmas.Result.{err_from_is_err_and}
use Rattle.scattering.specs.Wall.{walls}
use Rattle.plane_geom.specs.Shown.{point_of}
use Rattle.local_product.specs.Obstruction.{IsConsistentBefore, IsObstructionAt, IsLightAt, IsStoppedByWeight}
use Rattle.local_product.specs.Tabled.{SeenTables}
use Rattle.local_product.specs.Workspace.{IsWorkspaceOf}
use Rattle.scatter_step.proofs.Points.{In-point, AreAt-more}
use Rattle.scatter_step.proofs.Stopped.{IfStop-weaker}
use Rattle.scatter_step.proofs.step.corrections_at.Goals as goal

pub obstruction_with-requires-clause-consistent : goal.obstruction_with-requires-clause-consistent
obstruction_with-requires-clause-consistent c =
    subst (λ (t : SeenTables). IsConsistentBefore t.diagram c.p-item.result t.order) (sym c.in_ok-tables.ensures)
    (λ n e. c.requires.consistent n e (point_of c.p-item.result) c.p-item.result.reduced)

pub returns-in_err-h-clause-stop : goal.returns-in_err-h-clause-stop
returns-in_err-h-clause-stop c =
    let p = err_from_is_err_and c.from_residual-in_err-h.result c.from_residual-in_err-h.ensures.1 in
    rw (p.1, p.2) (IfStop-weaker c.in_err-h.field-0.0 _ _
    (λ n k h. (h.0, h.1, (point_of c.p-item.result, In-point c.args.points.now c.loop-p.p-index c.p-item.result c.loop-p-test.true c.p-item.is, h.2)))
    (subst (λ (t : SeenTables). IsStoppedByWeight t.diagram c.p-item.result t.order c.in_err-h.field-0.0) c.in_ok-tables.ensures c.in_err-h.ensures.stop))

pub loop-p-preserved : goal.loop-p-preserved
loop-p-preserved c = record {
  corrections =
      AreAt-more (walls c.args.e.now.diagram) c.args.order c.args.points.now c.loop-p.p-index c.p-item.result c.in_ok-h.h c.loop-p.out.items c.push.new.self.items c.loop-p-test.true c.p-item.is
      c.in_ok-push.ensures.items c.loop-p.invariant.corrections
      (subst (λ (t : SeenTables). IsObstructionAt t.diagram c.p-item.result t.order c.in_ok-h.h) c.in_ok-tables.ensures c.in_ok-h.ensures.correction).correction
      (subst (λ (t : SeenTables). IsLightAt t.diagram c.p-item.result t.order) c.in_ok-tables.ensures c.in_ok-h.ensures.light);
  workspace = subst (λ (t : SeenTables). IsWorkspaceOf t.order c.obstruction_with.new.workspace) c.in_ok-tables.ensures c.in_ok-h.ensures.workspace;
}

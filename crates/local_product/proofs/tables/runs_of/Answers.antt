use Rattle.std.proofs.Common.{◌<◌, length, arith}
use Rattle.scattering.specs.Collections.{Every}
use Rattle.scattering.specs.SupportingLine.{runs}
use Rattle.scattering.specs.Wall.{walls}
use Rattle.scatter_diagram.specs.Shown.{walls_of}
use Rattle.local_product.specs.Tabled.{TabledRun, HasTables}
use Rattle.local_product.proofs.Local.{run-added, some-tabled, Every-added}
use Rattle.local_product.proofs.tables.runs_of.Goals as goal

pub loop-run-preserved : goal.loop-run-preserved
loop-run-preserved c =
    let gs = runs (walls c.args.e.now.diagram) in
    let l : c.loop-run.run < length gs = let t = c.loop-run-test.true in let e = c.run_count-run-end.ensures.count in omega (arith, t, e) in
    let r = c.in_ok-tables_of_run.field-0 in
    let q = c.in_ok-tables_of_run.ensures in
    let ws = c.along-walls.result.now in
    let n = c.in_ok-push.ensures.items in
    let new = c.push.new.self.items in
    record {
      walls = run-added gs c.loop-run.runs.items new c.loop-run.run r (walls_of ws) l c.along-walls.ensures.walls q.0 n c.loop-run.invariant.walls;
      some = Every-added (λ (x : TabledRun). 0 < length x.items) c.loop-run.runs.items new r n (some-tabled ws r.items q.0 c.along-walls.ensures.some) c.loop-run.invariant.some;
      tables = Every-added (λ (x : TabledRun). Every (HasTables c.args.order) x.items) c.loop-run.runs.items new r n q.1 c.loop-run.invariant.tables;
    }

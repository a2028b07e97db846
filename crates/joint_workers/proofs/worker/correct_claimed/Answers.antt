use Rattle.std.proofs.Common.{ℕ, ◌<◌, ◌∙◌, ap, subst}
use Rattle.std.proofs.lemmas.Result.{err_from_is_err_and}
use Rattle.std.proofs.lemmas.List.Elements.{All-push}
use Rattle.std.proofs.lemmas.Option.{slice_get_read}
use Rattle.plane_geom.specs.Shown.{point_of}
use Rattle.scatter_step.proofs.Points.{In-point}
use Rattle.scatter_step.proofs.Stopped.{IfStop-weaker}
use Rattle.joint_board.proofs.Draws.{drawn_task, drawn_none}
use Rattle.joint_workers.specs.Tasks.{Corrected, IsCorrected}
use Rattle.joint_workers.proofs.worker.correct_claimed.Goals as goal

pub obstruction_with-requires-clause-consistent : goal.obstruction_with-requires-clause-consistent
obstruction_with-requires-clause-consistent g c = λ n e. c.requires.consistent n e (point_of c.index-points-task.result) c.index-points-task.result.reduced

pub returns-in_err-correction : goal.returns-in_err-correction
returns-in_err-correction g c =
    let p = err_from_is_err_and c.from_residual-in_err-correction.result c.from_residual-in_err-correction.ensures.1 in
    rw (p.1, p.2) (
      tt,
      IfStop-weaker c.in_err-correction.field-0.0 _ _
          (λ n k h. (h.0, h.1, (point_of c.index-points-task.result, In-point c.args.points.now c.in-Some.task c.index-points-task.result (subst (λ (x : ℕ). c.in-Some.task < x) c.requires.board c.in-Some.ensures.drawn.0) c.index-points-task.is, h.2)))
          c.in_err-correction.ensures.stop,
    )

pub loop-alloc-preserved-in-Continue-branch-3 : goal.loop-alloc-preserved-in-Continue-branch-3
loop-alloc-preserved-in-Continue-branch-3 g c =
    let d = c.in-Some.ensures.drawn in
    let i = c.loop-alloc.invariant in
    let r : ℕ × Corrected = (c.in-Some.task, (c.index-points-task.result, c.in_ok-correction.correction)) in
    let P = IsCorrected c.args.tables.now.diagram c.args.tables.now.order c.args.points.now in record {
      board = ap (λ s. s.board) d.1.seat ∙ i.board;
      number = ap (λ s. s.number) d.1.seat ∙ i.number;
      numbers = rw c.in_ok-push.ensures.items (drawn_task c.loop-alloc.seat c.claim.new.seat c.in-Some.task c.loop-alloc.found.items r.1 d.1 (rw i.board d.0) i.numbers);
      results = rw c.in_ok-push.ensures.items (All-push P c.loop-alloc.found.items r i.results (record {
        task = slice_get_read c.args.points.now c.args.board.now.tasks c.in-Some.task c.index-points-task.result c.requires.board d.0 c.index-points-task.is;
        correction = c.in_ok-correction.ensures.correction.correction;
        light = c.in_ok-correction.ensures.light;
      }));
      workspace = c.in_ok-correction.ensures.workspace;
    }

pub loop-alloc-preserved : goal.loop-alloc-preserved
loop-alloc-preserved g c =
    let d = c.in_default.ensures.drawn in
    let i = c.loop-alloc.invariant in record {
      board = ap (λ s. s.board) d.2.seat ∙ i.board;
      number = ap (λ s. s.number) d.2.seat ∙ i.number;
      numbers = drawn_none c.loop-alloc.seat c.claim.new.seat d.0 c.loop-alloc.found.items d.2 (rw i.board d.1) i.numbers;
      results = i.results;
      workspace = i.workspace;
    }

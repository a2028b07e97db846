use Rattle.std.proofs.Common.{ℕ, ◌<◌, ◌∙◌, sym, ap, subst}
use Rattle.std.proofs.lemmas.List.Elements.{All-push}
use Rattle.std.proofs.lemmas.Option.{slice_get_read}
use Rattle.scattering.specs.Wall.{walls}
use Rattle.joint_board.proofs.Draws.{drawn_task, drawn_none}
use Rattle.theta_algebra.specs.declared.query.Answer.{Answer}
use Rattle.ask_workers.specs.Answered.{IsAnswered}
use Rattle.ask_workers.proofs.worker.answer_claimed.Goals as goal

pub loop-alloc-preserved-in-Continue-1 : goal.loop-alloc-preserved-in-Continue-1
loop-alloc-preserved-in-Continue-1 c =
    let d = c.in-Some.ensures.drawn in
    let i = c.loop-alloc.invariant in
    let r : ℕ × Answer = (c.in-Some.task, c.answer_by-found.result) in
    let P = IsAnswered (walls c.args.e.now.diagram) c.args.e.now.order c.args.asks.now in record {
      board = ap (λ s. s.board) d.1.seat ∙ i.board;
      number = ap (λ s. s.number) d.1.seat ∙ i.number;
      numbers = rw c.in_ok-push.ensures.items (drawn_task c.loop-alloc.seat c.claim.new.seat c.in-Some.task c.loop-alloc.answers.items r.1 d.1 (rw i.board d.0) i.numbers);
      results = rw c.in_ok-push.ensures.items (All-push P c.loop-alloc.answers.items r i.results (record {
        ask = c.index-asks-task.result;
        task = slice_get_read c.args.asks.now c.args.board.now.tasks c.in-Some.task c.index-asks-task.result c.requires.board d.0 c.index-asks-task.is;
        answer = c.answer_by-found.ensures.answer;
      }));
      tracers = c.answer_by-found.ensures.tracers;
    }

pub loop-alloc-preserved : goal.loop-alloc-preserved
loop-alloc-preserved c =
    let d = c.in_default.ensures.drawn in
    let i = c.loop-alloc.invariant in record {
      board = ap (λ s. s.board) d.2.seat ∙ i.board;
      number = ap (λ s. s.number) d.2.seat ∙ i.number;
      numbers = drawn_none c.loop-alloc.seat c.claim.new.seat d.0 c.loop-alloc.answers.items d.2 (rw i.board d.1) i.numbers;
      results = i.results;
      tracers = i.tracers;
    }

pub returns : goal.returns
returns c =
    let i = c.loop-alloc.invariant in rw c.new.ensures.kept (record {
      board = i.board ∙ sym (ap (λ s. s.board) c.requires.seat);
      number = i.number;
      results = i.results;
    })

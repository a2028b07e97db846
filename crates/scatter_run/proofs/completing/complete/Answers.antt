-- The text of the last completion ends as its first stop says.
use Rattle.std.proofs.Common.{ℕ, subst, arith}
use Rattle.scatter_diagram.specs.Listed.{SeenDiagram}
use Rattle.scatter_diagram.specs.Stopped.{stop_of}
use Rattle.scatter_text.proofs.AskQueries.{asks-within-first-limit, few-within-first-limit}
use Rattle.scatter_run.specs.Form.{IsPrintedIn}
use Rattle.scatter_run.specs.declared.status.Status.{Status}
use Rattle.scatter_run.specs.Completed.{IsCompletedText}
use Rattle.scatter_run.specs.Outcome.{IsEnded}
use Rattle.scatter_run.proofs.CompletedText.{ended}
use Rattle.scatter_run.proofs.completing.complete.Goals as goal

pub write_file-requires-clause-asks : goal.write_file-requires-clause-asks
write_file-requires-clause-asks g c κs within = asks-within-first-limit c.args.file.now c.args.order 1 (omega arith) c.requires.within

pub write_file-requires-clause-few_asks : goal.write_file-requires-clause-few_asks
write_file-requires-clause-few_asks g c κs within = few-within-first-limit c.args.file.now c.args.order 1 c.requires.within

pub returns : goal.returns
returns g c =
    let stop = c.in_ok-outcome.outcome.stop in
    let last = c.in_ok-outcome.outcome.last in
    let text = c.in_ok-text.text.items in
    let printed : IsPrintedIn c.args.form c.args.file.now.asks c.in_ok-initial.initial.vars last.order last.diagram (stop_of stop) text =
    subst (λ (e : SeenDiagram). IsPrintedIn c.args.form c.args.file.now.asks c.in_ok-initial.initial.vars e.order e.diagram (stop_of stop) text) c.diagram-last.ensures.value
    (subst (λ (n : ℕ). IsPrintedIn c.args.form c.args.file.now.asks n c.diagram-last.result.now.order c.diagram-last.result.now.diagram (stop_of stop) text) c.vars-vars.ensures.value c.in_ok-text.ensures) in
    subst (λ (s : Status). IsEnded (IsCompletedText c.args.form c.args.order c.args.file.now) s text) c.status_of.ensures
    (ended c.args.form c.args.file.now c.args.order c.in_ok-initial.initial c.in_ok-outcome.outcome text c.requires.order c.in_ok-initial.ensures c.in_ok-outcome.ensures printed)

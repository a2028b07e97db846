-- The counts of the last completion, which ends as its first stop says.
use Rattle.std.proofs.Common.{◌≡◌, subst}
use Rattle.scatter_diagram.specs.Listed.{SeenDiagram}
use Rattle.scatter_diagram.specs.Stopped.{stop_of}
use Rattle.scatter_run.specs.declared.status.Status.{Status}
use Rattle.scatter_run.specs.Generated.{summary_text}
use Rattle.scatter_run.specs.Outcome.{IsGenerateOutcome}
use Rattle.scatter_run.proofs.CompletedText.{summed}
use Rattle.scatter_run.proofs.generating.generate.Goals as goal

pub returns : goal.returns
returns g c =
    let stop = c.in_ok-outcome.outcome.stop in
    let last = c.in_ok-outcome.outcome.last in
    let text = c.in_ok-text.text.items in
    let printed : text ≡ summary_text c.args.number last.order last.diagram.rays (stop_of stop) =
    subst (λ (e : SeenDiagram). text ≡ summary_text c.args.number e.order e.diagram.rays (stop_of stop)) c.diagram.ensures.value c.in_ok-text.ensures in
    subst (λ (s : Status). IsGenerateOutcome c.args.number s text) c.status_of.ensures
    (summed c.args.number c.in_ok-file.file c.in_ok-initial.initial c.in_ok-outcome.outcome text c.in_ok-file.ensures.lines c.in_ok-initial.ensures c.in_ok-outcome.ensures printed)

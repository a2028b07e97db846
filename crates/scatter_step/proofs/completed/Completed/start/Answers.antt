use Rattle.std.proofs.Common.{◌∙◌, sym, ap, subst}
use Rattle.scatter_diagram.specs.Listed.{SeenDiagram}
use Rattle.scatter_diagram.specs.Shown.{wall_of, walls_of}
use Rattle.std.proofs.lemmas.List.{length-map}
use Rattle.scatter_step.proofs.Lines.{AreLines}
use Rattle.scatter_step.proofs.OrderZero.{cut-lines, starts-completed}
use Rattle.scatter_step.proofs.OwnJoints.{kept-first}
use Rattle.scatter_step.proofs.completed.Completed.start.Goals as goal

pub from_walls-requires-clause-lines : goal.from_walls-requires-clause-lines
from_walls-requires-clause-lines c = record {
  order = c.in_ok-lines.ensures.order;
  lines = subst AreLines (sym c.in_ok-lines.ensures.walls) (cut-lines 0 _ c.lines.ensures.lines.lines);
}

pub invariant_of-result : goal.invariant_of-result
invariant_of-result c =
    kept-first _
    (starts-completed c.args.initial.now _ (walls_of c.lines.result.now) (walls_of c.in_ok-lines.lines.items) (walls_of c.new.result.items) c.in_ok-diagram.diagram
    c.lines.ensures.walls c.in_ok-lines.ensures.walls (ap walls_of c.new.ensures.items) c.in_ok-diagram.ensures (c.in_ok-new.ensures.ok ∙ c.in_ok-copy.ensures)
    c.lines.ensures.proper c.lines.ensures.lines.lines (rw (length-map c.lines.result.now wall_of) c.lines.ensures.few))
    c.in_ok-points.points.value.items (ap (λ (d : SeenDiagram). d.order) c.in_ok-diagram.ensures)
    (ap (λ v. v.items) c.in_ok-points.ensures.ok ∙ c.new-2.ensures.items)

pub returns-clause-completed : goal.returns-clause-completed
returns-clause-completed c = (invariant_of-result c).completed

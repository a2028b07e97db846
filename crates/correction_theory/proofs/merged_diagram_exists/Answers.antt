use Rattle.correction_theory.proofs.merged_diagram_exists.Goals as goal
use Rattle.correction_theory.proofs.MergedDiagram.{merged_diagram_exists}

pub returns : goal.returns
returns c = record { exists = merged_diagram_exists }

use Rattle.broken_line_theory.proofs.theta_product_is_determined.Goals as goal
use Rattle.broken_line_theory.proofs.FirstProductFault.{family-exists}
use Rattle.broken_line_theory.proofs.UniqueFamily.{family_unique}
use Rattle.broken_line_theory.proofs.ProductSteps.{steps_end}
use Rattle.broken_line_theory.proofs.RunningWeight.{steps_leave_light}

pub returns : goal.returns
returns c = record { exists = family-exists; unique = family_unique; ends = steps_end; light = steps_leave_light }

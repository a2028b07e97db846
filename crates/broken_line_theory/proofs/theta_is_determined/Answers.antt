use Rattle.broken_line_theory.proofs.theta_is_determined.Goals as goal
use Rattle.broken_line_theory.proofs.ProductSteps.{theta-exists}
use Rattle.broken_line_theory.proofs.LeadingMonomial.{theta-unique}
use Rattle.broken_line_theory.proofs.LightThetas.{theta-is-light}
use Rattle.broken_line_theory.proofs.ThetaWithin.{theta-stays-near}

pub returns : goal.returns
returns c = record { exists = theta-exists; unique = theta-unique; light = theta-is-light; near = theta-stays-near }

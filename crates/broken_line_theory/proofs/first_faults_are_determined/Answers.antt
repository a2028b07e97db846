use Rattle.broken_line_theory.proofs.first_faults_are_determined.Goals as goal
use Rattle.broken_line_theory.proofs.FirstAskFault.{ask-fault-exists}
use Rattle.broken_line_theory.proofs.FirstProductFault.{product_fault_exists}
use Rattle.broken_line_theory.proofs.UniqueAskFault.{ask-fault-unique}
use Rattle.broken_line_theory.proofs.UniqueProductFault.{product_fault_is_unique}

pub returns : goal.returns
returns c = record { exist = ask-fault-exists; theta = ask-fault-unique; product_exists = product_fault_exists; product = product_fault_is_unique }

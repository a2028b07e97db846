use Rattle.scatter_text.proofs.Outcomes.{text_has_no_fault, fault_is_one}
use Rattle.scatter_text.proofs.OneFile.{file_is_one}
use Rattle.scatter_text.proofs.reading.one_outcome.Goals as goal

pub returns : goal.returns
returns c = record { file_or_fault = λ mode. text_has_no_fault {mode = mode}; one_fault = λ mode. fault_is_one {mode = mode}; one_file = λ mode. file_is_one {mode = mode} }

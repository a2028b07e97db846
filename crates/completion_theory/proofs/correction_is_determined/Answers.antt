use Rattle.completion_theory.proofs.correction_is_determined.Goals as goal
use Rattle.completion_theory.proofs.CorrectionExists.{correction_exists, correction_is_whole}
use Rattle.completion_theory.proofs.UniqueCorrection.{correction_is_unique}
use Rattle.completion_theory.proofs.AllCorrections.{corrections_exist}

pub returns : goal.returns
returns c = record { exists = correction_exists; unique = correction_is_unique; whole = correction_is_whole; listed = corrections_exist }

use Rattle.correction_tests.specs.WorkedImages.{worked_leading}
use Rattle.correction_tests.proofs.LeadingImages.{worked-leads}
use Rattle.correction_tests.proofs.lie.leads.Goals as goal

pub leading-requires-clause-exists : goal.leading-requires-clause-exists
leading-requires-clause-exists c = rw (c.in_ok-x.ensures, c.in_ok-y.ensures) (worked_leading, worked-leads)

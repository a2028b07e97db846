use Rattle.std.proofs.lemmas.Result.{IfOk-weaker}
use Rattle.trunc_series.proofs.Unique.{series-terms}
use Rattle.correction_tests.specs.WorkedImages.{worked_y}
use Rattle.correction_tests.proofs.LeadingImages.{series-y}
use Rattle.correction_tests.proofs.lie.image_y.Goals as goal

pub returns : goal.returns
returns c = IfOk-weaker c.from_terms.result _ _ (λ s h. series-terms s 2 2 worked_y h series-y) c.from_terms.ensures

use Rattle.std.proofs.Common.{◌^◌}
use Rattle.std.specs.Prelude.{pos}
use Rattle.std.proofs.lemmas.Result.{IfOk-weaker}
use Rattle.trunc_series.specs.Worked.{line_terms}
use Rattle.trunc_series.proofs.Unique.{series-terms}
use Rattle.correction_tests.proofs.CrossedWalls.{steep-wall}
use Rattle.correction_tests.proofs.crossings.steep.Goals as goal

pub returns-clause-terms : goal.returns-clause-terms
returns-clause-terms c = IfOk-weaker c.from_terms.result _ _ (λ s h. series-terms s 3 3 (line_terms (pos (2 ^ 62))) h steep-wall.series) c.from_terms.ensures

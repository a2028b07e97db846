use Rattle.std.specs.Prelude.{pos}
use Rattle.std.proofs.lemmas.Result.{IfOk-weaker}
use Rattle.trunc_series.specs.Worked.{line_terms}
use Rattle.trunc_series.proofs.Unique.{majorant-terms, line-majorant}
use Rattle.series_tests.proofs.samples.majorant.Goals as goal

pub returns-clause-terms : goal.returns-clause-terms
returns-clause-terms c = IfOk-weaker c.of.result _ _ (λ m h. majorant-terms m 2 2 (line_terms (pos 1)) (rw (c.in_ok-series.ensures.order, c.in_ok-series.ensures.terms) at h) line-majorant) c.of.ensures

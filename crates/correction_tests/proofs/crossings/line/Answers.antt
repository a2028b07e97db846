use Rattle.std.proofs.Common.{refl}
use Rattle.std.specs.Prelude.{pos}
use Rattle.std.proofs.lemmas.Result.{IfOk-weaker}
use Rattle.trunc_series.specs.Worked.{line_terms}
use Rattle.trunc_series.proofs.Unique.{series-terms, line-series}
use Rattle.correction_tests.proofs.crossings.line.Goals as goal

pub returns-clause-terms : goal.returns-clause-terms
returns-clause-terms c = IfOk-weaker c.from_terms.result _ _ (λ s h. series-terms s 2 2 (line_terms (pos 1)) h (line-series (pos 1) refl)) c.from_terms.ensures

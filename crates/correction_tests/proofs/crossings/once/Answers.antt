use Rattle.std.proofs.Common.{refl, arith}
use Rattle.std.proofs.lemmas.Result.{IfOk-weaker}
use Rattle.trunc_series.proofs.Unique.{series-terms}
use Rattle.correction_tests.specs.CrossedSums.{crossed_once}
use Rattle.correction_tests.proofs.crossings.once.Goals as goal

pub returns-clause-terms : goal.returns-clause-terms
returns-clause-terms c =
    IfOk-weaker c.from_terms.result _ _ (λ s h. series-terms s 2 2 crossed_once h record { rises = ((refl, tt), (tt, tt)); nonzero = ((λ e. cc), ((λ e. cc), tt)); low = (omega arith, (omega arith, tt)) }) c.from_terms.ensures

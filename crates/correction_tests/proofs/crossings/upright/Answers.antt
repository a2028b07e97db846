use Rattle.std.proofs.Common.{arith, [], ◌∷◌}
use Rattle.std.specs.Prelude.{pos}
use Rattle.std.proofs.lemmas.Result.{IfOk-weaker}
use Rattle.trunc_series.proofs.Unique.{series-terms}
use Rattle.correction_tests.specs.CrossedSums.{worked_key}
use Rattle.correction_tests.proofs.crossings.upright.Goals as goal

pub returns-clause-terms : goal.returns-clause-terms
returns-clause-terms c =
    IfOk-weaker c.monomial.result _ _ (λ s h. series-terms s 2 2 ((worked_key 0 (pos 0) (pos 1), pos 1) ∷ []) h record { rises = (tt, tt); nonzero = ((λ e. cc), tt); low = (omega arith, tt) }) c.monomial.ensures

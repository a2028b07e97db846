use Rattle.std.proofs.Common.{arith, [], ◌∷◌}
use Rattle.std.specs.Prelude.{pos}
use Rattle.std.proofs.lemmas.Int.{ints}
use Rattle.std.proofs.lemmas.Result.{IfOk-weaker}
use Rattle.trunc_series.proofs.Unique.{majorant-terms}
use Rattle.correction_tests.specs.CrossedSums.{worked_key}
use Rattle.correction_tests.proofs.crossings.bound.Goals as goal

pub returns-clause-terms : goal.returns-clause-terms
returns-clause-terms c =
    IfOk-weaker c.of.result _ _
    (λ m h. majorant-terms m 2 2 ((worked_key 0 (pos 0) (pos 1), pos 1) ∷ []) (rw (c.in_ok-series.ensures.order, c.in_ok-series.ensures.terms) at h)
    record {
      order = omega arith;
      series = record { rises = (tt, tt); nonzero = ((λ e. cc), tt); low = (omega arith, tt) };
      range = ((omega (arith, ints), omega (arith, ints)), tt);
    })
    c.of.ensures

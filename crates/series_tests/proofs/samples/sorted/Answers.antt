use Rattle.std.proofs.lemmas.Result.{IfOk-weaker}
use Rattle.trunc_series.specs.Shown.{sum_of}
use Rattle.trunc_series.proofs.Unique.{series-terms}
use Rattle.series_tests.proofs.SortedSums.{sorted-terms, sorted-distinct, sorted-series}
use Rattle.series_tests.proofs.samples.sorted.Goals as goal

pub from_terms-requires-clause-distinct : goal.from_terms-requires-clause-distinct
from_terms-requires-clause-distinct c = sorted-distinct c.args.order (sum_of c.args.terms.now) c.requires.terms

pub from_terms-requires-clause-each : goal.from_terms-requires-clause-each
from_terms-requires-clause-each c = sorted-terms c.args.order (sum_of c.args.terms.now) c.requires.terms

pub returns-clause-terms : goal.returns-clause-terms
returns-clause-terms c =
    IfOk-weaker c.from_terms.result _ _ (λ s h. series-terms s c.args.order c.args.order (sum_of c.args.terms.now) h (sorted-series c.args.order (sum_of c.args.terms.now) c.requires.terms)) c.from_terms.ensures

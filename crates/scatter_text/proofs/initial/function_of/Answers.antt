-- No key stands twice, and the series is the function cut to degree 24.
use Rattle.std.proofs.Common.{◌≢◌, ◌∙◌, ap, sym, subst}
use Rattle.std.proofs.lemmas.Result.{IfOk-weaker}
use Rattle.scattering.specs.Collections.{Every, EveryPair}
use Rattle.scattering.specs.Series.{Sum}
use Rattle.trunc_series.specs.Shown.{sum_of, IsTerm, IsSeriesOf}
use Rattle.scatter_text.proofs.ProperFunctions.{low-apart, low-terms, made}
use Rattle.scatter_text.proofs.initial.function_of.Goals as goal

pub from_terms-requires-clause-distinct : goal.from_terms-requires-clause-distinct
from_terms-requires-clause-distinct c =
    subst (λ (f : Sum). EveryPair (λ t u. t.0 ≢ u.0) f) (sym (ap sum_of c.as_slice.ensures.value ∙ c.in_ok-terms.ensures)) (low-apart c.args.line.now c.requires)

pub from_terms-requires-clause-each : goal.from_terms-requires-clause-each
from_terms-requires-clause-each c =
    subst (λ (f : Sum). Every (IsTerm 24) f) (sym (ap sum_of c.as_slice.ensures.value ∙ c.in_ok-terms.ensures)) (low-terms c.args.line.now c.requires)

pub returns : goal.returns
returns c =
    IfOk-weaker c.from_terms.result _ _ (λ s h. made c.args.line.now c.requires s (subst (λ (f : Sum). IsSeriesOf s 24 f) (ap sum_of c.as_slice.ensures.value ∙ c.in_ok-terms.ensures) h)) c.from_terms.ensures

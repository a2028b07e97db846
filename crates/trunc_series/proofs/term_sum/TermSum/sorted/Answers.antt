use Rattle.std.proofs.Common.{subst}
use Rattle.std.proofs.lemmas.Result.{IfOk-weaker}
use Rattle.scattering.specs.Series.{Sum}
use Rattle.trunc_series.specs.Shown.{sum_of}
use Rattle.trunc_series.specs.Reduced.{Terms}
use Rattle.trunc_series.specs.Sums.{IsSortedFor}
use Rattle.trunc_series.proofs.term_sum.TermSum.sorted.Goals as goal

pub returns : goal.returns
returns c =
    IfOk-weaker c.in_order.result _ _ (λ r h. subst (λ (f : Sum). IsSortedFor c.args.rule (sum_of r.items) f) c.self.view_is (subst (λ (ts : Terms). IsSortedFor c.args.rule (sum_of r.items) (sum_of ts)) c.as_slice.ensures.value h)) c.in_order.ensures

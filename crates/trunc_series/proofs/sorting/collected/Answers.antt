use Rattle.std.proofs.lemmas.Result.{IfOk-weaker}
use Rattle.scattering.proofs.Lists.{Every-implies}
use Rattle.trunc_series.specs.Shown.{sum_of, IsTerm}
use Rattle.trunc_series.proofs.Exact.{wrap-small}
use Rattle.trunc_series.proofs.sorting.collected.Goals as goal

pub in_order-requires : goal.in_order-requires
in_order-requires c = Every-implies (IsTerm c.args.order) _ (sum_of c.args.terms.now) (λ t h. (wrap-small t.1 h.1, tt)) c.requires

pub returns : goal.returns
returns c =
    IfOk-weaker c.in_order.result _ _ (λ r h. h c.args.order (Every-implies (IsTerm c.args.order) _ (sum_of c.args.terms.now) (λ t i. i.2) c.requires)) c.in_order.ensures

use Rattle.serde_json.specs.View.{view}
use Rattle.frac_128.proofs.Reading.{nothing}
use Rattle.scatter_json.specs.JsonForm.{SaysCoordinate}
use Rattle.scatter_json.proofs.OneReading.{pair-none, pair-at, pair-of}
use Rattle.scatter_json.proofs.lines.point.Goals as goal

pub returns-in_err-x : goal.returns-in_err-x
returns-in_err-x c = nothing c.from_residual.result _ _ c.from_residual.ensures (λ p h. pair-none SaysCoordinate (view c.args.value.now) p.0 p.1 c.in_err-x.ensures h)

pub returns-in_err-x-2 : goal.returns-in_err-x-2
returns-in_err-x-2 c = nothing c.from_residual-in_err-x-2.result _ _ c.from_residual-in_err-x-2.ensures (λ p h. c.in_err-x-2.ensures p.0 (pair-at SaysCoordinate (view c.args.value.now) _ _ p.0 p.1 c.in_ok-x.ensures h).0)

pub returns-in_err-y : goal.returns-in_err-y
returns-in_err-y c = nothing c.from_residual-in_err-y.result _ _ c.from_residual-in_err-y.ensures (λ p h. c.in_err-y.ensures p.1 (pair-at SaysCoordinate (view c.args.value.now) _ _ p.0 p.1 c.in_ok-x.ensures h).1)

pub returns : goal.returns
returns c = pair-of SaysCoordinate (view c.args.value.now) _ _ c.in_ok-x-2.x c.in_ok-y.y c.in_ok-x.ensures c.in_ok-x-2.ensures c.in_ok-y.ensures

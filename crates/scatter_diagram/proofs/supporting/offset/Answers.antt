use Rattle.std.proofs.Common.{◌∙◌}
use Rattle.plane_geom.proofs.Casts.{minus-is, minus-fits}
use Rattle.sum_algebra.proofs.Integers.{minus-same}
use Rattle.scatter_diagram.proofs.Lines.{larger, difference-bound, product-read}
use Rattle.scatter_diagram.proofs.supporting.offset.Goals as goal

pub overflow_sub-result : goal.overflow_sub-result
overflow_sub-result c = minus-fits c.product.result c.product-2.result (larger c.product.result c.product.ensures.bound) (larger c.product-2.result c.product-2.ensures.bound)

pub returns-clause-value : goal.returns-clause-value
returns-clause-value c =
    minus-is c.product.result c.product-2.result (larger c.product.result c.product.ensures.bound) (larger c.product-2.result c.product-2.ensures.bound)
    ∙ minus-same _ _ _ _
    (product-read c.product.result c.args.d.now.a c.args.p.now.y c.args.d.now.small.0 c.args.p.now.near.1 c.product.ensures.value)
    (product-read c.product-2.result c.args.d.now.b c.args.p.now.x c.args.d.now.small.1 c.args.p.now.near.0 c.product-2.ensures.value)

pub returns-clause-bound : goal.returns-clause-bound
returns-clause-bound c = difference-bound c.product.result c.product-2.result c.product.ensures.bound c.product-2.ensures.bound

use Rattle.std.proofs.Common.{◌∙◌}
use Rattle.plane_geom.proofs.Casts.{minus-fits64, minus-is64, minus-bound25, small-read}
use Rattle.sum_algebra.proofs.Integers.{minus-same}
use Rattle.bend_finder.proofs.products.det.Goals as goal

pub returns-clause-value : goal.returns-clause-value
returns-clause-value c =
    minus-is64 c.product.result c.product-2.result c.product.ensures.bound c.product-2.ensures.bound
    ∙ minus-same _ _ _ _
    (small-read c.product.result c.args.d.now.a c.args.e.b c.args.d.now.small.0 c.requires.1 c.product.ensures.value)
    (small-read c.product-2.result c.args.d.now.b c.args.e.a c.args.d.now.small.1 c.requires.0 c.product-2.ensures.value)

pub returns-clause-bound : goal.returns-clause-bound
returns-clause-bound c = minus-bound25 c.product.result c.product-2.result c.product.ensures.bound c.product-2.ensures.bound

pub overflow_sub-result : goal.overflow_sub-result
overflow_sub-result c = minus-fits64 c.product.result c.product-2.result c.product.ensures.bound c.product-2.ensures.bound

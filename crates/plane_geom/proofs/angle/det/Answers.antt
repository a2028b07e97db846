use Rattle.std.proofs.Common.{◌∙◌}
use Rattle.plane_geom.proofs.Casts.{minus-fits64, minus-is64, minus-bound25, small-read}
use Rattle.sum_algebra.proofs.Integers.{minus-same}
use Rattle.plane_geom.proofs.angle.det.Goals as goal

pub returns-clause-value : goal.returns-clause-value
returns-clause-value c =
    minus-is64 c.small_product.result c.small_product-2.result c.small_product.ensures.bound c.small_product-2.ensures.bound
    ∙ minus-same _ _ _ _
    (small-read c.small_product.result c.args.d.now.a c.args.e.now.b c.args.d.now.small.0 c.args.e.now.small.1 c.small_product.ensures.value)
    (small-read c.small_product-2.result c.args.d.now.b c.args.e.now.a c.args.d.now.small.1 c.args.e.now.small.0 c.small_product-2.ensures.value)

pub returns-clause-bound : goal.returns-clause-bound
returns-clause-bound c = minus-bound25 c.small_product.result c.small_product-2.result c.small_product.ensures.bound c.small_product-2.ensures.bound

pub overflow_sub-result : goal.overflow_sub-result
overflow_sub-result c = minus-fits64 c.small_product.result c.small_product-2.result c.small_product.ensures.bound c.small_product-2.ensures.bound

use Rattle.std.proofs.Common.{◌∙◌}
use Rattle.plane_geom.proofs.Casts.{minus-fits, minus-is, minus-bound, larger', product-read}
use Rattle.sum_algebra.proofs.Integers.{minus-same}
use Rattle.plane_geom.proofs.products.minor.Goals as goal

pub returns-clause-value : goal.returns-clause-value
returns-clause-value c =
    minus-is c.product.result c.product-2.result (larger' c.product.result c.product.ensures.bound) (larger' c.product-2.result c.product-2.ensures.bound)
    ∙ minus-same _ _ _ _ (product-read _ c.args.a c.args.b c.requires.a c.requires.b c.product.ensures.value) (product-read _ c.args.c c.args.d c.requires.c c.requires.d c.product-2.ensures.value)

pub returns-clause-bound : goal.returns-clause-bound
returns-clause-bound c = minus-bound c.product.result c.product-2.result c.product.ensures.bound c.product-2.ensures.bound

pub overflow_sub-result : goal.overflow_sub-result
overflow_sub-result c = minus-fits c.product.result c.product-2.result (larger' c.product.result c.product.ensures.bound) (larger' c.product-2.result c.product-2.ensures.bound)

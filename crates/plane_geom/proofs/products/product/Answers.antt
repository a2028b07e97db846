use Rattle.std.proofs.Common.{◌^◌, arith}
use mir.Syntax.{w64, w128}
use Rattle.frac_128.proofs.SignedProducts.{widened, within, product-fits, product-is, product-within}
use Rattle.plane_geom.proofs.products.product.Goals as goal

pub overflow_mul-result : goal.overflow_mul-result
overflow_mul-result c =
    product-fits w128 _ _ c.args.a c.args.b (2 ^ 40) (2 ^ 40)
    (widened w64 w128 c.args.a c.ranges.a (within w128 c.args.a (2 ^ 40) c.requires.a (omega arith)))
    (widened w64 w128 c.args.b c.ranges.b (within w128 c.args.b (2 ^ 40) c.requires.b (omega arith))) c.requires.a c.requires.b (omega arith)

pub returns-clause-value : goal.returns-clause-value
returns-clause-value c =
    product-is w128 _ _ c.args.a c.args.b (2 ^ 40) (2 ^ 40)
    (widened w64 w128 c.args.a c.ranges.a (within w128 c.args.a (2 ^ 40) c.requires.a (omega arith)))
    (widened w64 w128 c.args.b c.ranges.b (within w128 c.args.b (2 ^ 40) c.requires.b (omega arith))) c.requires.a c.requires.b (omega arith)

pub returns-clause-bound : goal.returns-clause-bound
returns-clause-bound c =
    product-within w128 _ _ c.args.a c.args.b (2 ^ 40) (2 ^ 40)
    (widened w64 w128 c.args.a c.ranges.a (within w128 c.args.a (2 ^ 40) c.requires.a (omega arith)))
    (widened w64 w128 c.args.b c.ranges.b (within w128 c.args.b (2 ^ 40) c.requires.b (omega arith))) c.requires.a c.requires.b (omega arith)

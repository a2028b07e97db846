use Rattle.std.proofs.Common.{◌^◌, arith}
use mir.Syntax.{w32, w64}
use Rattle.frac_128.proofs.SignedProducts.{widened, within, product-fits, product-is, product-within}
use Rattle.bend_finder.proofs.products.product.Goals as goal

pub overflow_mul-result : goal.overflow_mul-result
overflow_mul-result c =
    product-fits w64 _ _ c.args.a c.args.b (2 ^ 12) (2 ^ 12)
    (widened w32 w64 c.args.a c.ranges.a (within w64 c.args.a (2 ^ 12) c.requires.a (omega arith)))
    (widened w32 w64 c.args.b c.ranges.b (within w64 c.args.b (2 ^ 12) c.requires.b (omega arith))) c.requires.a c.requires.b (omega arith)

pub returns-clause-value : goal.returns-clause-value
returns-clause-value c =
    product-is w64 _ _ c.args.a c.args.b (2 ^ 12) (2 ^ 12)
    (widened w32 w64 c.args.a c.ranges.a (within w64 c.args.a (2 ^ 12) c.requires.a (omega arith)))
    (widened w32 w64 c.args.b c.ranges.b (within w64 c.args.b (2 ^ 12) c.requires.b (omega arith))) c.requires.a c.requires.b (omega arith)

pub returns-clause-bound : goal.returns-clause-bound
returns-clause-bound c =
    product-within w64 _ _ c.args.a c.args.b (2 ^ 12) (2 ^ 12)
    (widened w32 w64 c.args.a c.ranges.a (within w64 c.args.a (2 ^ 12) c.requires.a (omega arith)))
    (widened w32 w64 c.args.b c.ranges.b (within w64 c.args.b (2 ^ 12) c.requires.b (omega arith))) c.requires.a c.requires.b (omega arith)

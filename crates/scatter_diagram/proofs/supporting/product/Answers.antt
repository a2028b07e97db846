use Rattle.std.proofs.Common.{◌^◌, arith}
use mir.Syntax.{w32, w64, w128}
use Rattle.frac_128.proofs.SignedProducts.{widened, within, product-fits, product-is, product-within}
use Rattle.scatter_diagram.proofs.supporting.product.Goals as goal

pub overflow_mul-result : goal.overflow_mul-result
overflow_mul-result c =
    product-fits w128 _ _ c.args.a c.args.x (2 ^ 12) (2 ^ 40)
    (widened w32 w128 c.args.a c.ranges.a (within w128 c.args.a (2 ^ 12) c.requires.a (omega arith)))
    (widened w64 w128 c.args.x c.ranges.x (within w128 c.args.x (2 ^ 40) c.requires.x (omega arith))) c.requires.a c.requires.x (omega arith)

pub returns-clause-value : goal.returns-clause-value
returns-clause-value c =
    product-is w128 _ _ c.args.a c.args.x (2 ^ 12) (2 ^ 40)
    (widened w32 w128 c.args.a c.ranges.a (within w128 c.args.a (2 ^ 12) c.requires.a (omega arith)))
    (widened w64 w128 c.args.x c.ranges.x (within w128 c.args.x (2 ^ 40) c.requires.x (omega arith))) c.requires.a c.requires.x (omega arith)

pub returns-clause-bound : goal.returns-clause-bound
returns-clause-bound c =
    product-within w128 _ _ c.args.a c.args.x (2 ^ 12) (2 ^ 40)
    (widened w32 w128 c.args.a c.ranges.a (within w128 c.args.a (2 ^ 12) c.requires.a (omega arith)))
    (widened w64 w128 c.args.x c.ranges.x (within w128 c.args.x (2 ^ 40) c.requires.x (omega arith))) c.requires.a c.requires.x (omega arith)

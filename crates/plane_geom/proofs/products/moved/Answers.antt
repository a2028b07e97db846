use Rattle.std.proofs.Common.{◌^◌, arith}
use Rattle.std.proofs.lemmas.Int.{to_z-of_z}
use mir.Syntax.{w32, w128}
use Rattle.frac_128.proofs.SignedProducts.{widened, within, product-fits, product-is, product-within}
use Rattle.plane_geom.proofs.products.moved.Goals as goal

pub overflow_mul-result : goal.overflow_mul-result
overflow_mul-result c =
    product-fits w128 _ _ c.args.n c.args.d (2 ^ 94) (2 ^ 12)
    (to_z-of_z w128 c.args.n c.ranges.n)
    (widened w32 w128 c.args.d c.ranges.d (within w128 c.args.d (2 ^ 12) c.requires.d (omega arith))) c.requires.n c.requires.d (omega arith)

pub returns-clause-value : goal.returns-clause-value
returns-clause-value c =
    product-is w128 _ _ c.args.n c.args.d (2 ^ 94) (2 ^ 12)
    (to_z-of_z w128 c.args.n c.ranges.n)
    (widened w32 w128 c.args.d c.ranges.d (within w128 c.args.d (2 ^ 12) c.requires.d (omega arith))) c.requires.n c.requires.d (omega arith)

pub returns-clause-bound : goal.returns-clause-bound
returns-clause-bound c =
    product-within w128 _ _ c.args.n c.args.d (2 ^ 94) (2 ^ 12)
    (to_z-of_z w128 c.args.n c.ranges.n)
    (widened w32 w128 c.args.d c.ranges.d (within w128 c.args.d (2 ^ 12) c.requires.d (omega arith))) c.requires.n c.requires.d (omega arith)

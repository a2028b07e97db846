use Rattle.std.proofs.Common.{◌^◌, arith}
use Rattle.std.proofs.lemmas.Int.{to_z-of_z}
use mir.Syntax.{w32, w128}
use Rattle.frac_128.proofs.SignedProducts.{widened, within, product-fits, product-is, product-within}
use Rattle.plane_geom.proofs.products.scaled.Goals as goal

pub overflow_mul-result : goal.overflow_mul-result
overflow_mul-result c =
    product-fits w128 _ _ c.args.a c.args.r (2 ^ 12) (2 ^ 81)
    (widened w32 w128 c.args.a c.ranges.a (within w128 c.args.a (2 ^ 12) c.requires.a (omega arith)))
    (to_z-of_z w128 c.args.r c.ranges.r) c.requires.a c.requires.r (omega arith)

pub returns-clause-value : goal.returns-clause-value
returns-clause-value c =
    product-is w128 _ _ c.args.a c.args.r (2 ^ 12) (2 ^ 81)
    (widened w32 w128 c.args.a c.ranges.a (within w128 c.args.a (2 ^ 12) c.requires.a (omega arith)))
    (to_z-of_z w128 c.args.r c.ranges.r) c.requires.a c.requires.r (omega arith)

pub returns-clause-bound : goal.returns-clause-bound
returns-clause-bound c =
    product-within w128 _ _ c.args.a c.args.r (2 ^ 12) (2 ^ 81)
    (widened w32 w128 c.args.a c.ranges.a (within w128 c.args.a (2 ^ 12) c.requires.a (omega arith)))
    (to_z-of_z w128 c.args.r c.ranges.r) c.requires.a c.requires.r (omega arith)

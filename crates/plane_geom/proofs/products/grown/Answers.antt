use Rattle.std.proofs.Common.{◌^◌, arith}
use Rattle.std.proofs.lemmas.Int.{to_z-of_z}
use mir.Syntax.{w64, w128}
use Rattle.frac_128.proofs.SignedProducts.{widened, within, product-fits, product-is, product-within}
use Rattle.plane_geom.proofs.products.grown.Goals as goal

pub overflow_mul-result : goal.overflow_mul-result
overflow_mul-result c =
    product-fits w128 _ _ c.args.a c.args.t (2 ^ 80) (2 ^ 25)
    (to_z-of_z w128 c.args.a c.ranges.a)
    (widened w64 w128 c.args.t c.ranges.t (within w128 c.args.t (2 ^ 25) c.requires.t (omega arith))) c.requires.a c.requires.t (omega arith)

pub returns-clause-value : goal.returns-clause-value
returns-clause-value c =
    product-is w128 _ _ c.args.a c.args.t (2 ^ 80) (2 ^ 25)
    (to_z-of_z w128 c.args.a c.ranges.a)
    (widened w64 w128 c.args.t c.ranges.t (within w128 c.args.t (2 ^ 25) c.requires.t (omega arith))) c.requires.a c.requires.t (omega arith)

pub returns-clause-bound : goal.returns-clause-bound
returns-clause-bound c =
    product-within w128 _ _ c.args.a c.args.t (2 ^ 80) (2 ^ 25)
    (to_z-of_z w128 c.args.a c.ranges.a)
    (widened w64 w128 c.args.t c.ranges.t (within w128 c.args.t (2 ^ 25) c.requires.t (omega arith))) c.requires.a c.requires.t (omega arith)

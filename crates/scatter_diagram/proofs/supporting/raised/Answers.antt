use Rattle.std.proofs.Common.{◌^◌, arith}
use Rattle.std.proofs.lemmas.Int.{to_z-of_z}
use mir.Syntax.{w64, w128}
use Rattle.frac_128.proofs.SignedProducts.{widened, within, product-fits, product-is, product-within}
use Rattle.scatter_diagram.proofs.supporting.raised.Goals as goal

pub overflow_mul-result : goal.overflow_mul-result
overflow_mul-result c =
    product-fits w128 _ _ c.args.over c.args.under (2 ^ 53) (2 ^ 40)
    (to_z-of_z w128 c.args.over c.ranges.over)
    (widened w64 w128 c.args.under c.ranges.under (within w128 c.args.under (2 ^ 40) c.requires.under (omega arith))) c.requires.over c.requires.under (omega arith)

pub returns-clause-value : goal.returns-clause-value
returns-clause-value c =
    product-is w128 _ _ c.args.over c.args.under (2 ^ 53) (2 ^ 40)
    (to_z-of_z w128 c.args.over c.ranges.over)
    (widened w64 w128 c.args.under c.ranges.under (within w128 c.args.under (2 ^ 40) c.requires.under (omega arith))) c.requires.over c.requires.under (omega arith)

pub returns-clause-bound : goal.returns-clause-bound
returns-clause-bound c =
    product-within w128 _ _ c.args.over c.args.under (2 ^ 53) (2 ^ 40)
    (to_z-of_z w128 c.args.over c.ranges.over)
    (widened w64 w128 c.args.under c.ranges.under (within w128 c.args.under (2 ^ 40) c.requires.under (omega arith))) c.requires.over c.requires.under (omega arith)

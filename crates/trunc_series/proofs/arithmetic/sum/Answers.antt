use Rattle.std.proofs.Common.{rules, FitsSigned}
use Rattle.std.proofs.lemmas.Int.{wrapping_add_is}
use mir.Syntax.{w128}
use Rattle.trunc_series.proofs.arithmetic.sum.Goals as goal

pub returns-in-Wrapping : goal.returns-in-Wrapping
returns-in-Wrapping c =
    let x : FitsSigned w128 c.args.x.now = search rules in
    let y : FitsSigned w128 c.args.y.now = search rules in
    rw c.in-Wrapping.is (wrapping_add_is w128 c.args.x.now c.args.y.now x y)

use Rattle.std.proofs.Common.{rules, FitsSigned}
use Rattle.std.specs.Int.{w32, w128}
use Rattle.ray_merge.proofs.Divided.{gcd-fits, product-fits, negative-fits, value-is}
use Rattle.ray_merge.proofs.additions.added_value.Goals as goal

pub overflow_cast-g : goal.overflow_cast-g
overflow_cast-g c =
    let fa : FitsSigned w32 c.args.term.now.0.exp.a = search rules in
    let fb : FitsSigned w32 c.args.term.now.0.exp.b = search rules in
    gcd-fits _ _ fa fb c.requires.exponent _ _ c.gcd-g.result c.unsigned_abs.ensures.value c.unsigned_abs-2.ensures.value c.gcd-g.ensures

pub overflow_mul-result : goal.overflow_mul-result
overflow_mul-result c =
    let fa : FitsSigned w32 c.args.term.now.0.exp.a = search rules in
    let fb : FitsSigned w32 c.args.term.now.0.exp.b = search rules in
    let fn : FitsSigned w128 c.args.term.now.1.num = search rules in
    let fd : FitsSigned w128 c.args.term.now.1.den = search rules in
    product-fits _ _ fa fb c.requires.exponent _ _ c.gcd-g.result c.unsigned_abs.ensures.value c.unsigned_abs-2.ensures.value c.gcd-g.ensures _ _ fn fd c.args.term.now.1.lowest c.requires.whole c.requires.small

pub overflow_sub-result : goal.overflow_sub-result
overflow_sub-result c =
    let fa : FitsSigned w32 c.args.term.now.0.exp.a = search rules in
    let fb : FitsSigned w32 c.args.term.now.0.exp.b = search rules in
    let fn : FitsSigned w128 c.args.term.now.1.num = search rules in
    let fd : FitsSigned w128 c.args.term.now.1.den = search rules in
    negative-fits _ _ fa fb c.requires.exponent _ _ c.gcd-g.result c.unsigned_abs.ensures.value c.unsigned_abs-2.ensures.value c.gcd-g.ensures _ _ fn fd c.args.term.now.1.lowest c.requires.whole c.requires.small

pub returns : goal.returns
returns c =
    let fa : FitsSigned w32 c.args.term.now.0.exp.a = search rules in
    let fb : FitsSigned w32 c.args.term.now.0.exp.b = search rules in
    let fn : FitsSigned w128 c.args.term.now.1.num = search rules in
    let fd : FitsSigned w128 c.args.term.now.1.den = search rules in
    value-is _ _ fa fb c.requires.exponent _ _ c.gcd-g.result c.unsigned_abs.ensures.value c.unsigned_abs-2.ensures.value c.gcd-g.ensures _ _ fn fd c.args.term.now.1.lowest c.requires.whole c.requires.small

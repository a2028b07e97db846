use Rattle.std.proofs.Common.{refl}
use Rattle.ray_merge.proofs.Divided.{cast-fits, divides, divided-fits, divided-direction, divided-multiple, divided-small}
use Rattle.ray_merge.proofs.ray.primitive.Goals as goal

pub overflow_cast-g : goal.overflow_cast-g
overflow_cast-g c = cast-fits c.args.key.now.exp.a c.args.key.now.exp.b c.requires.tame.0 c.requires.tame.1 c.requires.exponent _ _ c.gcd-g.result c.unsigned_abs.ensures.value c.unsigned_abs-2.ensures.value c.gcd-g.ensures

pub nonzero_div-result : goal.nonzero_div-result
nonzero_div-result c = (
  divides c.args.key.now.exp.a c.args.key.now.exp.b c.requires.tame.0 c.requires.tame.1 c.requires.exponent _ _ c.gcd-g.result c.unsigned_abs.ensures.value c.unsigned_abs-2.ensures.value c.gcd-g.ensures,
  divided-fits c.args.key.now.exp.a c.args.key.now.exp.b c.requires.tame.0 c.requires.tame.1 c.requires.exponent _ _ c.gcd-g.result c.unsigned_abs.ensures.value c.unsigned_abs-2.ensures.value c.gcd-g.ensures c.args.key.now.exp.a c.requires.tame.0,
)

pub nonzero_div-result-2 : goal.nonzero_div-result-2
nonzero_div-result-2 c = (
  divides c.args.key.now.exp.a c.args.key.now.exp.b c.requires.tame.0 c.requires.tame.1 c.requires.exponent _ _ c.gcd-g.result c.unsigned_abs.ensures.value c.unsigned_abs-2.ensures.value c.gcd-g.ensures,
  divided-fits c.args.key.now.exp.a c.args.key.now.exp.b c.requires.tame.0 c.requires.tame.1 c.requires.exponent _ _ c.gcd-g.result c.unsigned_abs.ensures.value c.unsigned_abs-2.ensures.value c.gcd-g.ensures c.args.key.now.exp.b c.requires.tame.1,
)

pub invariant_of-result : goal.invariant_of-result
invariant_of-result c = record {
  primitive = divided-direction c.args.key.now.exp.a c.args.key.now.exp.b c.requires.tame.0 c.requires.tame.1 c.requires.exponent _ _ c.gcd-g.result c.unsigned_abs.ensures.value c.unsigned_abs-2.ensures.value c.gcd-g.ensures _ refl refl;
  small = (
    divided-small c.args.key.now.exp.a c.args.key.now.exp.b c.requires.tame.0 c.requires.tame.1 c.requires.exponent _ _ c.gcd-g.result c.unsigned_abs.ensures.value c.unsigned_abs-2.ensures.value c.gcd-g.ensures c.args.key.now.exp.a c.requires.tame.0,
    divided-small c.args.key.now.exp.a c.args.key.now.exp.b c.requires.tame.0 c.requires.tame.1 c.requires.exponent _ _ c.gcd-g.result c.unsigned_abs.ensures.value c.unsigned_abs-2.ensures.value c.gcd-g.ensures c.args.key.now.exp.b c.requires.tame.1,
  );
}

pub returns : goal.returns
returns c = divided-multiple c.args.key.now.exp.a c.args.key.now.exp.b c.requires.tame.0 c.requires.tame.1 c.requires.exponent _ _ c.gcd-g.result c.unsigned_abs.ensures.value c.unsigned_abs-2.ensures.value c.gcd-g.ensures _ refl refl

use Rattle.trunc_series.specs.Shown.{exp_of}
use Rattle.bend_finder.proofs.Directions.{gcd-above, cast-fits, first-fits, second-fits, divided-first, divided-second, made-direction, made-multiple, made-small}
use Rattle.bend_finder.proofs.direction.direction_of.Goals as goal

pub overflow_cast-g : goal.overflow_cast-g
overflow_cast-g c = cast-fits (exp_of c.args.x) c.requires.small.0 c.requires.small.1 c.requires.moves _ _ c.gcd-g.result c.unsigned_abs.ensures.value c.unsigned_abs-2.ensures.value c.gcd-g.ensures

pub nonzero_div-result : goal.nonzero_div-result
nonzero_div-result c = (gcd-above (exp_of c.args.x) c.requires.small.0 c.requires.small.1 c.requires.moves _ _ c.gcd-g.result c.unsigned_abs.ensures.value c.unsigned_abs-2.ensures.value c.gcd-g.ensures, first-fits (exp_of c.args.x) c.requires.small.0 c.requires.small.1 c.requires.moves _ _ c.gcd-g.result c.unsigned_abs.ensures.value c.unsigned_abs-2.ensures.value c.gcd-g.ensures)

pub nonzero_div-result-2 : goal.nonzero_div-result-2
nonzero_div-result-2 c = (gcd-above (exp_of c.args.x) c.requires.small.0 c.requires.small.1 c.requires.moves _ _ c.gcd-g.result c.unsigned_abs.ensures.value c.unsigned_abs-2.ensures.value c.gcd-g.ensures, second-fits (exp_of c.args.x) c.requires.small.0 c.requires.small.1 c.requires.moves _ _ c.gcd-g.result c.unsigned_abs.ensures.value c.unsigned_abs-2.ensures.value c.gcd-g.ensures)

pub invariant_of-result : goal.invariant_of-result
invariant_of-result c = record {
  primitive = made-direction (exp_of c.args.x) c.requires.small.0 c.requires.small.1 c.requires.moves _ _ c.gcd-g.result c.unsigned_abs.ensures.value c.unsigned_abs-2.ensures.value c.gcd-g.ensures _ (divided-first (exp_of c.args.x) c.requires.small.0 c.requires.small.1 c.requires.moves _ _ c.gcd-g.result c.unsigned_abs.ensures.value c.unsigned_abs-2.ensures.value c.gcd-g.ensures) (divided-second (exp_of c.args.x) c.requires.small.0 c.requires.small.1 c.requires.moves _ _ c.gcd-g.result c.unsigned_abs.ensures.value c.unsigned_abs-2.ensures.value c.gcd-g.ensures);
  small = made-small (exp_of c.args.x) c.requires.small.0 c.requires.small.1 c.requires.moves _ _ c.gcd-g.result c.unsigned_abs.ensures.value c.unsigned_abs-2.ensures.value c.gcd-g.ensures _ (divided-first (exp_of c.args.x) c.requires.small.0 c.requires.small.1 c.requires.moves _ _ c.gcd-g.result c.unsigned_abs.ensures.value c.unsigned_abs-2.ensures.value c.gcd-g.ensures) (divided-second (exp_of c.args.x) c.requires.small.0 c.requires.small.1 c.requires.moves _ _ c.gcd-g.result c.unsigned_abs.ensures.value c.unsigned_abs-2.ensures.value c.gcd-g.ensures);
}

pub returns : goal.returns
returns c = made-multiple (exp_of c.args.x) c.requires.small.0 c.requires.small.1 c.requires.moves _ _ c.gcd-g.result c.unsigned_abs.ensures.value c.unsigned_abs-2.ensures.value c.gcd-g.ensures _ (divided-first (exp_of c.args.x) c.requires.small.0 c.requires.small.1 c.requires.moves _ _ c.gcd-g.result c.unsigned_abs.ensures.value c.unsigned_abs-2.ensures.value c.gcd-g.ensures) (divided-second (exp_of c.args.x) c.requires.small.0 c.requires.small.1 c.requires.moves _ _ c.gcd-g.result c.unsigned_abs.ensures.value c.unsigned_abs-2.ensures.value c.gcd-g.ensures)

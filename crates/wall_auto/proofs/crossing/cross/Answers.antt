use Rattle.std.proofs.Common.{◌≡◌, ◌∙◌, refl}
use Rattle.std.specs.Prelude.{nat_abs}
use Rattle.scattering.specs.LocalProduct.{cross}
use Rattle.plane_geom.specs.Shown.{vector_of}
use Rattle.trunc_series.specs.Shown.{sum_of}
use Rattle.trunc_series.proofs.Exact.{Made, own}
use Rattle.wall_auto.specs.declared.side.Side.{Side}
use Rattle.wall_auto.specs.declared.side.Side.TheVariants.{Plus, Minus}
use Rattle.wall_auto.specs.Sign.{sign}
use Rattle.wall_auto.proofs.Results.{made-crossing}
use Rattle.wall_auto.proofs.crossing.cross.Goals as goal

pub crossed-requires-clause-kept : goal.crossed-requires-clause-kept
crossed-requires-clause-kept c = rw c.terms.ensures.terms (own c.args.g.now.order c.args.g.now.terms c.terms.ensures.valid.series c.terms.ensures.valid.small).keeps

pub crossed-requires-clause-low : goal.crossed-requires-clause-low
crossed-requires-clause-low c = rw (c.order-order.ensures.value, c.terms.ensures.terms) c.terms.ensures.valid.series.low

one-sign : (s : Side) → nat_abs (sign s) ≡ 1
one-sign Plus = refl
one-sign Minus = refl

pub from_sorted-requires : goal.from_sorted-requires
from_sorted-requires c =
    let m : Made c.args.g.now.order (sum_of c.in_ok-terms.terms.items) (cross c.args.g.now.order (vector_of c.args.dir.now) c.args.function.now.terms (sign c.args.side) c.args.g.now.terms) =
    made-crossing c.args.g.now.order (vector_of c.args.dir.now) c.args.function.now.terms c.requires.wall (sign c.args.side) c.args.g.now.terms (sum_of c.in_ok-terms.terms.items) c.terms.ensures.valid.order (one-sign c.args.side) c.requires.mass
    (rw (c.order-order.ensures.value, c.terms.ensures.terms) at c.in_ok-terms.ensures) in
    rw c.order-order.ensures.value m.0

pub returns : goal.returns
returns c =
    let m : Made c.args.g.now.order (sum_of c.in_ok-terms.terms.items) (cross c.args.g.now.order (vector_of c.args.dir.now) c.args.function.now.terms (sign c.args.side) c.args.g.now.terms) =
    made-crossing c.args.g.now.order (vector_of c.args.dir.now) c.args.function.now.terms c.requires.wall (sign c.args.side) c.args.g.now.terms (sum_of c.in_ok-terms.terms.items) c.terms.ensures.valid.order (one-sign c.args.side) c.requires.mass
    (rw (c.order-order.ensures.value, c.terms.ensures.terms) at c.in_ok-terms.ensures) in
    record {
      order = c.from_sorted.ensures.order ∙ c.order-order.ensures.value;
      series = rw c.from_sorted.ensures.terms m.0.series;
      same = rw c.from_sorted.ensures.terms m.1;
    }

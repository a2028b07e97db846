use Rattle.std.proofs.Common.{◌∙◌}
use Rattle.scattering.specs.LocalProduct.{cross_majorant}
use Rattle.plane_geom.specs.Shown.{vector_of}
use Rattle.trunc_series.specs.Shown.{sum_of}
use Rattle.trunc_series.proofs.Majorants.{MadeMajorant, made-majorant, own-majorant}
use Rattle.wall_auto.proofs.crossing.cross_majorant.Goals as goal

pub crossed-requires-clause-kept : goal.crossed-requires-clause-kept
crossed-requires-clause-kept c = rw c.terms.ensures.terms (own-majorant c.args.g.now.order c.args.g.now.terms c.terms.ensures.majorant).keeps

pub crossed-requires-clause-low : goal.crossed-requires-clause-low
crossed-requires-clause-low c = rw (c.order-order.ensures, c.terms.ensures.terms) c.terms.ensures.majorant.series.low

pub from_sorted-requires : goal.from_sorted-requires
from_sorted-requires c =
    let m : MadeMajorant c.args.g.now.order (sum_of c.in_ok-terms.terms.items) (cross_majorant c.args.g.now.order (vector_of c.args.dir.now) c.args.function.now.terms c.args.g.now.terms) =
    made-majorant c.args.g.now.order (sum_of c.in_ok-terms.terms.items) (cross_majorant c.args.g.now.order (vector_of c.args.dir.now) c.args.function.now.terms c.args.g.now.terms) c.terms.ensures.majorant.order (rw (c.order-order.ensures, c.terms.ensures.terms) at c.in_ok-terms.ensures) in
    rw c.order-order.ensures m.0

pub returns : goal.returns
returns c =
    let m : MadeMajorant c.args.g.now.order (sum_of c.in_ok-terms.terms.items) (cross_majorant c.args.g.now.order (vector_of c.args.dir.now) c.args.function.now.terms c.args.g.now.terms) =
    made-majorant c.args.g.now.order (sum_of c.in_ok-terms.terms.items) (cross_majorant c.args.g.now.order (vector_of c.args.dir.now) c.args.function.now.terms c.args.g.now.terms) c.terms.ensures.majorant.order (rw (c.order-order.ensures, c.terms.ensures.terms) at c.in_ok-terms.ensures) in
    record {
      order = c.from_sorted.ensures.order ∙ c.order-order.ensures;
      series = rw c.from_sorted.ensures.terms m.0.series;
      capped = rw c.from_sorted.ensures.terms m.1;
    }

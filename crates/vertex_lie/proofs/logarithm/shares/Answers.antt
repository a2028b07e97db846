use Rattle.std.proofs.Common.{arith, rules, ◌∙◌, ◌^◌, ◌<◌, length, FitsSigned}
use Rattle.std.specs.Int.{w128}
use Rattle.std.specs.Prelude.{nat_abs}
use Rattle.std.proofs.lemmas.Int.{to_z-of_z, fits_signed_from_abs}
use Rattle.scattering.specs.Series.{IsMultiple}
use Rattle.plane_geom.specs.Shown.{vector_of as direction_of}
use Rattle.trunc_series.proofs.Terms.{at, Every-at}
use Rattle.vertex_lie.specs.Logarithm.{log_divisor}
use Rattle.vertex_lie.proofs.Divided.{begun-more, begun-all, read-quotient}
use Rattle.vertex_lie.proofs.logarithm.shares.Goals as goal

pub divisor-requires : goal.divisor-requires
divisor-requires c = Every-at (λ t. IsMultiple (direction_of c.args.dir.now) t.0.exp) c.args.terms.now c.loop-t.t-index (omega arith) c.requires.multiples

pub loop-t-preserved : goal.loop-t-preserved
loop-t-preserved c =
    let l : c.loop-t.t-index < length c.args.terms.now = omega arith in
    let f : FitsSigned w128 (at c.args.terms.now c.loop-t.t-index).1 = fits_signed_from_abs w128 _ (Every-at (λ t. nat_abs t.1 < 2 ^ 127) c.args.terms.now c.loop-t.t-index l c.requires.small) in
    let g : FitsSigned w128 c.divisor.result = search rules in
    rw c.in_ok-push.ensures.items
    (begun-more (log_divisor (direction_of c.args.dir.now)) c.args.terms.now c.loop-t.out.items c.loop-t.t-index l c.new.result
    (read-quotient c.new.result.num c.new.result.den (at c.args.terms.now c.loop-t.t-index).1 _ _ (to_z-of_z w128 c.divisor.result g ∙ c.divisor.ensures.value) (rw (to_z-of_z w128 (at c.args.terms.now c.loop-t.t-index).1 f) at c.new.ensures)) c.loop-t.invariant)

pub returns : goal.returns
returns c = begun-all (log_divisor (direction_of c.args.dir.now)) c.args.terms.now c.loop-t.out.items c.loop-t.t-index (omega arith) c.loop-t.invariant

use Rattle.std.proofs.Common.{◌∙◌, sym, ap, arith}
use Rattle.std.specs.Prelude.{nat_abs}
use Rattle.plane_geom.specs.Shown.{point_of}
use Rattle.plane_geom.proofs.Casts.{back25}
use Rattle.trunc_series.specs.Shown.{exp_of}
use Rattle.bend_finder.proofs.PowerMajorants.{across-at}
use Rattle.bend_finder.proofs.powers.across.Goals as goal

pub returns-then-is_live_on-clause-value : goal.returns-then-is_live_on-clause-value
returns-then-is_live_on-clause-value c =
    c.unsigned_abs.ensures.value ∙ ap nat_abs (back25 c.det.result c.det.ensures.bound ∙ c.det.ensures.value)
    ∙ across-at c.args.walls.now c.loop-w.w-index c.w-item.result (point_of c.args.q.now) (exp_of c.args.x) c.loop-w-test.true c.w-item.is c.loop-w.invariant (sym c.is_live_on.ensures ∙ c.if-is_live_on.true)

pub returns-then-is_live_on-clause-bound : goal.returns-then-is_live_on-clause-bound
returns-then-is_live_on-clause-bound c =
    let e = c.unsigned_abs.ensures.value ∙ ap nat_abs (back25 c.det.result c.det.ensures.bound) in
    let b = c.det.ensures.bound in
    omega (arith, e, b)

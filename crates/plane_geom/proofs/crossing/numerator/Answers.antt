use Rattle.std.proofs.Common.{◌∙◌}
use lib.IntN.{*ℤ_comm}
use Rattle.plane_geom.proofs.Casts.{minus-is, minus-fits, minus-bound94, larger, minor-read, scaled-read, times-same}
use Rattle.sum_algebra.proofs.Integers.{minus-same}
use Rattle.plane_geom.proofs.crossing.numerator.Goals as goal

pub returns-clause-value : goal.returns-clause-value
returns-clause-value c =
    minus-is c.scaled.result c.scaled-2.result (larger c.scaled.result c.scaled.ensures.bound) (larger c.scaled-2.result c.scaled-2.ensures.bound)
    ∙ minus-same _ _ _ _
    (scaled-read c.scaled.result c.args.e.now.b c.minor.result c.args.e.now.small.1 c.minor.ensures.bound c.scaled.ensures.value
    ∙ times-same c.args.e.now.b _ _ (minor-read c.minor.result c.args.r.now.x c.args.p.now.w c.args.p.now.x c.args.r.now.w c.args.r.now.near.0 c.args.p.now.near.2 c.args.p.now.near.0 c.args.r.now.near.2 c.minor.ensures.value))
    (scaled-read c.scaled-2.result c.args.e.now.a c.minor-2.result c.args.e.now.small.0 c.minor-2.ensures.bound c.scaled-2.ensures.value
    ∙ times-same c.args.e.now.a _ _ (minor-read c.minor-2.result c.args.r.now.y c.args.p.now.w c.args.p.now.y c.args.r.now.w c.args.r.now.near.1 c.args.p.now.near.2 c.args.p.now.near.1 c.args.r.now.near.2 c.minor-2.ensures.value))
    ∙ minus-same _ _ _ _ (*ℤ_comm c.args.e.now.b _) (*ℤ_comm c.args.e.now.a _)

pub returns-clause-bound : goal.returns-clause-bound
returns-clause-bound c = minus-bound94 c.scaled.result c.scaled-2.result c.scaled.ensures.bound c.scaled-2.ensures.bound

pub overflow_sub-result : goal.overflow_sub-result
overflow_sub-result c = minus-fits c.scaled.result c.scaled-2.result (larger c.scaled.result c.scaled.ensures.bound) (larger c.scaled-2.result c.scaled-2.ensures.bound)

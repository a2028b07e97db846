use Rattle.std.proofs.Common.{◌∙◌}
use Rattle.plane_geom.proofs.Casts.{plus-fits, plus-is, larger, minor-read, scaled-read, times-same}
use Rattle.sum_algebra.proofs.Integers.{plus-same}
use Rattle.plane_geom.proofs.places.ahead.Goals as goal

pub returns : goal.returns
returns c =
    plus-is c.scaled.result c.scaled-2.result (larger c.scaled.result c.scaled.ensures.bound) (larger c.scaled-2.result c.scaled-2.ensures.bound)
    ∙ plus-same _ _ _ _
    (scaled-read c.scaled.result c.args.dir.now.a c.minor.result c.args.dir.now.small.0 c.minor.ensures.bound c.scaled.ensures.value
    ∙ times-same c.args.dir.now.a _ _ (minor-read c.minor.result c.args.p.now.x c.args.at.now.w c.args.at.now.x c.args.p.now.w c.args.p.now.near.0 c.args.at.now.near.2 c.args.at.now.near.0 c.args.p.now.near.2 c.minor.ensures.value))
    (scaled-read c.scaled-2.result c.args.dir.now.b c.minor-2.result c.args.dir.now.small.1 c.minor-2.ensures.bound c.scaled-2.ensures.value
    ∙ times-same c.args.dir.now.b _ _ (minor-read c.minor-2.result c.args.p.now.y c.args.at.now.w c.args.at.now.y c.args.p.now.w c.args.p.now.near.1 c.args.at.now.near.2 c.args.at.now.near.1 c.args.p.now.near.2 c.minor-2.ensures.value))

pub overflow_add-result : goal.overflow_add-result
overflow_add-result c = plus-fits c.scaled.result c.scaled-2.result (larger c.scaled.result c.scaled.ensures.bound) (larger c.scaled-2.result c.scaled-2.ensures.bound)

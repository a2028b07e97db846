use Rattle.std.proofs.Common.{◌∙◌}
use Rattle.plane_geom.proofs.Casts.{back64, back128}
use Rattle.local_product.proofs.run_line.RunLine.through.Goals as goal

pub returns-clause-point : goal.returns-clause-point
returns-clause-point c = (back128 c.offset.result c.offset.ensures.bound ∙ c.offset.ensures.value, back64 c.args.p.now.w c.args.p.now.near.2)

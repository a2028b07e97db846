use Rattle.std.proofs.Common.{◌∙◌, ap}
use Rattle.scattering.specs.SupportingLine.{offset}
use Rattle.plane_geom.specs.Shown.{point_of, vector_of}
use Rattle.local_product.proofs.run_line.RunLine.of_wall.Goals as goal

pub returns : goal.returns
returns c =
    let e = c.through.ensures in
    let v = ap vector_of e.direction ∙ c.line_direction.ensures in
    let o = e.point.0 ∙ ap (λ d. offset d (point_of c.args.wall.now.at)) v in
    (λ i. record { dir = v i; over = o i; under = e.point.1 i })

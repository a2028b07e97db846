use Rattle.scattering.specs.Wall.{walls}
use Rattle.scattering.proofs.Lists.{In-right}
use Rattle.plane_geom.specs.Shown.{point_of}
use Rattle.local_product.proofs.Obstructed.{light-told, rays-light}
use Rattle.local_product.proofs.obstruction.correction.Goals as goal

pub returns-clause-rays : goal.returns-clause-rays
returns-clause-rays c =
    let e = c.args.tables.now.diagram in
    let ws = walls e.diagram in
    let p = point_of c.args.p.now in
    let n = c.args.tables.now.order in
    let o = c.order-order.ensures in
    let l = light-told ws p n c.order-order.result c.as_slice-halves.result.now c.half_walls.new.out.items c.in_ok-is_light.field-0 o.value c.as_slice-halves.ensures.value c.in_ok-half_walls.ensures.halves c.if-not-branch.false
    c.in_ok-is_light.ensures.light in
    rays-light e.order ws o.proper p n l e.diagram.rays (λ r i. In-right e.diagram.initial e.diagram.rays r i)

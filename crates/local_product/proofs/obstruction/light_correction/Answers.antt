use Rattle.std.proofs.Common.{◌≤◌, ℕ, refl, sym, subst, arith}
use Rattle.scattering.specs.Wall.{walls}
use Rattle.scattering.specs.LocalProduct.{axis_x, axis_y}
use Rattle.plane_geom.specs.Shown.{point_of}
use Rattle.trunc_series.specs.Shown.{exp_of}
use Rattle.vertex_lie.specs.Leading.{axis_of, HasNothingAlong, IsLeadingAlong, IsLeadingPart}
use Rattle.local_product.proofs.Obstructed.{as-top, top-near, axis-unit, nothing-along, leading-exists, obstructed, obstructed-by-one}
use Rattle.local_product.proofs.obstruction.light_correction.Goals as goal

pub leading_from-requires-clause-near : goal.leading_from-requires-clause-near
leading_from-requires-clause-near c =
    let ws = walls c.args.tables.now.diagram.diagram in
    let p = point_of c.args.p.now in
    let n = c.args.tables.now.order in
    let u = axis_of c.in-Some.axis in
    let o = c.order-order.ensures in
    let a = as-top ws p n c.order-order.result c.args.halves.now (exp_of c.exponent_of-m.result) u c.in_ok-one.one o.value c.requires.point.halves c.exponent_of-m.ensures c.in_ok-one.ensures.image in
    top-near ws p n (subst (λ k. k ≤ 24) o.value o.bound) o.tame u (axis-unit c.in-Some.axis) c.in_ok-one.one a

pub leading_from-requires-clause-edge : goal.leading_from-requires-clause-edge
leading_from-requires-clause-edge c =
    let e = c.args.tables.now.diagram in
    let ws = walls e.diagram in
    let p = point_of c.args.p.now in
    let n = c.args.tables.now.order in
    let u = axis_of c.in-Some.axis in
    let o = c.order-order.ensures in
    let a = as-top ws p n c.order-order.result c.args.halves.now (exp_of c.exponent_of-m.result) u c.in_ok-one.one o.value c.requires.point.halves c.exponent_of-m.ensures c.in_ok-one.ensures.image in
    let s = c.in-Some.ensures ws c.requires.point.halves in
    subst (λ (k : ℕ). HasNothingAlong c.in_ok-one.one.terms k u) (sym o.value)
    (nothing-along e.order ws o.proper p n c.requires.point.some c.in-Some.axis s.0 s.1 s.2 c.in_ok-one.one a)

pub returns-in-Some-clause-correction : goal.returns-in-Some-clause-correction
returns-in-Some-clause-correction c =
    let e = c.args.tables.now.diagram in
    let ws = walls e.diagram in
    let p = point_of c.args.p.now in
    let n = c.args.tables.now.order in
    let u = axis_of c.in-Some.axis in
    let o = c.order-order.ensures in
    let a = as-top ws p n c.order-order.result c.args.halves.now (exp_of c.exponent_of-m.result) u c.in_ok-one.one o.value c.requires.point.halves c.exponent_of-m.ensures c.in_ok-one.ensures.image in
    let s = c.in-Some.ensures ws c.requires.point.halves in
    obstructed-by-one e.order ws o.proper p n c.requires.point.some c.in-Some.axis s.0 s.1 s.2 c.in_ok-one.one a c.requires.point.consistent o.tame c.requires.point.light c.in_ok-h.h
    (subst (λ (k : ℕ). IsLeadingAlong c.in_ok-one.one.terms k u c.in_ok-h.h) o.value c.in_ok-h.ensures)

pub leading-requires-clause-near_x : goal.leading-requires-clause-near_x
leading-requires-clause-near_x c =
    let ws = walls c.args.tables.now.diagram.diagram in
    let p = point_of c.args.p.now in
    let n = c.args.tables.now.order in
    let o = c.order-order.ensures in
    let a = as-top ws p n c.order-order.result c.args.halves.now axis_x axis_x c.in_ok-x.x o.value c.requires.point.halves refl c.in_ok-x.ensures.image in
    top-near ws p n (subst (λ k. k ≤ 24) o.value o.bound) o.tame axis_x (omega arith, omega arith) c.in_ok-x.x a

pub leading-requires-clause-near_y : goal.leading-requires-clause-near_y
leading-requires-clause-near_y c =
    let ws = walls c.args.tables.now.diagram.diagram in
    let p = point_of c.args.p.now in
    let n = c.args.tables.now.order in
    let o = c.order-order.ensures in
    let a = as-top ws p n c.order-order.result c.args.halves.now axis_y axis_y c.in_ok-y.y o.value c.requires.point.halves refl c.in_ok-y.ensures.image in
    top-near ws p n (subst (λ k. k ≤ 24) o.value o.bound) o.tame axis_y (omega arith, omega arith) c.in_ok-y.y a

pub leading-requires-clause-exists : goal.leading-requires-clause-exists
leading-requires-clause-exists c =
    let e = c.args.tables.now.diagram in
    let ws = walls e.diagram in
    let p = point_of c.args.p.now in
    let n = c.args.tables.now.order in
    let o = c.order-order.ensures in
    let a = as-top ws p n c.order-order.result c.args.halves.now axis_x axis_x c.in_ok-x.x o.value c.requires.point.halves refl c.in_ok-x.ensures.image in
    let b = as-top ws p n c.order-order.result c.args.halves.now axis_y axis_y c.in_ok-y.y o.value c.requires.point.halves refl c.in_ok-y.ensures.image in
    rw o.value (leading-exists e.order ws o.proper p n c.requires.point.some c.requires.point.consistent c.in_ok-x.x c.in_ok-y.y a b)

pub returns-clause-correction : goal.returns-clause-correction
returns-clause-correction c =
    let e = c.args.tables.now.diagram in
    let ws = walls e.diagram in
    let p = point_of c.args.p.now in
    let n = c.args.tables.now.order in
    let o = c.order-order.ensures in
    let a = as-top ws p n c.order-order.result c.args.halves.now axis_x axis_x c.in_ok-x.x o.value c.requires.point.halves refl c.in_ok-x.ensures.image in
    let b = as-top ws p n c.order-order.result c.args.halves.now axis_y axis_y c.in_ok-y.y o.value c.requires.point.halves refl c.in_ok-y.ensures.image in
    obstructed e.order ws o.proper p n c.requires.point.some c.requires.point.consistent o.tame c.requires.point.light c.in_ok-x.x c.in_ok-y.y a b c.in_ok-h-2.h
    (subst (λ (k : ℕ). IsLeadingPart c.in_ok-x.x.terms c.in_ok-y.y.terms k c.in_ok-h-2.h) o.value c.in_ok-h-2.ensures)

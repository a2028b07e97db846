use Rattle.std.proofs.Common.{sym, arith}
use Rattle.plane_geom.specs.Shown.{point_of}
use Rattle.scatter_diagram.specs.Shown.{walls_of}
use Rattle.bend_finder.proofs.KeptEntries.{taken-part}
use Rattle.bend_finder.proofs.TakenPowers.{new-series}
use Rattle.bend_finder.proofs.kept.take_series.Goals as goal

pub returns-then-order-most-clause-power : goal.returns-then-order-most-clause-power
returns-then-order-most-clause-power c =
    let o = c.order.ensures in
    let t = c.if-order-most.true in
    λ ls s. (omega (arith, o, t), λ h. h c.args.key c.in-Some.power (sym c.in-Some.ensures.value))

pub returns-then-order-most-clause-part : goal.returns-then-order-most-clause-part
returns-then-order-most-clause-part c = taken-part c.args.kept.now c.remove.new.self c.args.key c.remove.ensures.updates

pub returns-in_err-power-clause-part : goal.returns-in_err-power-clause-part
returns-in_err-power-clause-part c = taken-part c.args.kept.now c.remove.new.self c.args.key c.remove.ensures.updates

pub returns-clause-power : goal.returns-clause-power
returns-clause-power c = λ ls s.
    let n = new-series c.args.most ls (walls_of c.args.walls.now) (point_of c.args.q.now) c.args.key c.in_ok-power.power c.requires.point s c.in_ok-power.ensures in
    (n.0, λ h. n.1)

pub returns-clause-part : goal.returns-clause-part
returns-clause-part c = taken-part c.args.kept.now c.remove.new.self c.args.key c.remove.ensures.updates

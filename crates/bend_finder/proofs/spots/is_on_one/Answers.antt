use Rattle.std.proofs.Common.{◌∙◌, refl, sym}
use Rattle.std.specs.Prelude.{IsTrue}
use Rattle.plane_geom.specs.Shown.{point_of}
use Rattle.scatter_diagram.specs.Shown.{wall_of}
use Rattle.scattering.specs.Wall.{is_on}
use Rattle.bend_finder.proofs.SpecialPoints.{none-more, none-at_all, wall-in}
use Rattle.bend_finder.proofs.spots.is_on_one.Goals as goal

pub loop-w-preserved : goal.loop-w-preserved
loop-w-preserved c = none-more (λ v. IsTrue (is_on v (point_of c.args.p.now))) c.args.walls.now c.loop-w.w-index c.w-item.result c.loop-w-test.true c.w-item.is c.loop-w.invariant (λ k. let e = c.holds.ensures in let f = c.if-holds.false in absurd (cc))

pub returns-then-holds : goal.returns-then-holds
returns-then-holds c = (λ t. (wall_of c.w-item.result, wall-in c.args.walls.now c.loop-w.w-index c.w-item.result c.loop-w-test.true c.w-item.is, sym c.holds.ensures ∙ c.if-holds.true), λ s. refl)

pub returns : goal.returns
returns c = (λ t. absurd (cc), λ s. absurd (none-at_all (λ v. IsTrue (is_on v (point_of c.args.p.now))) c.args.walls.now c.loop-w.w-index c.loop-w-test.false c.loop-w.invariant s.0 s.1 s.2))

use Rattle.std.proofs.Common.{◌∙◌, refl, sym}
use Rattle.std.specs.Prelude.{IsTrue}
use Rattle.plane_geom.specs.Shown.{point_of}
use Rattle.scatter_diagram.specs.Shown.{wall_of}
use Rattle.bend_finder.specs.Special.{live_starts}
use Rattle.bend_finder.proofs.SpecialPoints.{none-more, none-at_all, wall-in}
use Rattle.bend_finder.proofs.spots.has_start.Goals as goal

pub loop-w-preserved : goal.loop-w-preserved
loop-w-preserved c = none-more (λ v. IsTrue (live_starts v (point_of c.args.p.now))) c.args.walls.now c.loop-w.w-index c.w-item.result c.loop-w-test.true c.w-item.is c.loop-w.invariant (λ k. let e = c.starts_live.ensures in let f = c.if-starts_live.false in absurd (cc))

pub returns-then-starts_live : goal.returns-then-starts_live
returns-then-starts_live c = (λ t. (wall_of c.w-item.result, wall-in c.args.walls.now c.loop-w.w-index c.w-item.result c.loop-w-test.true c.w-item.is, sym c.starts_live.ensures ∙ c.if-starts_live.true), λ s. refl)

pub returns : goal.returns
returns c = (λ t. absurd (cc), λ s. absurd (none-at_all (λ v. IsTrue (live_starts v (point_of c.args.p.now))) c.args.walls.now c.loop-w.w-index c.loop-w-test.false c.loop-w.invariant s.0 s.1 s.2))

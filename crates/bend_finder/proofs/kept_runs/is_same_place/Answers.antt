use Rattle.std.proofs.Common.{List, ◌≡◌, subst}
use Rattle.std.proofs.lemmas.List.{take_all}
use Rattle.scattering.specs.BrokenLine.{live_on}
use Rattle.plane_geom.specs.Shown.{point_of}
use Rattle.scatter_diagram.specs.declared.wall.Wall.{Wall as CodeWall}
use Rattle.scatter_diagram.specs.Shown.{walls_of}
use Rattle.bend_finder.proofs.kept_runs.is_same_place.Goals as goal

pub returns : goal.returns
returns c e = subst (λ (us : List CodeWall). live_on (walls_of us) (point_of c.args.p.now) ≡ live_on (walls_of us) (point_of c.args.q.now)) (take_all c.loop-w.w-index c.args.walls.now c.loop-w-test.false) c.loop-w.invariant

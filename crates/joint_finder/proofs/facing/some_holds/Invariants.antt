use Rattle.std.proofs.Common.{take}
use Rattle.scattering.specs.Collections.{In}
use Rattle.plane_geom.specs.Shown.{point_of, OnSupport}
use Rattle.joint_finder.specs.declared.live.LiveWall.{LiveWall}
use Rattle.joint_finder.proofs.facing.some_holds.Given as goal

abbrev pub invariant-loop-wall : goal.invariant-loop-wall
invariant-loop-wall l = (k : LiveWall) → In k (take l.wall-index l.walls) → OnSupport k.support (point_of l.p) → ⊥

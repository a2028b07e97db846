use Rattle.std.proofs.Common.{arith}
use Rattle.plane_geom.specs.Shown.{point_of}
use Rattle.scatter_diagram.specs.Shown.{walls_of}
use Rattle.bend_finder.specs.Runs.{OnSome}
use Rattle.bend_finder.proofs.FoundWalls.{line-held, some-length}
use Rattle.bend_finder.proofs.SpecialPoints.{wall-in}
use Rattle.bend_finder.proofs.spots.is_on_some.Goals as goal
use Rattle.bend_finder.proofs.spots.is_on_some.Goals.{then-walls-gt0, else-walls-gt0}

pub returns-else-line_holds : goal.returns-else-line_holds
returns-else-line_holds c =
    let ws = c.args.walls.now in
    let q = point_of c.args.p.now in
    let f = c.if-line_holds.false in
    let none : OnSome (walls_of ws) q → ⊥ = λ o.
    elim c.if-walls-gt0.branch [
      | then-walls-gt0 w ↦
          let u = w.index-walls-0.result in
          let held = line-held ws u q c.requires (wall-in ws 0 u w.if-walls-gt0.true w.index-walls-0.is) o in
          let e = w.line_holds.ensures in
          let v = w.value-is in
          absurd (cc)
      | else-walls-gt0 w ↦ absurd (let n = w.if-walls-gt0.false in let l = some-length ws o.0 o.1 in omega (arith, n, l))
    ] in
    (λ t. absurd (cc), λ o. absurd (none o))

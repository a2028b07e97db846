use Rattle.std.proofs.Common.{◌∙◌, arith}
use Rattle.std.proofs.lemmas.Int.{ints}
use Rattle.bend_finder.proofs.FoundWalls.{some-walls, some-length}
use Rattle.bend_finder.proofs.MarkedRuns.{parallel-along, held-along}
use Rattle.bend_finder.proofs.SpecialPoints.{wall-in}
use Rattle.bend_finder.proofs.candidates.lies_along.Goals as goal

pub returns-then-walls-eq0 : goal.returns-then-walls-eq0
returns-then-walls-eq0 c = λ m. absurd (let l = some-length c.args.walls.now m.0 m.2 in let e = c.if-walls-eq0.true in omega (arith, l, e))

pub returns-then-det-eq0 : goal.returns-then-det-eq0
returns-then-det-eq0 c = λ m.
    let ws = c.args.walls.now in
    let u = c.index-walls-0.result in
    c.line_holds.ensures ∙ held-along c.args.p.now c.args.d.now ws c.requires u (wall-in ws 0 u (some-walls ws c.if-walls-eq0.false) c.index-walls-0.is) m

pub returns-else-det-eq0 : goal.returns-else-det-eq0
returns-else-det-eq0 c = λ m.
    let ws = c.args.walls.now in
    let u = c.index-walls-0.result in
    let z = parallel-along c.args.p.now c.args.d.now ws c.requires u (wall-in ws 0 u (some-walls ws c.if-walls-eq0.false) c.index-walls-0.is) m in
    let v = c.det.ensures.value in
    let f = c.if-det-eq0.false in
    absurd (omega (arith, ints, v, f, z))

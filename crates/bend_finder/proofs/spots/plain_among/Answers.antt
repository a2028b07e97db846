use Rattle.std.proofs.Common.{◌++◌}
use Rattle.plane_geom.specs.Shown.{point_of}
use Rattle.scatter_diagram.specs.Shown.{walls_of}
use Rattle.bend_finder.specs.Marks.{all_along, all_marked}
use Rattle.bend_finder.specs.Runs.{IsFoundOn}
use Rattle.bend_finder.proofs.FoundWalls.{start-special, found-plain, found-run}
use Rattle.bend_finder.proofs.spots.plain_among.Goals as goal

pub returns-then-has_start-clause-walls : goal.returns-then-has_start-clause-walls
returns-then-has_start-clause-walls c = λ ls s.
    let q = point_of c.args.q.now in
    let seen = all_along c.args.along.now ++ all_marked c.args.marks.now in
    let f : IsFoundOn ls seen q (walls_of c.in_ok-found-2.found.now) = c.in_ok-found-2.ensures.walls ls (all_along c.args.along.now) (c.in_ok-found.ensures.walls ls s.runs.along s.live) s.runs.marks s.live in
    start-special ls seen q c.in_ok-found-2.found.now s.all f (c.has_start.ensures.0 c.if-has_start.true)

pub returns-clause-walls : goal.returns-clause-walls
returns-clause-walls c = λ ls s.
    let q = point_of c.args.q.now in
    let seen = all_along c.args.along.now ++ all_marked c.args.marks.now in
    let f : IsFoundOn ls seen q (walls_of c.in_ok-found-2.found.now) = c.in_ok-found-2.ensures.walls ls (all_along c.args.along.now) (c.in_ok-found.ensures.walls ls s.runs.along s.live) s.runs.marks s.live in
    found-plain ls seen q c.in_ok-found-2.found.now s.all f (λ h. let t = c.has_start.ensures.1 h in let e = c.if-has_start.false in absurd (cc))

pub returns-clause-run : goal.returns-clause-run
returns-clause-run c = λ ls s.
    let q = point_of c.args.q.now in
    let seen = all_along c.args.along.now ++ all_marked c.args.marks.now in
    let f : IsFoundOn ls seen q (walls_of c.in_ok-found-2.found.now) = c.in_ok-found-2.ensures.walls ls (all_along c.args.along.now) (c.in_ok-found.ensures.walls ls s.runs.along s.live) s.runs.marks s.live in
    found-run ls seen q (walls_of c.in_ok-found-2.found.now) f

pub returns-clause-order : goal.returns-clause-order
returns-clause-order c = λ n o. c.in_ok-found-2.ensures.order n (c.in_ok-found.ensures.order n o.along) o.marks

use Rattle.std.proofs.Common.{sym, ◌∙◌}
use Rattle.plane_geom.specs.Shown.{point_of}
use Rattle.scatter_diagram.specs.Shown.{wall_of}
use Rattle.bend_finder.proofs.FoundWalls.{found-old, found-new, found-both, found-crossing, some-length, no-walls_of, some-walls}
use Rattle.bend_finder.proofs.SpecialPoints.{wall-in}
use Rattle.bend_finder.proofs.spots.found_more.Goals as goal

pub returns-then-not-is_on_some-clause-walls : goal.returns-then-not-is_on_some-clause-walls
returns-then-not-is_on_some-clause-walls c = λ ls seen h r l.
    found-old ls seen (point_of c.args.q.now) c.args.found.now c.args.run.now h r (λ o. let t = c.is_on_some.ensures.1 o in let f = c.if-not-is_on_some.true in absurd (cc))

pub returns-then-found-eq0-clause-walls : goal.returns-then-found-eq0-clause-walls
returns-then-found-eq0-clause-walls c = λ ls seen h r l.
    found-new ls seen (point_of c.args.q.now) c.args.found.now c.args.run.now h r (no-walls_of c.args.found.now c.if-found-eq0.true) (c.is_on_some.ensures.0 c.if-not-is_on_some.false)

pub returns-then-are_parallel-clause-walls : goal.returns-then-are_parallel-clause-walls
returns-then-are_parallel-clause-walls c = λ ls seen h r l.
    let o = c.is_on_some.ensures.0 c.if-not-is_on_some.false in
    let fs = c.args.found.now in
    let rs = c.args.run.now in
    let u = c.index-found-0.result in
    let v = c.index-run-0.result in
    found-both ls seen (point_of c.args.q.now) fs rs h r c.args.q.now.reduced (wall_of u) (wall_of v) (wall-in fs 0 u (some-walls fs c.if-found-eq0.false) c.index-found-0.is) (wall-in rs 0 v (some-length rs o.0 o.1) c.index-run-0.is) o
    (sym c.are_parallel.ensures ∙ c.if-are_parallel.true)

pub returns-else-are_parallel-clause-walls : goal.returns-else-are_parallel-clause-walls
returns-else-are_parallel-clause-walls c = λ ls seen h r l.
    let o = c.is_on_some.ensures.0 c.if-not-is_on_some.false in
    let fs = c.args.found.now in
    let rs = c.args.run.now in
    let u = c.index-found-0.result in
    let v = c.index-run-0.result in
    found-crossing ls seen (point_of c.args.q.now) fs rs h r c.args.q.now.reduced (wall_of u) (wall_of v) (wall-in fs 0 u (some-walls fs c.if-found-eq0.false) c.index-found-0.is) (wall-in rs 0 v (some-length rs o.0 o.1) c.index-run-0.is) o
    l (sym c.are_parallel.ensures ∙ c.if-are_parallel.false)

use Rattle.std.proofs.Common.{sym, subst, List, ◌++◌, take}
use Rattle.scattering.specs.Wall.{Wall}
use Rattle.plane_geom.specs.Shown.{point_of}
use Rattle.scatter_diagram.specs.Listed.{AreOfOrder}
use Rattle.scatter_diagram.specs.Shown.{walls_of}
use Rattle.scatter_diagram.specs.declared.wall.Wall.{Wall as CodeWall}
use Rattle.bend_finder.specs.Runs.{IsOneLine, IsRunOf, IsFoundOn, all_walls}
use Rattle.bend_finder.proofs.Lines.{all-more, all-done, run-at}
use Rattle.bend_finder.proofs.FoundWalls.{none-found_on, start-special, found-plain, found-run}
use Rattle.bend_finder.proofs.spots.plain_run.Goals as goal

pub loop-run-init : goal.loop-run-init
loop-run-init c = record { walls = λ ls h. none-found_on ls (point_of c.args.q.now); order = λ n h. tt }

pub found_more-requires : goal.found_more-requires
found_more-requires c =
    subst (λ (ws : List CodeWall). IsOneLine (walls_of ws)) (sym c.as_slice.ensures.value)
    (run-at (λ r. IsOneLine (walls_of r.items)) c.args.runs.now c.loop-run.run-index c.run-item.result c.loop-run-test.true c.run-item.is c.requires)

pub loop-run-preserved : goal.loop-run-preserved
loop-run-preserved c =
    let rs = c.args.runs.now in
    let i = c.loop-run.run-index in
    let r = c.run-item.result in
    let t = c.loop-run-test.true in
    let q = point_of c.args.q.now in
    let found = c.in_ok-found.found.now in
    record {
      walls = λ ls h.
          let g : IsRunOf ls (walls_of c.as_slice.result.now) = subst (λ (ws : List CodeWall). IsRunOf ls (walls_of ws)) (sym c.as_slice.ensures.value) (run-at (λ r. IsRunOf ls (walls_of r.items)) rs i r t c.run-item.is h.each) in
          let f = c.in_ok-found.ensures.walls ls (all_walls (take i rs)) (c.loop-run.invariant.walls ls h) g h.live in
          subst (λ (us : List Wall). IsFoundOn ls us q (walls_of found)) (sym (all-more rs i r t c.run-item.is))
          (subst (λ (ws : List CodeWall). IsFoundOn ls (all_walls (take i rs) ++ walls_of ws) q (walls_of found)) c.as_slice.ensures.value f);
      order = λ n h. c.in_ok-found.ensures.order n (c.loop-run.invariant.order n h)
          (subst (AreOfOrder n) (sym c.as_slice.ensures.value) (run-at (λ r. AreOfOrder n r.items) rs i r t c.run-item.is h));
    }

pub returns-in_err-found-clause-walls : goal.returns-in_err-found-clause-walls
returns-in_err-found-clause-walls c = λ ls h.
    let rs = c.args.runs.now in
    let i = c.loop-run.run-index in
    let r = c.run-item.result in
    let t = c.loop-run-test.true in
    let g : IsRunOf ls (walls_of c.as_slice.result.now) = subst (λ (ws : List CodeWall). IsRunOf ls (walls_of ws)) (sym c.as_slice.ensures.value) (run-at (λ r. IsRunOf ls (walls_of r.items)) rs i r t c.run-item.is h.each) in
    let s = c.in_err-found.ensures.walls ls (all_walls (take i rs)) (c.loop-run.invariant.walls ls h) g h.live in
    rw c.from_residual.ensures s

pub returns-then-has_start-clause-walls : goal.returns-then-has_start-clause-walls
returns-then-has_start-clause-walls c = λ ls h.
    let rs = c.args.runs.now in
    let q = point_of c.args.q.now in
    let f = c.loop-run.found.now in
    let all : IsFoundOn ls (all_walls rs) q (walls_of f) = subst (λ (us : List Wall). IsFoundOn ls us q (walls_of f)) (all-done rs c.loop-run.run-index c.loop-run-test.false) (c.loop-run.invariant.walls ls h) in
    start-special ls (all_walls rs) q f (λ w i o. h.all w i) all (c.has_start.ensures.0 c.if-has_start.true)

pub returns-clause-walls : goal.returns-clause-walls
returns-clause-walls c = λ ls h.
    let rs = c.args.runs.now in
    let q = point_of c.args.q.now in
    let f = c.loop-run.found.now in
    let all : IsFoundOn ls (all_walls rs) q (walls_of f) = subst (λ (us : List Wall). IsFoundOn ls us q (walls_of f)) (all-done rs c.loop-run.run-index c.loop-run-test.false) (c.loop-run.invariant.walls ls h) in
    found-plain ls (all_walls rs) q f (λ w i o. h.all w i) all (λ s. let t = c.has_start.ensures.1 s in let e = c.if-has_start.false in absurd (cc))

pub returns-clause-order : goal.returns-clause-order
returns-clause-order c = λ n h. c.loop-run.invariant.order n h

pub returns-clause-run : goal.returns-clause-run
returns-clause-run c = λ ls h.
    let rs = c.args.runs.now in
    let q = point_of c.args.q.now in
    let f = c.loop-run.found.now in
    let all : IsFoundOn ls (all_walls rs) q (walls_of f) = subst (λ (us : List Wall). IsFoundOn ls us q (walls_of f)) (all-done rs c.loop-run.run-index c.loop-run-test.false) (c.loop-run.invariant.walls ls h) in
    found-run ls (all_walls rs) q (walls_of f) all

use Rattle.std.proofs.Common.{sym, subst, List, take}
use Rattle.std.proofs.lemmas.List.{take_all}
use Rattle.scattering.specs.Wall.{Wall}
use Rattle.scattering.proofs.Lists.{Every-at}
use Rattle.plane_geom.specs.Shown.{point_of}
use Rattle.scatter_diagram.specs.Listed.{AreOfOrder}
use Rattle.scatter_diagram.specs.Shown.{walls_of}
use Rattle.joint_finder.proofs.Lists.{In-get}
use Rattle.bend_finder.specs.Marks.{Run, all_along}
use Rattle.bend_finder.specs.Runs.{IsOneLine, IsRunOf, IsFoundOn}
use Rattle.bend_finder.proofs.FoundWalls.{none-found_on}
use Rattle.bend_finder.proofs.MarkedRuns.{all_along-more}
use Rattle.bend_finder.proofs.spots.found_along.Goals as goal

pub loop-run-init : goal.loop-run-init
loop-run-init c = record { walls = λ ls h l. none-found_on ls (point_of c.args.q.now); order = λ n h. tt }

pub found_more-requires : goal.found_more-requires
found_more-requires c = Every-at (λ (a : Run). IsOneLine (walls_of a.now)) c.args.along.now c.run-item.result c.requires (In-get c.args.along.now c.loop-run.run-index c.run-item.result c.loop-run-test.true c.run-item.is)

pub loop-run-preserved : goal.loop-run-preserved
loop-run-preserved c =
    let rs = c.args.along.now in
    let i = c.loop-run.run-index in
    let r = c.run-item.result in
    let t = c.loop-run-test.true in
    let at = In-get rs i r t c.run-item.is in
    record {
      walls = λ ls h l.
          let f = c.in_ok-found.ensures.walls ls (all_along (take i rs)) (c.loop-run.invariant.walls ls h l) (Every-at (λ (a : Run). IsRunOf ls (walls_of a.now)) rs r h at) l in
          subst (λ (us : List Wall). IsFoundOn ls us (point_of c.args.q.now) (walls_of c.in_ok-found.found.now)) (sym (all_along-more rs i r t c.run-item.is)) f;
      order = λ n h. c.in_ok-found.ensures.order n (c.loop-run.invariant.order n h) (Every-at (λ (a : Run). AreOfOrder n a.now) rs r h at);
    }

pub returns-in_err-found-clause-walls : goal.returns-in_err-found-clause-walls
returns-in_err-found-clause-walls c = λ ls h l.
    let rs = c.args.along.now in
    let i = c.loop-run.run-index in
    let r = c.run-item.result in
    let at = In-get rs i r c.loop-run-test.true c.run-item.is in
    let s = c.in_err-found.ensures.walls ls (all_along (take i rs)) (c.loop-run.invariant.walls ls h l) (Every-at (λ (a : Run). IsRunOf ls (walls_of a.now)) rs r h at) l in
    rw c.from_residual.ensures s

pub returns-clause-walls : goal.returns-clause-walls
returns-clause-walls c = λ ls h l. subst (λ (rs : List Run). IsFoundOn ls (all_along rs) (point_of c.args.q.now) (walls_of c.loop-run.found.now)) (take_all c.loop-run.run-index c.args.along.now c.loop-run-test.false) (c.loop-run.invariant.walls ls h l)

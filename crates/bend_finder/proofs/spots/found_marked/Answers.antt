use Rattle.std.proofs.Common.{◌∙◌, sym, subst, ap, List, ◌++◌, take}
use Rattle.std.proofs.lemmas.List.{take_all, append-nil, append_assoc}
use Rattle.scattering.specs.Wall.{Wall}
use Rattle.scattering.proofs.Lists.{Every-at}
use Rattle.plane_geom.specs.Shown.{point_of}
use Rattle.scatter_diagram.specs.Listed.{AreOfOrder}
use Rattle.scatter_diagram.specs.Shown.{walls_of}
use Rattle.joint_finder.proofs.Lists.{In-get}
use Rattle.bend_finder.specs.declared.marks.Mark.{Mark}
use Rattle.bend_finder.specs.Marks.{mark_walls, all_marked}
use Rattle.bend_finder.specs.Runs.{IsOneLine, IsRunOf, IsFoundOn}
use Rattle.bend_finder.proofs.MarkedRuns.{all_marked-more}
use Rattle.bend_finder.proofs.spots.found_marked.Goals as goal

pub loop-m-init : goal.loop-m-init
loop-m-init c = record {
  walls = λ ls seen h r l. subst (λ (us : List Wall). IsFoundOn ls us (point_of c.args.q.now) (walls_of c.args.found.now)) (sym (append-nil seen)) h;
  order = λ n h o. h;
}

pub found_more-requires : goal.found_more-requires
found_more-requires c = Every-at (λ (m : Mark). IsOneLine (mark_walls m)) c.args.marks.now c.m-item.result c.requires (In-get c.args.marks.now c.loop-m.m-index c.m-item.result c.loop-m-test.true c.m-item.is)

pub loop-m-preserved : goal.loop-m-preserved
loop-m-preserved c =
    let ms = c.args.marks.now in
    let i = c.loop-m.m-index in
    let m = c.m-item.result in
    let t = c.loop-m-test.true in
    let at = In-get ms i m t c.m-item.is in
    record {
      walls = λ ls seen h r l.
          let f = c.in_ok-found.ensures.walls ls (seen ++ all_marked (take i ms)) (c.loop-m.invariant.walls ls seen h r l) (Every-at (λ (n : Mark). IsRunOf ls (mark_walls n)) ms m r at) l in
          subst (λ (us : List Wall). IsFoundOn ls us (point_of c.args.q.now) (walls_of c.in_ok-found.found.now))
          (append_assoc seen (all_marked (take i ms)) (mark_walls m) ∙ ap (λ us. seen ++ us) (sym (all_marked-more ms i m t c.m-item.is))) f;
      order = λ n h o. c.in_ok-found.ensures.order n (c.loop-m.invariant.order n h o) (Every-at (λ (x : Mark). AreOfOrder n x.walls.now) ms m o at);
    }

pub returns-in_err-found-clause-walls : goal.returns-in_err-found-clause-walls
returns-in_err-found-clause-walls c = λ ls seen h r l.
    let ms = c.args.marks.now in
    let i = c.loop-m.m-index in
    let m = c.m-item.result in
    let at = In-get ms i m c.loop-m-test.true c.m-item.is in
    let s = c.in_err-found.ensures.walls ls (seen ++ all_marked (take i ms)) (c.loop-m.invariant.walls ls seen h r l) (Every-at (λ (n : Mark). IsRunOf ls (mark_walls n)) ms m r at) l in
    rw c.from_residual.ensures s

pub returns-clause-walls : goal.returns-clause-walls
returns-clause-walls c = λ ls seen h r l. subst (λ (ms : List Mark). IsFoundOn ls (seen ++ all_marked ms) (point_of c.args.q.now) (walls_of c.loop-m.found.now)) (take_all c.loop-m.m-index c.args.marks.now c.loop-m-test.false) (c.loop-m.invariant.walls ls seen h r l)

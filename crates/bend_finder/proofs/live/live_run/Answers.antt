use Rattle.std.proofs.Common.{◌∙◌, sym, ap, [], ◌∷◌, ◌++◌, take}
use Rattle.std.proofs.lemmas.List.{take_all}
use Rattle.scatter_diagram.specs.Shown.{wall_of, walls_of}
use Rattle.joint_finder.proofs.LiveWalls.{walls-more}
use Rattle.bend_finder.specs.Live.{live_cut}
use Rattle.bend_finder.proofs.LiveCut.{live_cut-append}
use Rattle.bend_finder.proofs.PowerMajorants.{order-at}
use Rattle.bend_finder.proofs.live.live_run.Goals as goal

pub add_live-requires : goal.add_live-requires
add_live-requires c = order-at c.args.limit c.args.walls.now c.loop-w.w-index c.w-item.result c.loop-w-test.true c.w-item.is c.requires

pub loop-w-preserved : goal.loop-w-preserved
loop-w-preserved c =
    let n = c.args.limit in
    let ws = c.args.walls.now in
    let i = c.loop-w.w-index in
    let w = c.w-item.result in
    record {
      walls = c.in_ok-add_live.ensures.walls ∙ ap (λ us. us ++ live_cut n (wall_of w ∷ [])) c.loop-w.invariant.walls ∙ sym (live_cut-append n (walls_of (take i ws)) (wall_of w ∷ []))
          ∙ ap (live_cut n) (sym (walls-more [] ws i w c.loop-w-test.true c.w-item.is));
      order = c.in_ok-add_live.ensures.order c.loop-w.invariant.order;
    }

pub returns-clause-walls : goal.returns-clause-walls
returns-clause-walls c = c.loop-w.invariant.walls ∙ ap (λ us. live_cut c.args.limit (walls_of us)) (take_all c.loop-w.w-index c.args.walls.now c.loop-w-test.false)

pub returns-clause-order : goal.returns-clause-order
returns-clause-order c = c.loop-w.invariant.order

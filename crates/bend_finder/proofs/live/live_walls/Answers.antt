use Rattle.std.proofs.Common.{◌∙◌, ◌<◌, sym, ap, [], ◌∷◌, ◌++◌, length, arith}
use Rattle.std.proofs.lemmas.List.{take_all, append-nil}
use Rattle.scatter_diagram.specs.Shown.{wall_of}
use Rattle.bend_finder.specs.Live.{live_cut}
use Rattle.bend_finder.proofs.LiveCut.{live_cut-more}
use Rattle.bend_finder.proofs.live.live_walls.Goals as goal

pub loop-i-preserved : goal.loop-i-preserved
loop-i-preserved c =
    let vs = c.args.e.now.diagram.initial in
    let l : c.loop-i.i < length vs = let t = c.loop-i-test.true in let e = c.line_count-i-end.ensures in omega (arith, t, e) in
    record {
      walls = c.in_ok-add_live.ensures.walls ∙ ap (λ us. us ++ live_cut c.args.limit (wall_of c.line.result.now ∷ [])) c.loop-i.invariant.walls ∙ sym (live_cut-more c.args.limit [] vs c.loop-i.i (wall_of c.line.result.now) l c.line.ensures.wall);
      order = c.in_ok-add_live.ensures.order c.loop-i.invariant.order;
    }

pub loop-i-2-init : goal.loop-i-2-init
loop-i-2-init c =
    let vs = c.args.e.now.diagram.initial in
    let t = c.loop-i-test.false in
    let e = c.line_count-i-end.ensures in
    record {
      walls = c.loop-i.invariant.walls ∙ ap (live_cut c.args.limit) (take_all c.loop-i.i vs (omega (arith, t, e))) ∙ ap (live_cut c.args.limit) (sym (append-nil vs));
      order = c.loop-i.invariant.order;
    }

pub loop-i-2-preserved : goal.loop-i-2-preserved
loop-i-2-preserved c =
    let vs = c.args.e.now.diagram.rays in
    let l : c.loop-i-2.i < length vs = let t = c.loop-i-2-test.true in let e = c.ray_count-i-end.ensures.count in omega (arith, t, e) in
    record {
      walls = c.in_ok-add_live-2.ensures.walls ∙ ap (λ us. us ++ live_cut c.args.limit (wall_of c.ray.result.now ∷ [])) c.loop-i-2.invariant.walls
          ∙ sym (live_cut-more c.args.limit c.args.e.now.diagram.initial vs c.loop-i-2.i (wall_of c.ray.result.now) l c.ray.ensures.wall);
      order = c.in_ok-add_live-2.ensures.order c.loop-i-2.invariant.order;
    }

pub returns-clause-walls : goal.returns-clause-walls
returns-clause-walls c =
    let vs = c.args.e.now.diagram.rays in
    let t = c.loop-i-2-test.false in
    let e = c.ray_count-i-end.ensures.count in
    c.loop-i-2.invariant.walls ∙ ap (λ us. live_cut c.args.limit (c.args.e.now.diagram.initial ++ us)) (take_all c.loop-i-2.i vs (omega (arith, t, e)))

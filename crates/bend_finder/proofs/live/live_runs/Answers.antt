use Rattle.std.proofs.Common.{◌≡◌, ◌<◌, ◌∙◌, ℕ, sym, ap, subst, [], ◌∷◌, ◌++◌, List, length, arith}
use Rattle.std.specs.List.{flat_map}
use Rattle.std.proofs.lemmas.List.{take_all}
use Rattle.scattering.specs.Collections.{In, Every}
use Rattle.scattering.specs.SupportingLine.{runs}
use Rattle.scattering.specs.Wall.{Wall, walls}
use Rattle.scattering.proofs.Lists.{Every-append}
use Rattle.scatter_diagram.specs.Listed.{AreOfOrder}
use Rattle.scatter_diagram.specs.Shown.{walls_of}
use Rattle.bend_finder.specs.Live.{live_cut, IsReady}
use Rattle.bend_finder.specs.Runs.{LiveRun, IsRunOf, all_walls}
use Rattle.bend_finder.proofs.LiveCut.{live-run, run-kept, run-left_out, all-cut, cut-live}
use Rattle.bend_finder.proofs.FoundWalls.{no-walls_of}
use Rattle.bend_finder.proofs.PowerMajorants.{orders-at_least}
use Rattle.bend_finder.proofs.live.live_runs.Goals as goal
use Rattle.bend_finder.proofs.live.live_runs.Goals.{then-len-gt0+in_ok-push, else-len-gt0}

pub live_run-requires : goal.live_run-requires
live_run-requires c =
    let m = c.min-most.ensures in
    let o = c.order.ensures.value in
    orders-at_least c.min-most.result c.args.e.now.order c.along.result.now (omega (arith, m, o)) c.along.ensures.order

pub loop-i-init : goal.loop-i-init
loop-i-init c = record {
  each = subst (Every (λ (r : LiveRun). IsRunOf (live_cut c.min-most.result (walls c.args.e.now.diagram)) (walls_of r.items))) (sym c.new-runs.ensures.items) tt;
  all = λ w i. absurd i;
  order = subst (Every (λ (r : LiveRun). AreOfOrder c.min-most.result r.items)) (sym c.new-runs.ensures.items) tt;
}

pub loop-i-preserved : goal.loop-i-preserved
loop-i-preserved c =
    let ws = walls c.args.e.now.diagram in
    let n = c.min-most.result in
    let h = c.run_count-i-end.ensures.proper in
    let i = c.loop-i.i in
    let l : i < length (runs ws) = let t = c.loop-i-test.true in let e = c.run_count-i-end.ensures.count in omega (arith, t, e) in
    let g = walls_of c.along.result.now in
    let e = c.along.ensures.walls in
    let r = c.in_ok-run.run' in
    let k = c.in_ok-run.ensures in
    let rs = c.loop-i.runs.items in
    let new = c.if-len-gt0.runs.items in
    elim c.if-len-gt0.branch [
      | then-len-gt0+in_ok-push m ↦
          let q : new ≡ rs ++ r ∷ [] = ap (λ v. v.items) m.runs-is ∙ m.in_ok-push.ensures.items in
          record {
            each = subst (Every (λ (r : LiveRun). IsRunOf (live_cut n ws) (walls_of r.items))) (sym q)
                (Every-append (λ (r : LiveRun). IsRunOf (live_cut n ws) (walls_of r.items)) rs (r ∷ []) c.loop-i.invariant.each
                (subst (IsRunOf (live_cut n ws)) (sym k.walls) (live-run c.args.e.now.order n ws h i g l e), tt));
            all = run-kept c.args.e.now.order n ws h i g l e rs c.loop-i.invariant.all r new q k.walls;
            order = subst (Every (λ (r : LiveRun). AreOfOrder n r.items)) (sym q) (Every-append (λ (r : LiveRun). AreOfOrder n r.items) rs (r ∷ []) c.loop-i.invariant.order (k.order, tt));
          }
      | else-len-gt0 m ↦
          let q : new ≡ rs = ap (λ v. v.items) m.runs-is in
          let z : length r.items ≡ 0 = let f = m.if-len-gt0.false in let e = c.len.ensures in omega (arith, f, e) in
          record {
            each = subst (Every (λ (r : LiveRun). IsRunOf (live_cut n ws) (walls_of r.items))) (sym q) c.loop-i.invariant.each;
            all = λ w j. subst (λ (vs : List LiveRun). In w (all_walls vs)) (sym q) (run-left_out c.args.e.now.order n ws h i g l e rs c.loop-i.invariant.all (sym k.walls ∙ no-walls_of r.items z) w j);
            order = subst (Every (λ (r : LiveRun). AreOfOrder n r.items)) (sym q) c.loop-i.invariant.order;
          }
    ]

pub returns : goal.returns
returns c =
    let ws = walls c.args.e.now.diagram in
    let n = c.min-most.result in
    let o = c.order.ensures in
    let v = o.value in
    let b = o.bound in
    let m = c.min-most.ensures in
    let r = c.requires in
    let e : n ≡ c.args.limit = omega (arith, v, r, m) in
    let done = take_all c.loop-i.i (runs ws) (let t = c.loop-i-test.false in let e = c.run_count-i-end.ensures.count in omega (arith, t, e)) in
    subst (λ (d : ℕ). IsReady d c.args.e.now c.loop-i.runs.items) e (record {
      low = omega (arith, v, b, m);
      within = omega (arith, v, m);
      runs = record {
        each = c.loop-i.invariant.each;
        all = λ w i. c.loop-i.invariant.all w (subst (λ (gs : List (List Wall)). In w (live_cut n (flat_map (λ g. g) gs))) (sym done) (all-cut c.args.e.now.order n ws o.proper w i));
        live = cut-live n ws;
      };
      order = c.loop-i.invariant.order;
    })

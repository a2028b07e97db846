use Rattle.std.proofs.Common.{◌≡◌, ◌∙◌, sym, ap, subst, arith}
use Rattle.scattering.specs.Wall.{walls}
use Rattle.bend_finder.specs.Ahead.{SeenFinder, finder}
use Rattle.bend_finder.specs.Live.{live_cut}
use Rattle.bend_finder.specs.KeptRuns.{IsReadyWith}
use Rattle.bend_finder.proofs.LiveCut.{live-proper}
use Rattle.bend_finder.proofs.finder.BendFinder.new.Goals as goal

pub invariant_of-result : goal.invariant_of-result
invariant_of-result c =
    let ws = walls c.args.e.now.diagram in
    let n = c.min.result in
    let o = c.order.ensures in
    let v = o.value in
    let b = o.bound in
    let m = c.min.ensures in
    subst (λ (f : SeenFinder). IsReadyWith f c.new-2.result) (sym c.in_ok-live.ensures) (record {
      low = omega (arith, v, b, m);
      proper = live-proper c.args.e.now.order n ws o.proper;
      kept = c.new-2.ensures (live_cut n ws);
    })

pub returns : goal.returns
returns c =
    let o = c.order.ensures.value in
    let m = c.min.ensures in
    let r = c.requires in
    let e : c.min.result ≡ c.args.limit = omega (arith, o, r, m) in
    c.in_ok-live.ensures ∙ ap (finder (walls c.args.e.now.diagram)) e

use Rattle.std.proofs.Common.{◌≡◌, ◌<◌, sym, subst, false, List, length, take, arith, rules}
use Rattle.std.specs.List.{flat_map}
use Rattle.std.proofs.lemmas.List.{take_all}
use Rattle.std.proofs.lemmas.List.Sorted.{IsNonDecreasingBy-from_sort_by_key, IsPermutation-sym}
use Rattle.scattering.specs.Collections.{Every}
use Rattle.scattering.specs.Wall.{Wall, walls}
use Rattle.scattering.specs.SupportingLine.{runs}
use Rattle.scattering.specs.ActivePoint.{is_incoming}
use Rattle.scattering.proofs.Lists.{Every-append}
use Rattle.crossing_theory.proofs.SupportingLines.{runs-more, Every-runs}
use Rattle.scatter_diagram.specs.Shown.{walls_of}
use Rattle.joint_finder.specs.Live.{AreLive}
use Rattle.joint_finder.proofs.LiveWalls.{none-live, live-permutation, live-runs, not-incoming}
use Rattle.joint_finder.proofs.live.live_walls.Goals as goal

pub loop-run-init : goal.loop-run-init
loop-run-init c = record { seen = rw c.new-live.ensures.items none-live; kinds = tt }

pub loop-run-preserved : goal.loop-run-preserved
loop-run-preserved c =
    let gs = runs (walls c.args.e.now.diagram) in
    let run = c.loop-run.run in
    let g = walls_of c.along.result.now in
    let l : run < length gs = let t = c.loop-run-test.true in let e = c.run_count-run-end.ensures.count in omega (arith, t, e) in
    let more = runs-more gs run g l c.along.ensures.walls in
    record {
      seen = subst (AreLive c.add_live.new.live.items) (sym more) (c.in_ok-add_live.ensures (flat_map (λ h. h) (take run gs)) c.loop-run.invariant.seen);
      kinds = subst (Every (λ (w : Wall). is_incoming w.kind ≡ false)) (sym more) (Every-append (λ (w : Wall). is_incoming w.kind ≡ false) (flat_map (λ h. h) (take run gs)) g c.loop-run.invariant.kinds (not-incoming c.along.result.now));
    }

pub returns-clause-walls : goal.returns-clause-walls
returns-clause-walls c =
    let p = c.in_ok-sort_by_key.ensures.permutation in
    let gs = runs (walls c.args.e.now.diagram) in
    let t = c.loop-run-test.false in
    let e = c.run_count-run-end.ensures.count in
    let all = take_all c.loop-run.run gs (omega (arith, t, e)) in
    live-permutation _ _ _ p (IsPermutation-sym _ _ p)
    (live-runs c.args.e.now.order c.loop-run.live.items (walls c.args.e.now.diagram) c.run_count-run-end.ensures.proper
    (subst (λ (hs : List (List Wall)). AreLive c.loop-run.live.items (flat_map (λ h. h) hs)) all c.loop-run.invariant.seen))

pub returns-clause-kinds : goal.returns-clause-kinds
returns-clause-kinds c =
    let gs = runs (walls c.args.e.now.diagram) in
    let t = c.loop-run-test.false in
    let e = c.run_count-run-end.ensures.count in
    let all = take_all c.loop-run.run gs (omega (arith, t, e)) in
    Every-runs c.args.e.now.order (λ (w : Wall). is_incoming w.kind ≡ false) (walls c.args.e.now.diagram) c.run_count-run-end.ensures.proper
    (subst (λ (hs : List (List Wall)). Every (λ (w : Wall). is_incoming w.kind ≡ false) (flat_map (λ h. h) hs)) all c.loop-run.invariant.kinds)

pub returns-clause-sorted : goal.returns-clause-sorted
returns-clause-sorted c = IsNonDecreasingBy-from_sort_by_key (λ l. l.degree) _ c.in_ok-sort_by_key.ensures.sorted (λ a r q k. search rules)

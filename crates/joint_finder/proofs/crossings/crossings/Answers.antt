use Rattle.std.proofs.Common.{◌+◌, ◌-◌, length, take, drop, List, sym, subst, arith}
use Rattle.std.specs.List.Sorted.{IsNonDecreasingBy}
use Rattle.std.proofs.lemmas.Result.{err_from_is_err_and}
use Rattle.joint_finder.specs.declared.live.LiveWall.{LiveWall}
use Rattle.joint_finder.specs.Crossings.{MeetsOne, AreMeeting, Adds}
use Rattle.joint_finder.proofs.Meetings.{sorted-drop, rest-all, one-of-all, met-more, met-all, stops-with}
use Rattle.joint_finder.proofs.crossings.crossings.Goals as goal

pub add_crossings-requires : goal.add_crossings-requires
add_crossings-requires c = subst (λ (ms : List LiveWall). IsNonDecreasingBy (λ l. l.degree) ms) (sym (rest-all c.args.live.now (c.loop-i.i + 1))) (sorted-drop c.args.live.now (c.loop-i.i + 1) c.requires)

pub returns-in_err-add_crossings-clause-far : goal.returns-in_err-add_crossings-clause-far
returns-in_err-add_crossings-clause-far c =
    let p = err_from_is_err_and c.from_residual.result c.from_residual.ensures.1 in
    let ls = c.args.live.now in
    let i = c.loop-i.i in
    rw (p.1, p.2)
    (stops-with c.args.order (MeetsOne c.args.order c.index-live-i.result (take (length ls - (i + 1)) (drop (i + 1) ls))) (AreMeeting c.args.order ls) _
    (λ q r x. one-of-all c.args.order i ls c.index-live-i.result q c.loop-i-test.true c.index-live-i.is (subst (λ (ms : List LiveWall). MeetsOne c.args.order c.index-live-i.result ms q) (rest-all ls (i + 1)) x))
    c.in_err-add_crossings.ensures.far)

pub loop-i-preserved : goal.loop-i-preserved
loop-i-preserved c =
    let ls = c.args.live.now in
    let i = c.loop-i.i in
    met-more c.args.order i ls c.index-live-i.result c.loop-i.points.items c.add_crossings.new.points.items c.loop-i-test.true c.index-live-i.is c.loop-i.invariant
    (subst (λ (ms : List LiveWall). Adds (MeetsOne c.args.order c.index-live-i.result ms) c.loop-i.points.items c.add_crossings.new.points.items) (rest-all ls (i + 1)) c.in_ok-add_crossings.ensures.points)

pub returns-clause-points : goal.returns-clause-points
returns-clause-points c = met-all c.args.order c.loop-i.i c.args.live.now c.loop-i.points.items (omega arith) c.loop-i.invariant

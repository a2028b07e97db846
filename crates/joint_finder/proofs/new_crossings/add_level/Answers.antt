use Rattle.std.proofs.Common.{ℕ, sym, subst}
use Rattle.std.specs.Prelude.{IfErr, OnOk}
use Rattle.joint_finder.specs.Crossings.{Adds, StopsFar}
use Rattle.joint_finder.specs.Strands.{level, AreFacing, MeetsAny}
use Rattle.joint_finder.proofs.NewMeetings.{levels-facing}
use Rattle.joint_finder.proofs.new_crossings.add_level.Goals as goal

pub add_within-requires-clause-facing : goal.add_within-requires-clause-facing
add_within-requires-clause-facing g c κs o =
    let n = c.args.order in
    let ls = c.args.live.now in
    rw (c.as_slice.ensures.value, c.in_ok-first.ensures)
    (subst (λ (k : ℕ). AreFacing n (level c.args.low ls) (level k ls)) (sym c.if-low-order.true) (levels-facing n c.args.low ls c.requires.low))

pub returns-then-low-order-clause-points : goal.returns-then-low-order-clause-points
returns-then-low-order-clause-points g c =
    let n = c.args.order in
    let ls = c.args.live.now in
    subst (λ (k : ℕ). OnOk c.add_within.result (Adds (MeetsAny n (level c.args.low ls) (level k ls)) c.args.points.now.items c.add_within.new.points.items)) c.if-low-order.true
    (rw (c.as_slice.ensures.value, c.in_ok-first.ensures) at c.add_within.ensures.points)

pub returns-then-low-order-clause-far : goal.returns-then-low-order-clause-far
returns-then-low-order-clause-far g c =
    let n = c.args.order in
    let ls = c.args.live.now in
    subst (λ (k : ℕ). IfErr c.add_within.result (StopsFar n (MeetsAny n (level c.args.low ls) (level k ls)))) c.if-low-order.true
    (rw (c.as_slice.ensures.value, c.in_ok-first.ensures) at c.add_within.ensures.far)

pub add_between-requires-clause-facing : goal.add_between-requires-clause-facing
add_between-requires-clause-facing g c κs o =
    rw (c.as_slice-2.ensures.value, c.as_slice-3.ensures.value, c.in_ok-first.ensures, c.in_ok-second.ensures)
    (levels-facing c.args.order c.args.low c.args.live.now c.requires.low)

pub returns-clause-points : goal.returns-clause-points
returns-clause-points g c = rw (c.as_slice-2.ensures.value, c.as_slice-3.ensures.value, c.in_ok-first.ensures, c.in_ok-second.ensures) at c.add_between.ensures.points

pub returns-clause-far : goal.returns-clause-far
returns-clause-far g c = rw (c.as_slice-2.ensures.value, c.as_slice-3.ensures.value, c.in_ok-first.ensures, c.in_ok-second.ensures) at c.add_between.ensures.far

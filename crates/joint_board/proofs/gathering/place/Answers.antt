use Rattle.std.proofs.Common.{Some}
use Rattle.joint_board.proofs.Results.{place_within}
use Rattle.joint_board.proofs.gathering.place.Goals as goal

pub loop-number-preserved-in-Some : goal.loop-number-preserved-in-Some
loop-number-preserved-in-Some g c =
    let i = c.loop-number.invariant in
    let e = c.in-Some.ensures.steps.0 in record {
      next = tt;
      finite = tt;
      within = place_within _ _ _ c.loop-number.slots.items (Some c.in-Some.result) e i.within;
      placed = rw e at i.placed;
    }

pub loop-number-preserved : goal.loop-number-preserved
loop-number-preserved g c =
    let i = c.loop-number.invariant in
    let e = c.in-Some.ensures.steps.0 in record {
      next = tt;
      finite = tt;
      within = place_within _ _ _ c.loop-number.slots.items (Some c.in-Some.result) e i.within;
      placed = rw e at i.placed;
    }

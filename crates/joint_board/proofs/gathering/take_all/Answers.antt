use Rattle.std.proofs.Common.{sym, true≢false, IsSome}
use Rattle.std.proofs.lemmas.List.Elements.{All-head, All-rest, All-same}
use Rattle.joint_board.proofs.Results.{take_one}
use Rattle.joint_board.proofs.gathering.take_all.Goals as goal

pub loop-slot-preserved-in-Continue-1 : goal.loop-slot-preserved-in-Continue-1
loop-slot-preserved-in-Continue-1 g c =
    let i = c.loop-slot.invariant in
    let e = c.in-Some.ensures.steps.0 in record {
      some = All-rest IsSome _ _ _ e i.some;
      taken = rw c.in_ok-push.ensures.items (take_one _ _ _ _ _ _ e c.in-Some-slot.is i.taken);
    }

pub loop-slot-preserved : goal.loop-slot-preserved
loop-slot-preserved g c =
    let i = c.loop-slot.invariant in
    let e = c.in-Some.ensures.steps.0 in
    let full = All-head IsSome c.in-Some.slot _ (All-same IsSome _ _ (sym e) i.some) in
    absurd (true≢false (sym (rw c.in_default.is at full)))

use Rattle.std.proofs.Common.{◌+◌, sym, ap, subst, ◌∙◌}
use Rattle.plane_geom.specs.Shown.{point_of}
use Rattle.ray_merge.specs.Additions.{corrections_of}
use Rattle.order_tests.proofs.WorkedRows.{IsRow, no-row, longer-row, corrections-push}
use Rattle.order_tests.proofs.merges.corrections.Goals as goal

pub loop-x-init : goal.loop-x-init
loop-x-init c = rw c.new-out.ensures.items (no-row c.args.order)

pub loop-x-preserved : goal.loop-x-preserved
loop-x-preserved c =
    subst (IsRow c.args.order (c.loop-x.x + 1)) (sym (ap corrections_of c.in_ok-push.ensures.items ∙ corrections-push c.loop-x.out.items c.in_ok-correction.field-0))
    (longer-row c.args.order c.loop-x.x (corrections_of c.loop-x.out.items) (point_of c.in_ok-correction.field-0.0) c.in_ok-correction.field-0.1 c.loop-x.invariant c.in_ok-correction.ensures.place c.in_ok-correction.ensures.addable c.in_ok-correction.ensures.tame c.in_ok-correction.ensures.light c.in_ok-correction.ensures.values)

pub returns : goal.returns
returns c = c.loop-x.invariant.fit

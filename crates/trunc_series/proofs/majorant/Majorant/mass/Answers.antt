use Rattle.std.proofs.Common.{arith, ◌∙◌}
use Rattle.std.specs.Prelude.{pos, ◌≤ℤ◌}
use Rattle.trunc_series.specs.Arithmetic.{limit}
use Rattle.trunc_series.proofs.Terms.{Every-at}
use Rattle.trunc_series.proofs.Majorants.{mass-step}
use Rattle.trunc_series.proofs.majorant.Majorant.mass.Goals as goal

pub total-mass-requires : goal.total-mass-requires
total-mass-requires c = (Every-at (λ t. (pos 0 ≤ℤ t.1) × (t.1 ≤ℤ limit)) c.as_slice-t-items.result.now c.loop-t.t-index (omega arith) (rw c.as_slice-t-items.ensures.value c.self.invariant.range)).0

pub loop-t-preserved : goal.loop-t-preserved
loop-t-preserved c =
    record {
      kept = omega arith;
      sum =
          rw c.total-mass.ensures
          (mass-step c.args.self.now.order c.loop-t.mass c.as_slice-t-items.result.now c.loop-t.t-index (omega arith) (rw (← c.self.view_is, c.as_slice-t-items.ensures.value) c.self.invariant.series.low)
          ∙ c.loop-t.invariant.sum);
    }

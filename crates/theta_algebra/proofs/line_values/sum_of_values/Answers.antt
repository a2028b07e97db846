use Rattle.std.proofs.Common.{◌∙◌}
use Rattle.trunc_series.specs.Shown.{exp_of}
use Rattle.theta_algebra.proofs.TracedSums.{sum-step}
use Rattle.theta_algebra.proofs.line_values.sum_of_values.Goals as goal

pub loop-tail-preserved : goal.loop-tail-preserved
loop-tail-preserved c =
    let same = c.loop-tail.invariant.same in
    record {
      same = c.in_ok-add_value.ensures.same ∙ same;
      stands = sum-step c.args.tracer.now c.loop-tail.tracer (exp_of c.args.m) c.args.tails.now c.loop-tail.tail-index c.tail-item.result c.loop-tail.sum c.add_value.new.sum same c.requires.tails c.loop-tail-test.true c.tail-item.is
          c.loop-tail.invariant.stands c.in_ok-add_value.ensures.added;
    }

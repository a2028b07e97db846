use Rattle.std.proofs.Common.{◌<◌, length, length-set, arith}
use Rattle.weight_bounds.proofs.Rows.{slow-more, least-more, closed-more}
use Rattle.weight_bounds.proofs.reach.Reach.closed.Goals as goal

pub loop-e-preserved : goal.loop-e-preserved
loop-e-preserved c =
    let l : c.loop-e.e < length c.loop-e.reach = omega (arith, c.loop-e.invariant.length) in
    record {
      length = simp length-set c.loop-e.invariant.length;
      slow = slow-more c.loop-e.reach c.loop-e.e c.farthest.result l c.loop-e.invariant.slow c.farthest.ensures.slow;
      least = least-more c.args.self.now.most c.loop-e.reach c.loop-e.e c.farthest.result l c.loop-e.invariant.least c.farthest.ensures.farthest.own;
      closed = closed-more c.loop-e.reach c.loop-e.e c.farthest.result c.loop-e.auto.e l c.loop-e.invariant.slow c.farthest.ensures.farthest c.loop-e.invariant.closed;
    }

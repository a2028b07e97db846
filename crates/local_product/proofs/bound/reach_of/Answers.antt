use Rattle.std.proofs.Common.{◌∙◌, arith}
use Rattle.local_product.specs.Tabled.{HalfHasTables}
use Rattle.local_product.proofs.Bounded.{reaches-more}
use Rattle.local_product.proofs.bound.reach_of.Goals as goal
use Rattle.scattering.proofs.Lists.{Every-place}

pub loop-h-preserved : goal.loop-h-preserved
loop-h-preserved c =
    let t = Every-place (HalfHasTables c.args.order) c.args.halves.now c.loop-h.h-index c.h-item.result (omega arith) c.h-item.is c.requires.tables in
    record {
      order = c.add.ensures.order ∙ c.loop-h.invariant.order;
      reached =
          reaches-more c.args.order c.args.halves.now c.loop-h.h-index c.h-item.result (omega arith) c.h-item.is t c.loop-h.reach.order c.loop-h.reach.most c.add.new.self.most c.loop-h.invariant.order c.add.ensures.old c.add.ensures.table
          c.loop-h.invariant.reached;
    }

use Rattle.std.proofs.Common.{◌≡◌, take}
use Rattle.weight_bounds.specs.Bounds.{ReachesHalves}
use Rattle.local_product.specs.Shown.{halves_of}
use Rattle.local_product.proofs.bound.reach_of.Given as goal

abbrev pub invariant-loop-h : goal.invariant-loop-h
invariant-loop-h l = record {
  order : l.reach.order ≡ l.order;
  reached : ReachesHalves l.order l.reach.most (halves_of (take l.h-index l.halves));
}

use Rattle.std.proofs.Common.{◌≡◌, take}
use Rattle.weight_bounds.specs.Bounds.{BoundsImages, ReachesHalves}
use Rattle.local_product.specs.Shown.{halves_of}
use Rattle.local_product.proofs.bound.weight_bound.Given as goal

abbrev pub invariant-loop-h : goal.invariant-loop-h
invariant-loop-h l = record {
  order : l.bound.order ≡ l.order;
  reached : ReachesHalves l.order l.bound.reach (halves_of l.halves);
  images : BoundsImages l.bound (halves_of (take l.h-index l.halves));
}

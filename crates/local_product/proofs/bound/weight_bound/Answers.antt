use Rattle.std.proofs.Common.{ℕ, List, ◌∙◌, subst, sym, arith}
use Rattle.scattering.specs.LocalProduct.{Half}
use Rattle.scattering.proofs.Lists.{Every-place}
use Rattle.plane_geom.specs.Shown.{vector_of as direction_of}
use Rattle.weight_bounds.specs.Bounds.{BoundsImages, ReachesHalves}
use Rattle.weight_bounds.specs.Masses.{IsReached}
use Rattle.weight_bounds.specs.Tables.{IsMassTable}
use Rattle.local_product.specs.Shown.{half_of, halves_of}
use Rattle.local_product.specs.Tabled.{HalfHasTables}
use Rattle.local_product.proofs.Bounded.{one-half-more, reaches-all, reaches-one}
use Rattle.local_product.proofs.bound.weight_bound.Goals as goal

pub loop-h-init : goal.loop-h-init
loop-h-init c = record {
  order = c.start-bound.ensures.order ∙ c.reach_of.ensures.order;
  reached = reaches-all c.args.order c.start-bound.result.order c.reach_of.result.most c.start-bound.result.reach (halves_of c.args.halves.now) (c.start-bound.ensures.order ∙ c.reach_of.ensures.order) c.start-bound.ensures.reach c.reach_of.ensures.reach;
  images = c.start-bound.ensures.images;
}

pub loop-h-preserved : goal.loop-h-preserved
loop-h-preserved c =
    let o = c.loop-h.invariant.order in
    let h = c.h-item.result in
    let t = Every-place (HalfHasTables c.args.order) c.args.halves.now c.loop-h.h-index h (omega arith) c.h-item.is c.requires.tables in
    let r = reaches-one c.args.order c.loop-h.bound.reach c.args.halves.now c.loop-h.h-index h (omega arith) c.h-item.is c.loop-h.invariant.reached in
    record {
      order = c.cross.ensures.order ∙ o;
      reached = subst (λ (reach : List ℕ). ReachesHalves c.args.order reach (halves_of c.args.halves.now)) (sym c.cross.ensures.reach) c.loop-h.invariant.reached;
      images =
          subst (λ (hs : List Half). BoundsImages c.cross.new.self hs) (sym (one-half-more c.args.order c.args.halves.now c.loop-h.h-index h (omega arith) c.h-item.is))
          (c.cross.ensures.images _ (half_of h)
          (subst (λ (n : ℕ). IsMassTable n (direction_of h.wall.now.dir) h.wall.now.function.terms h.masses.now) (sym o) t.1)
          (subst (λ (n : ℕ). IsReached n c.loop-h.bound.reach h.wall.now.function.terms) (sym o) r)
          c.loop-h.invariant.images);
    }

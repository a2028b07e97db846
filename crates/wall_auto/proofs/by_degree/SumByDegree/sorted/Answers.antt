use Rattle.std.proofs.Common.{◌∙◌, sym, subst, take, arith, List}
use Rattle.scattering.specs.Series.{Sum}
use Rattle.trunc_series.specs.Shown.{sum_of}
use Rattle.trunc_series.proofs.SortedLists.{sorted-keepable}
use Rattle.wall_auto.specs.ByDegree.{IsSortedWhole}
use Rattle.wall_auto.proofs.Parts.{one-more-sorted, all-sorted, sorted-whole}
use Rattle.wall_auto.proofs.by_degree.SumByDegree.sorted.Goals as goal

pub merged-requires-clause-left : goal.merged-requires-clause-left
merged-requires-clause-left c = rw c.as_slice.ensures.value (sorted-whole c.args.rule (take c.loop-part.part-index c.deref-part-items.result.now) (sum_of c.loop-part.out.items) c.loop-part.invariant)

pub merged-requires-clause-right : goal.merged-requires-clause-right
merged-requires-clause-right c = rw c.as_slice-in-loop-part.ensures.value (sorted-keepable c.args.rule (sum_of c.in_ok-some.some.items) c.part-item.result c.in_ok-some.ensures)

pub loop-part-preserved : goal.loop-part-preserved
loop-part-preserved c =
    one-more-sorted c.args.rule c.deref-part-items.result.now c.loop-part.part-index c.part-item.result c.loop-part.out.items c.in_ok-some.some.items c.in_ok-out.out.items (omega arith) (sym c.part-item.is) c.loop-part.invariant c.in_ok-some.ensures
    (rw (c.as_slice.ensures.value, c.as_slice-in-loop-part.ensures.value) at c.in_ok-out.ensures)

pub returns : goal.returns
returns c =
    subst (λ (ps : List Sum). IsSortedWhole c.args.rule ps (sum_of c.loop-part.out.items)) (c.deref-part-items.ensures.value ∙ c.self.view_is)
    (all-sorted c.args.rule c.deref-part-items.result.now c.loop-part.part-index (sum_of c.loop-part.out.items) (omega arith) c.loop-part.invariant)

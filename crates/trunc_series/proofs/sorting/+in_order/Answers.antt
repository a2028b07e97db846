use Rattle.std.proofs.Common.{arith, length, ◌/◌}
use Rattle.std.proofs.lemmas.Result.{IfOk-weaker}
use Rattle.trunc_series.proofs.Terms.{alone}
use Rattle.trunc_series.proofs.SortedLists.{lone-sorted, halves-sorted, half-values, sorted-keepable}
use Rattle.trunc_series.proofs.sorting.+in_order.Goals as goal

pub in_order-requires : goal.in_order-requires
in_order-requires t c = (omega (arith, c.split_at.ensures.front_len), rw c.split_at.ensures.front (half-values c.args.rule c.args.terms.now (length c.args.terms.now / 2) c.requires).0)

pub in_order-requires-in_default : goal.in_order-requires-in_default
in_order-requires-in_default t c = (omega (arith, c.split_at.ensures.back_len), rw c.split_at.ensures.back (half-values c.args.rule c.args.terms.now (length c.args.terms.now / 2) c.requires).1)

pub merged-requires-clause-left : goal.merged-requires-clause-left
merged-requires-clause-left t c = rw c.as_slice.ensures.value (sorted-keepable c.args.rule _ _ c.in_ok-left-in_default.ensures)

pub merged-requires-clause-right : goal.merged-requires-clause-right
merged-requires-clause-right t c = rw c.as_slice-in_default.ensures.value (sorted-keepable c.args.rule _ _ c.in_ok-right-in_default.ensures)

pub returns-in-len1 : goal.returns-in-len1
returns-in-len1 t c = IfOk-weaker c.single.result _ _ (λ r h. lone-sorted c.args.rule c.args.terms.now r.items (alone c.args.terms.now c.in-len1.len_at_least c.in-len1.len_below) h c.requires) c.single.ensures

pub returns-in_ok-right-in_default : goal.returns-in_ok-right-in_default
returns-in_ok-right-in_default t c =
    IfOk-weaker c.merged.result _ _ (λ r h. halves-sorted c.args.rule c.args.terms.now (length c.args.terms.now / 2) _ _ r.items
    (rw (c.as_slice.ensures.value, ← c.split_at.ensures.front) c.in_ok-left-in_default.ensures) (rw (c.as_slice-in_default.ensures.value, ← c.split_at.ensures.back) c.in_ok-right-in_default.ensures) h) c.merged.ensures

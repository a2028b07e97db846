use Rattle.std.proofs.Common.{◌∙◌}
use Rattle.trunc_series.specs.Shown.{term_of, sum_of}
use Rattle.trunc_series.specs.Arithmetic.{IsKeepable}
use Rattle.trunc_series.proofs.Fronts.{some-first, first-of, first-has, second-has, first-map, second-map, map-first, rests-shorter}
use Rattle.trunc_series.proofs.Merging.{merge-reduced}
use Rattle.trunc_series.proofs.Terms.{merge-step, merge-ended}
use Rattle.trunc_series.proofs.merge.merged.Goals as goal

pub push_first-requires-clause-x : goal.push_first-requires-clause-x
push_first-requires-clause-x c = first-of (λ t. IsKeepable c.args.rule t.1) _ _ (map-first term_of c.in-Some.x.now c.loop-x.rests.first.now c.in-Some.ensures.first) c.loop-x.invariant.left

pub push_first-requires-clause-y : goal.push_first-requires-clause-y
push_first-requires-clause-y c = first-of (λ t. IsKeepable c.args.rule t.1) _ _ (map-first term_of c.in-Some.y.now c.loop-x.rests.second.now c.in-Some.ensures.second) c.loop-x.invariant.right

pub advance-requires-clause-first : goal.advance-requires-clause-first
advance-requires-clause-first c = some-first c.in-Some.x.now c.loop-x.rests.first.now c.in-Some.ensures.first

pub advance-requires-clause-second : goal.advance-requires-clause-second
advance-requires-clause-second c = some-first c.in-Some.y.now c.loop-x.rests.second.now c.in-Some.ensures.second

pub loop-x-preserved : goal.loop-x-preserved
loop-x-preserved c =
    record {
      done = rw (c.in_ok-order.ensures.pushed, c.advance.ensures.first, c.advance.ensures.second)
          (merge-step c.args.rule c.loop-x.out.items c.loop-x.rests.first.now c.loop-x.rests.second.now c.in-Some.x.now c.in-Some.y.now c.in_ok-order.order c.in-Some.ensures.first c.in-Some.ensures.second c.in_ok-order.ensures.order ∙ c.loop-x.invariant.done);
      left = rw (c.advance.ensures.first, first-map term_of c.in_ok-order.order c.loop-x.rests.first.now) (first-has (λ t. IsKeepable c.args.rule t.1) c.in_ok-order.order (sum_of c.loop-x.rests.first.now) c.loop-x.invariant.left);
      right = rw (c.advance.ensures.second, second-map term_of c.in_ok-order.order c.loop-x.rests.second.now) (second-has (λ t. IsKeepable c.args.rule t.1) c.in_ok-order.order (sum_of c.loop-x.rests.second.now) c.loop-x.invariant.right);
    }

pub loop-x-smaller : goal.loop-x-smaller
loop-x-smaller c = rw (c.advance.ensures.first, c.advance.ensures.second) (rests-shorter c.in_ok-order.order c.in-Some.x.now c.in-Some.y.now c.loop-x.rests.first.now c.loop-x.rests.second.now c.in-Some.ensures.first c.in-Some.ensures.second)

pub returns : goal.returns
returns c n f g p q =
    rw (c.in_ok-extend_from_slice-2.ensures.items, c.in_ok-extend_from_slice.ensures.items)
    (rw (merge-ended c.args.rule c.loop-x.out.items c.loop-x.rests.first.now c.loop-x.rests.second.now (c.fronts.ensures.ended c.in_default.is) ∙ c.loop-x.invariant.done)
    (merge-reduced c.args.rule n (sum_of c.args.a.now) (sum_of c.args.b.now) f g p q))

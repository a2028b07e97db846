use Rattle.std.proofs.Common.{arith, [], subst}
use Rattle.trunc_series.specs.Reduced.{IsNearKey}
use Rattle.vertex_lie.specs.Shown.{lie_of}
use Rattle.vertex_lie.specs.RationalBracket.{RowProductsFit, products}
use Rattle.vertex_lie.proofs.PairProducts.{every-at, every-next, rows-next, under_way-begins, under_way-ends, lie-ended, IsUnderWay}
use Rattle.vertex_lie.proofs.Faults.{passed}
use Rattle.vertex_lie.proofs.bracket.multiplied.Goals as goal

pub loop-t-init : goal.loop-t-init
loop-t-init c = record { products = rw c.new-out.ensures.items (under_way-begins [] (products c.args.order (lie_of c.args.a.now) (lie_of c.args.b.now))); fits = λ f. f }

pub push_row-requires-clause-left : goal.push_row-requires-clause-left
push_row-requires-clause-left c = rw c.t-item.is (every-at (λ u. IsNearKey u.0) _ c.args.a.now c.loop-t.t-index (omega arith) c.requires.left)

pub returns-in_err-push_row-clause-range : goal.returns-in_err-push_row-clause-range
returns-in_err-push_row-clause-range c =
    passed c.from_residual.result _ _ _ _ c.from_residual.ensures.1
    (λ f. rw c.t-item.is (every-at (λ t. RowProductsFit c.args.order t (lie_of c.args.b.now)) _ c.args.a.now c.loop-t.t-index (omega arith) f)) c.in_err-push_row.ensures.range

pub loop-t-preserved : goal.loop-t-preserved
loop-t-preserved c = record {
  products = rows-next c.args.order (lie_of c.args.b.now) [] c.loop-t.out.items c.push_row.new.out.items c.args.a.now c.loop-t.t-index _ (omega arith) (rw c.t-item.is at c.in_ok-push_row.ensures.products) c.loop-t.invariant.products;
  fits = every-next (λ t. RowProductsFit c.args.order t (lie_of c.args.b.now)) _ c.args.a.now c.loop-t.t-index (omega arith) (rw c.t-item.is at c.in_ok-push_row.ensures.range) c.loop-t.invariant.fits;
}

pub returns-clause-products : goal.returns-clause-products
returns-clause-products c =
    under_way-ends [] (lie_of c.loop-t.out.items) (products c.args.order (lie_of c.args.a.now) (lie_of c.args.b.now))
    (subst (λ h. IsUnderWay [] (lie_of c.loop-t.out.items) (products c.args.order h (lie_of c.args.b.now)) (products c.args.order (lie_of c.args.a.now) (lie_of c.args.b.now))) (lie-ended c.args.a.now c.loop-t.t-index (omega arith)) c.loop-t.invariant.products) [] tt

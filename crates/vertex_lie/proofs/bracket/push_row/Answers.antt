use Rattle.std.proofs.Common.{arith}
use Rattle.trunc_series.specs.Reduced.{IsNearKey}
use Rattle.vertex_lie.specs.Shown.{coefficient_of, lie_of}
use Rattle.vertex_lie.specs.RationalBracket.{PairFits}
use Rattle.vertex_lie.proofs.PairProducts.{every-at, every-next, row-next}
use Rattle.vertex_lie.proofs.Faults.{passed}
use Rattle.vertex_lie.proofs.bracket.push_row.Goals as goal

pub push_product-requires-clause-right : goal.push_product-requires-clause-right
push_product-requires-clause-right c = rw c.u-item.is (every-at (λ u. IsNearKey u.0) _ c.args.b.now c.loop-u.u-index (omega arith) c.requires.right)

pub returns-in_err-push_product-clause-range : goal.returns-in_err-push_product-clause-range
returns-in_err-push_product-clause-range c =
    passed c.from_residual.result _ _ _ _ c.from_residual.ensures.1
    (λ f. rw c.u-item.is (every-at (PairFits c.args.order (coefficient_of c.args.t.now)) _ c.args.b.now c.loop-u.u-index (omega arith) f)) c.in_err-push_product.ensures.range

pub loop-u-preserved : goal.loop-u-preserved
loop-u-preserved c = record {
  products = row-next c.args.order (coefficient_of c.args.t.now) (lie_of c.args.out.now.items) c.loop-u.out.items c.push_product.new.out.items c.args.b.now c.loop-u.u-index _ (omega arith) (rw c.u-item.is at c.in_ok-push_product.ensures.products) c.loop-u.invariant.products;
  fits = every-next (PairFits c.args.order (coefficient_of c.args.t.now)) _ c.args.b.now c.loop-u.u-index (omega arith) (rw c.u-item.is at c.in_ok-push_product.ensures.range) c.loop-u.invariant.fits;
}

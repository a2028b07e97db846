use Rattle.std.proofs.Common.{drop, []}
use Rattle.scattering.specs.Collections.{Every}
use Rattle.vertex_lie.specs.Shown.{lie_of}
use Rattle.vertex_lie.specs.RationalBracket.{products, RowProductsFit}
use Rattle.vertex_lie.proofs.PairProducts.{IsUnderWay}
use Rattle.vertex_lie.proofs.bracket.multiplied.Given as goal

abbrev pub invariant-loop-t : goal.invariant-loop-t
invariant-loop-t l = record {
  products : IsUnderWay [] (lie_of l.out.items) (products l.order (lie_of (drop l.t-index l.a)) (lie_of l.b)) (products l.order (lie_of l.a) (lie_of l.b));
  fits : Every (λ t. RowProductsFit l.order t (lie_of l.b)) (lie_of (drop l.t-index l.a)) → Every (λ t. RowProductsFit l.order t (lie_of l.b)) (lie_of l.a);
}

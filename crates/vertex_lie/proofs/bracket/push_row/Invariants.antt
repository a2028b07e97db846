use Rattle.std.proofs.Common.{drop}
use Rattle.vertex_lie.specs.Shown.{coefficient_of, lie_of}
use Rattle.vertex_lie.specs.RationalBracket.{row, RowProductsFit}
use Rattle.vertex_lie.proofs.PairProducts.{IsUnderWay}
use Rattle.vertex_lie.proofs.bracket.push_row.Given as goal

abbrev pub invariant-loop-u : goal.invariant-loop-u
invariant-loop-u l = record {
  products : IsUnderWay (lie_of l.initial.out.items) (lie_of l.out.items) (row l.order (coefficient_of l.t) (lie_of (drop l.u-index l.b))) (row l.order (coefficient_of l.t) (lie_of l.b));
  fits : RowProductsFit l.order (coefficient_of l.t) (lie_of (drop l.u-index l.b)) → RowProductsFit l.order (coefficient_of l.t) (lie_of l.b);
}

use Rattle.std.proofs.Common.{◌≡◌, drop, ◌++◌}
use Rattle.trunc_series.specs.Shown.{sum_of}
use Rattle.vertex_lie.specs.Leading.{read_from}
use Rattle.vertex_lie.proofs.leading_part.read.Given as goal

abbrev pub invariant-loop-t : goal.invariant-loop-t
invariant-loop-t l = sum_of l.out.items ++ read_from l.degree l.reading (sum_of (drop l.t-index l.terms)) ≡ read_from l.degree l.reading (sum_of l.terms)

use Rattle.std.proofs.Common.{take}
use Rattle.trunc_series.specs.Shown.{sum_of}
use Rattle.vertex_lie.specs.Shown.{lie_of}
use Rattle.ray_merge.specs.Additions.{AreAdded}
use Rattle.ray_merge.proofs.additions.added_terms.Given as goal

abbrev pub invariant-loop-t : goal.invariant-loop-t
invariant-loop-t l = AreAdded (lie_of (take l.t-index l.terms)) (sum_of l.out.items)

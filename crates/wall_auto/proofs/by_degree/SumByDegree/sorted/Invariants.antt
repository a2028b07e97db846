use Rattle.std.proofs.Common.{take}
use Rattle.trunc_series.specs.Shown.{sum_of}
use Rattle.wall_auto.proofs.Parts.{IsSortedOf}
use Rattle.wall_auto.proofs.by_degree.SumByDegree.sorted.Given as goal

abbrev pub invariant-loop-part : goal.invariant-loop-part
invariant-loop-part l = IsSortedOf l.rule (take l.part-index l.part-items) (sum_of l.out.items)

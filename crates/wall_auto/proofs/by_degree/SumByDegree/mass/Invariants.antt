use Rattle.std.proofs.Common.{◌≡◌, ◌≤◌, ◌+◌, ◌^◌, drop, min}
use Rattle.wall_auto.specs.Gains.{sizes}
use Rattle.wall_auto.proofs.by_degree.SumByDegree.mass.Given as goal

abbrev pub invariant-loop-part : goal.invariant-loop-part
invariant-loop-part l = record {
  kept : l.mass ≤ 2 ^ 126 + 1;
  sum : min (l.mass + sizes (drop l.part-index l.part-items)) (2 ^ 126 + 1) ≡ min (sizes l.part-items) (2 ^ 126 + 1);
}

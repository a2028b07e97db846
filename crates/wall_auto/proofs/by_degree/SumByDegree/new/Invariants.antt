use Rattle.std.proofs.Common.{◌≡◌, replicate, []}
use Rattle.wall_auto.proofs.by_degree.SumByDegree.new.Given as goal

abbrev pub invariant-loop : goal.invariant-loop
invariant-loop l = l.parts.items ≡ replicate l.counter []

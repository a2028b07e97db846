use Rattle.ray_merge.specs.Additions.{corrections_of}
use Rattle.order_tests.proofs.WorkedRows.{IsRow}
use Rattle.order_tests.proofs.merges.corrections.Given as goal

abbrev pub invariant-loop-x : goal.invariant-loop-x
invariant-loop-x l = IsRow l.order l.x (corrections_of l.out.items)

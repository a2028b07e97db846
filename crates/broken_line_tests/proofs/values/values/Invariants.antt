use Rattle.std.proofs.Common.{◌≡◌}
use Rattle.broken_line_tests.proofs.values.values.Given as goal

abbrev pub invariant-loop-b : goal.invariant-loop-b
invariant-loop-b l = l.finder ≡ l.initial.finder

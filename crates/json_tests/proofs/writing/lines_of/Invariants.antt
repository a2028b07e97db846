-- The lines so far.
use Rattle.std.proofs.Common.{◌≡◌, take}
use Rattle.json_tests.proofs.writing.lines_of.Given as goal

abbrev pub invariant-loop-line : goal.invariant-loop-line
invariant-loop-line l = l.out.items ≡ take l.line-index l.lines

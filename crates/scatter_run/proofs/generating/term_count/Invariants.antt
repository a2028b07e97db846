-- The rays so far, of which each has terms for a number of 64 bits.
use Rattle.std.proofs.Common.{◌≡◌, ◌≤◌, ◌*◌, ◌^◌, take}
use Rattle.scatter_run.specs.Generated.{term_count}
use Rattle.scatter_run.proofs.generating.term_count.Given as goal

abbrev pub invariant-loop-i : goal.invariant-loop-i
invariant-loop-i l = (l.count ≡ term_count (take l.i l.e.diagram.rays)) × (l.count ≤ l.i * 2 ^ 64)

-- The lines so far, and the state after their draws.
use Rattle.std.proofs.Common.{◌≡◌, ◌*◌, take}
use Rattle.scatter_run.specs.Generated.{state, generated_lines}
use Rattle.scatter_run.proofs.generator.generated_file.Given as goal

abbrev pub invariant-loop-variable : goal.invariant-loop-variable
invariant-loop-variable l = (l.lines.items ≡ take l.variable (generated_lines l.fn.number)) × (l.draws.state ≡ state l.fn.number (3 * l.variable))

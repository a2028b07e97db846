-- What was taken so far stands before the rest of the text.
use Rattle.std.proofs.Common.{◌≤◌, length}
use Rattle.scatter_run.specs.Writing.{IsWrittenSoFar}
use Rattle.scatter_run.proofs.writing.write_text.Given as goal

abbrev pub invariant-loop-rest : goal.invariant-loop-rest
invariant-loop-rest g l = IsWrittenSoFar (g.K.Sink.held l.initial.sink) (g.K.Sink.held l.sink) l.text l.rest × (g.K.Sink.faults l.initial.sink ≤ g.K.Sink.faults l.sink)

abbrev pub decreases-loop-rest : goal.decreases-loop-rest
decreases-loop-rest g l = length l.rest

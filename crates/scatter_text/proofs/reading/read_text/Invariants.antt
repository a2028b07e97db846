use Rattle.std.proofs.Common.{length}
use Rattle.scatter_text.specs.Stages.{rows_of}
use Rattle.scatter_text.proofs.Texts.{IsReadTo}
use Rattle.scatter_text.proofs.reading.read_text.Given as goal

abbrev pub invariant-loop-end : goal.invariant-loop-end
invariant-loop-end l = IsReadTo l.mode l.fn.bytes l.rest (rows_of l.stage) l.number

abbrev pub decreases-loop-end : goal.decreases-loop-end
decreases-loop-end l = length l.rest

-- What was read so far stands before what is left.
use Rattle.std.proofs.Common.{◌≡◌, ◌-◌, ◌+◌, vec_len}
use Rattle.limits.specs.Limits.{most_bytes}
use Rattle.scatter_run.specs.Reading.{IsReadSoFar}
use Rattle.scatter_run.proofs.reading.read_input.Given as goal

abbrev pub invariant-loop-piece : goal.invariant-loop-piece
invariant-loop-piece g l = IsReadSoFar (g.S.Source.left l.initial.source) (g.S.Source.left l.source) l.bytes.items
    × (g.S.Source.faults l.source ≡ g.S.Source.faults l.initial.source)

abbrev pub decreases-loop-piece : goal.decreases-loop-piece
decreases-loop-piece g l = most_bytes + 1 - vec_len l.bytes

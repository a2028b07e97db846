use Rattle.std.proofs.Common.{◌≡◌, take}
use Rattle.broken_lines.specs.Traced.{seen_tails}
use Rattle.broken_lines.proofs.tail.Traced.copy.Given as goal

abbrev pub invariant-loop-t : goal.invariant-loop-t
invariant-loop-t l = seen_tails l.tails.items ≡ seen_tails (take l.t-index l.self.tails.items)

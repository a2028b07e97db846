use Rattle.std.proofs.Common.{◌≡◌, map, Ok}
use Rattle.ask_workers.proofs.workers.all_kept.Given as goal

abbrev pub invariant-loop-one : goal.invariant-loop-one
invariant-loop-one l = map Ok l.kept.items ≡ l.yielded

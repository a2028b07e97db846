use Rattle.std.proofs.Common.{◌≡◌, take}
use Rattle.scatter_diagram.proofs.lists.copied.Given as goal

abbrev pub invariant-loop-w : goal.invariant-loop-w
invariant-loop-w l = l.out.items ≡ take l.w-index l.walls

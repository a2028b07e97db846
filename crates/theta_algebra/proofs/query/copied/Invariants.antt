use Rattle.std.proofs.Common.{◌≡◌, take}
use Rattle.theta_algebra.proofs.query.copied.Given as goal

abbrev pub invariant-loop-p : goal.invariant-loop-p
invariant-loop-p l = l.copy.items ≡ take l.p-index l.family

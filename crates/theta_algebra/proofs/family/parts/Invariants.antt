use Rattle.std.proofs.Common.{◌≤◌, ◌-◌, length}
use Rattle.theta_algebra.proofs.FamilyParts.{ArePartsTo}
use Rattle.theta_algebra.proofs.family.parts.Given as goal

abbrev pub invariant-loop-start : goal.invariant-loop-start
invariant-loop-start l = ArePartsTo l.limit l.family l.start l.out.items × (l.start ≤ length l.family)

abbrev pub decreases-loop-start : goal.decreases-loop-start
decreases-loop-start l = length l.family - l.start

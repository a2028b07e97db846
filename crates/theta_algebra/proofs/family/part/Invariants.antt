use Rattle.std.proofs.Common.{◌≡◌, take}
use Rattle.trunc_series.specs.Shown.{sum_of}
use Rattle.theta_algebra.specs.Parts.{without_exp}
use Rattle.theta_algebra.proofs.family.part.Given as goal

abbrev pub invariant-loop-t : goal.invariant-loop-t
invariant-loop-t l = sum_of l.own.items ≡ without_exp (sum_of (take l.t-index l.terms))

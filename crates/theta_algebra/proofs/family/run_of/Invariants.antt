use Rattle.std.proofs.Common.{◌≡◌, take}
use Rattle.scattering.specs.Collections.{Every}
use Rattle.trunc_series.specs.Shown.{exp_of, sum_of}
use Rattle.theta_algebra.proofs.family.run_of.Given as goal

abbrev pub invariant-loop-t : goal.invariant-loop-t
invariant-loop-t l = (l.count ≡ l.t-index) × Every (λ t. t.0.exp ≡ exp_of l.r) (sum_of (take l.t-index l.terms))

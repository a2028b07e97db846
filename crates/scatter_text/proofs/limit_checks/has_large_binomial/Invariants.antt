use Rattle.std.proofs.Common.{◌≡◌, ◌+◌, ◌≤◌}
use Rattle.limits.specs.Limits.{most_monomials}
use Rattle.scatter_text.specs.Limits.{binomial}
use Rattle.scatter_text.proofs.limit_checks.has_large_binomial.Given as goal

abbrev pub invariant-loop-i : goal.invariant-loop-i
invariant-loop-i l = (l.count ≡ binomial (l.order + l.i) l.i) × (l.count ≤ most_monomials)

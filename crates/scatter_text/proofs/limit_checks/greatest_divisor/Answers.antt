use Rattle.std.proofs.Common.{arith}
use Rattle.std.proofs.lemmas.Nat.Gcd.{same_from_IsGcd}
use Rattle.scatter_text.proofs.Divisors.{gcd-is, gcd-positive}
use Rattle.scatter_text.proofs.limit_checks.greatest_divisor.Goals as goal

pub returns-clause-value : goal.returns-clause-value
returns-clause-value c = same_from_IsGcd _ _ _ _ c.gcd.ensures (gcd-is c.args.a c.args.b)

pub returns-clause-positive : goal.returns-clause-positive
returns-clause-positive c = omega (arith, same_from_IsGcd _ _ _ _ c.gcd.ensures (gcd-is c.args.a c.args.b), gcd-positive c.args.a c.args.b c.requires)

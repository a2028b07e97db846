use Rattle.std.proofs.Common.{arith, ◌+◌, ◌*◌, ◌/◌, ap, ◌∙◌}
use Rattle.limits.specs.Limits.{most_monomials}
use Rattle.scatter_text.proofs.Binomials.{binomial-next, binomial-step-lt, binomial-large}
use Rattle.scatter_text.proofs.limit_checks.has_large_binomial.Goals as goal

pub overflow_mul-count : goal.overflow_mul-count
overflow_mul-count c =
    omega (arith, binomial-step-lt c.args.order c.loop-i.i c.loop-i.count c.requires.order (omega arith) c.loop-i.invariant.1)

pub loop-i-preserved : goal.loop-i-preserved
loop-i-preserved c =
    let test = c.if-count-gt-MOST_MONOMIALS.false in (
      ap (λ count. count * (c.args.order + c.loop-i.i + 1) / (c.loop-i.i + 1)) c.loop-i.invariant.0 ∙ binomial-next c.args.order c.loop-i.i,
      omega (arith, test),
    )

pub returns-then-count-gt-MOST_MONOMIALS : goal.returns-then-count-gt-MOST_MONOMIALS
returns-then-count-gt-MOST_MONOMIALS c =
    binomial-large c.args.order c.loop-i.i c.args.vars most_monomials _ c.loop-i-test.true
    (ap (λ count. count * (c.args.order + c.loop-i.i + 1) / (c.loop-i.i + 1)) c.loop-i.invariant.0 ∙ binomial-next c.args.order c.loop-i.i)
    c.if-count-gt-MOST_MONOMIALS.true

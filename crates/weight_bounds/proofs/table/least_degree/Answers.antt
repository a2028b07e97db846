use Rattle.std.proofs.Common.{◌≤◌, arith}
use Rattle.scattering.specs.Series.{degree}
use Rattle.weight_bounds.proofs.Terms.{rest-each}
use Rattle.weight_bounds.proofs.table.least_degree.Goals as goal

pub returns-clause-least : goal.returns-clause-least
returns-clause-least c = rest-each (λ x. c.loop-t.least ≤ degree x) c.args.terms.now (λ j d l p. c.loop-t.invariant.least j d (omega (arith, l)) p) c.requires.others

use Rattle.scattering.proofs.Lists.{Every-at}
use Rattle.trunc_series.specs.Shown.{sum_of}
use Rattle.ray_merge.specs.Additions.{IsRayTerm}
use Rattle.ray_merge.proofs.Sorting.{term-in, tame-to}
use Rattle.ray_merge.proofs.ray_term.with_directions.Goals as goal

pub primitive-requires-clause-exponent : goal.primitive-requires-clause-exponent
primitive-requires-clause-exponent c = (Every-at (IsRayTerm c.args.order) (sum_of c.args.terms.now) _ c.requires.each (term-in c.args.terms.now c.loop-t.t-index _ c.loop-t-test.true)).exponent

pub primitive-requires-clause-tame : goal.primitive-requires-clause-tame
primitive-requires-clause-tame c = tame-to c.args.order _ c.requires.order (Every-at (IsRayTerm c.args.order) (sum_of c.args.terms.now) _ c.requires.each (term-in c.args.terms.now c.loop-t.t-index _ c.loop-t-test.true))

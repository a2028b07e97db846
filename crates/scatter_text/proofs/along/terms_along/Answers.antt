-- One term more, unless it is the constant.
use Rattle.scattering.specs.Series.{IsMultiple}
use Rattle.plane_geom.specs.Shown.{vector_of}
use Rattle.scatter_text.proofs.AlongDirection.{rest-at, along-more}
use Rattle.scatter_text.proofs.along.terms_along.Goals as goal

pub push_along-requires : goal.push_along-requires
push_along-requires c = rest-at (λ t. IsMultiple (vector_of c.args.dir.now) t.0.exp) c.args.terms.now c.loop-term.term-index _ c.loop-term-test.true c.requires

pub loop-term-preserved : goal.loop-term-preserved
loop-term-preserved c =
    along-more (vector_of c.args.dir.now) c.loop-term.out.items c.push_along.new.out.items c.args.terms.now c.loop-term.term-index _ c.loop-term-test.true c.loop-term.invariant c.in_ok-push_along.ensures

use Rattle.std.proofs.Common.{◌∙◌}
use Rattle.trunc_series.specs.Shown.{term_of}
use Rattle.trunc_series.proofs.Terms.{at, Every-at}
use Rattle.bend_finder.specs.Bends.{IsCapped}
use Rattle.bend_finder.proofs.TermMasses.{grown-kept, grown-more}
use Rattle.bend_finder.proofs.masses.mass.Goals as goal

pub grown-mass-requires-clause-term : goal.grown-mass-requires-clause-term
grown-mass-requires-clause-term c = Every-at (λ t. IsCapped t.1) c.args.terms.now c.loop-t.t-index c.loop-t-test.true c.requires

pub loop-t-preserved : goal.loop-t-preserved
loop-t-preserved c = record {
  kept = rw c.grown-mass.ensures (grown-kept c.args.degree c.loop-t.mass (term_of (at c.args.terms.now c.loop-t.t-index)) c.loop-t.invariant.kept);
  sum = rw c.grown-mass.ensures (grown-more c.args.degree c.loop-t.mass c.args.terms.now c.loop-t.t-index c.loop-t-test.true ∙ c.loop-t.invariant.sum);
}

use Rattle.std.proofs.Common.{arith, ◌∙◌}
use Rattle.std.specs.Prelude.{pos, ◌≤ℤ◌}
use Rattle.trunc_series.specs.declared.arithmetic.Arithmetic.TheVariants.{Saturating}
use Rattle.trunc_series.specs.Shown.{sum_of}
use Rattle.trunc_series.proofs.Terms.{Every-at}
use Rattle.trunc_series.proofs.TermLists.{keepable-values}
use Rattle.wall_auto.proofs.Parts.{size-step}
use Rattle.wall_auto.proofs.by_degree.mass_with.Goals as goal

pub added-mass-requires : goal.added-mass-requires
added-mass-requires c = Every-at (λ t. pos 0 ≤ℤ t.1) c.args.terms.now c.loop-t.t-index (omega arith) (keepable-values Saturating (sum_of c.args.terms.now) c.requires.terms)

pub loop-t-preserved : goal.loop-t-preserved
loop-t-preserved c = record {
  kept = omega arith;
  sum = rw c.added-mass.ensures (size-step c.loop-t.mass c.args.terms.now c.loop-t.t-index (omega arith) ∙ c.loop-t.invariant.sum);
}

use Rattle.std.proofs.Common.{refl}
use Rattle.trunc_series.specs.Shown.{sum_of}
use Rattle.trunc_series.proofs.Exact.{Made, made-terms, made-rising}
use Rattle.trunc_series.proofs.series.Series.from_terms.Goals as goal
use Rattle.trunc_series.proofs.series.Series.from_terms.Goals.{Joined-rises}
use Rattle.trunc_series.proofs.series.Series.from_terms.Goals.{then-rises+in_ok-terms, else-rises+in_ok-terms-2}

made : (c : Joined-rises) → Made c.args.order (sum_of c.if-rises.terms.items) (sum_of c.args.terms.now)
made c = elim c.if-rises.branch [
  | then-rises+in_ok-terms w ↦ rw (w.terms-is, w.in_ok-terms.ensures.items) (made-rising c.args.order (sum_of c.args.terms.now) c.requires.order (c.rises.ensures w.if-rises.true) c.requires.each)
  | else-rises+in_ok-terms-2 w ↦ rw w.terms-is (made-terms c.args.order _ (sum_of c.args.terms.now) c.requires.order c.requires.distinct c.requires.each w.in_ok-terms-2.ensures)
]

pub invariant_of-result : goal.invariant_of-result
invariant_of-result c = (made c).0

pub returns : goal.returns
returns c = record { order = refl; series = (made c).0.series; same = (made c).1 }

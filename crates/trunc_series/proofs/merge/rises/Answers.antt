use Rattle.std.proofs.Common.{arith, ◌∙◌, sym}
use Rattle.trunc_series.proofs.Terms.{index-less, adjacent-more, rises-adjacent}
use Rattle.trunc_series.proofs.merge.rises.Goals as goal

pub loop-i-preserved : goal.loop-i-preserved
loop-i-preserved c = adjacent-more c.args.terms.now c.loop-i.i c.loop-i.auto.i c.loop-i.invariant (sym c.compare.ensures ∙ index-less c.compare.result (sym c.ne.ensures ∙ c.if-ne.false))

pub returns : goal.returns
returns c = λ _. rises-adjacent c.args.terms.now (λ k h. c.loop-i.invariant k (omega arith))

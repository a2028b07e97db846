use Rattle.trunc_series.specs.Shown.{sum_of}
use Rattle.trunc_series.proofs.LowRows.{rows-factor, rows-terms}
use Rattle.trunc_series.proofs.low_rows.LowRows.new.Goals as goal

pub invariant_of-result : goal.invariant_of-result
invariant_of-result c = rows-factor c.args.order (sum_of c.args.terms.now) c.in_ok-rows.rows.items c.requires c.in_ok-rows.ensures.each c.in_ok-rows.ensures.count

pub returns-clause-terms : goal.returns-clause-terms
returns-clause-terms c = rows-terms c.args.order (sum_of c.args.terms.now) c.in_ok-rows.rows.items c.in_ok-rows.ensures.each c.in_ok-rows.ensures.count

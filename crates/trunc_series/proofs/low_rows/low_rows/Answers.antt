use Rattle.std.proofs.Common.{List, [], ◌∷◌, length, length-append, sym, subst, ap, ◌∙◌, arith}
use Rattle.trunc_series.specs.Shown.{sum_of}
use Rattle.trunc_series.specs.declared.low_rows.Row.{Row}
use Rattle.trunc_series.specs.LowRows.{AreLowRows}
use Rattle.trunc_series.proofs.LowRows.{rows-push}
use Rattle.trunc_series.proofs.low_rows.low_rows.Goals as goal

pub loop-degree-preserved : goal.loop-degree-preserved
loop-degree-preserved c = record {
  each =
      subst (λ (rows : List Row). AreLowRows (sum_of c.args.terms.now) 0 rows) (sym c.in_ok-push.ensures.items)
      (rows-push (sum_of c.args.terms.now) 0 c.loop-degree.degree c.loop-degree.rows.items c.in_ok-low_row.field-0 c.loop-degree.invariant.each (let i = c.loop-degree.invariant.count in omega (arith, i)) c.in_ok-low_row.ensures);
  count = (let e = ap length c.in_ok-push.ensures.items ∙ length-append c.loop-degree.rows.items (c.in_ok-low_row.field-0 ∷ []) in let i = c.loop-degree.invariant.count in omega (arith, e, i));
}

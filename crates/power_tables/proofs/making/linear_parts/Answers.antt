use Rattle.std.proofs.Common.{List, length, sym, subst, ap, ◌∙◌, arith}
use Rattle.scattering.specs.ThetaProduct.{of_degree}
use Rattle.trunc_series.specs.Shown.{sum_of}
use Rattle.power_tables.specs.declared.table.Part.{Part}
use Rattle.power_tables.specs.Made.{AreLinearParts}
use Rattle.power_tables.proofs.ColumnLists.{length-push}
use Rattle.power_tables.proofs.LinearParts.{parts-push}
use Rattle.power_tables.proofs.making.linear_parts.Goals as goal

pub loop-degree-preserved : goal.loop-degree-preserved
loop-degree-preserved c = record {
  parts =
      subst (λ (ps : List Part). AreLinearParts (sum_of c.args.u.now) c.args.least ps) (sym c.in_ok-push.ensures.items)
      (parts-push (λ j. of_degree j (sum_of c.args.u.now)) c.args.least c.loop-degree.degree c.loop-degree.parts.items c.in_ok-linear_part.field-0 c.loop-degree.invariant.parts c.loop-degree.invariant.count c.in_ok-linear_part.ensures);
  count = (let e = ap length c.in_ok-push.ensures.items ∙ length-push c.loop-degree.parts.items c.in_ok-linear_part.field-0 in let i = c.loop-degree.invariant.count in omega (arith, e, i));
}

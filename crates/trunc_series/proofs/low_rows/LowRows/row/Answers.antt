use Rattle.std.proofs.Common.{◌≤◌, sym, subst}
use Rattle.trunc_series.specs.Shown.{Seen}
use Rattle.trunc_series.specs.declared.low_rows.Row.{Row}
use Rattle.trunc_series.specs.LowRows.{IsLowRow, all_terms}
use Rattle.trunc_series.proofs.LowRows.{row-to}
use Rattle.trunc_series.proofs.low_rows.LowRows.row.Goals as goal

pub returns : goal.returns
returns c =
    let h : c.args.degree ≤ c.self.inside.order = subst (λ (s : Seen). c.args.degree ≤ s.order) (sym c.self.view_is) c.requires in
    subst (λ (s : Seen). IsLowRow c.args.degree s.terms c.index.result.now) c.self.view_is
    (subst (λ (r : Row). IsLowRow c.args.degree (all_terms c.self.inside.rows.items) r) (sym c.index.ensures)
    (row-to c.self.inside.order c.args.degree c.self.inside.rows.items c.index.result.now c.self.invariant h))

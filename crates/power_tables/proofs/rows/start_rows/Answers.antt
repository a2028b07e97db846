use Rattle.std.proofs.Common.{rules, ℤ, List, Vec, sym, subst}
use Rattle.std.specs.Global.{Global}
use Rattle.power_tables.specs.Rows.{IsFullRow, AreBinomialRows}
use Rattle.power_tables.proofs.RowSteps.{first-whole, rows-push}
use Rattle.power_tables.proofs.rows.start_rows.Goals as goal

pub returns-clause-rows : goal.returns-clause-rows
returns-clause-rows c =
    subst (λ (rs : List (Vec ℤ Global)). AreBinomialRows c.args.family 0 rs) (sym c.in_ok-push.ensures.items)
    (rows-push c.args.family 0 0 c.args.rows.now.items c.in_ok-row.row c.requires.rows (search rules) (subst (λ (r : List ℤ). IsFullRow c.args.family 0 r) (sym c.in_ok-row.ensures) (first-whole c.args.family)))

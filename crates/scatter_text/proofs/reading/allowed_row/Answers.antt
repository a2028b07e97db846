use Rattle.std.proofs.Common.{rules, ◌≡◌, ◌∙◌, ap, Err}
use Rattle.std.proofs.lemmas.Bool.Decides.{not_from_Decides}
use Rattle.scatter_text.specs.declared.fault.TextKind.TheVariants.{Value}
use Rattle.scatter_text.specs.Stages.{rows_of}
use Rattle.scatter_text.proofs.RowTexts.{bad_value, passed_on}
use Rattle.scatter_text.proofs.reading.allowed_row.Goals as goal

pub returns-in_err-row-clause-bad : goal.returns-in_err-row-clause-bad
returns-in_err-row-clause-bad c = λ kind is.
    c.row_at.ensures.bad kind (c.in_err-row.was ∙ ap Err (passed_on c.from_residual.result _ kind c.from_residual.ensures.1 is)) (rows_of c.args.stage.now) c.place.ensures c.variables.ensures

pub returns-then-not-branch-clause-bad : goal.returns-then-not-branch-clause-bad
returns-then-not-branch-clause-bad c = λ kind is.
    let value : kind ≡ Value = cc in
    bad_value c.args.mode (rows_of c.args.stage.now) c.args.line.now c.in_ok-row.row kind
    (c.in_ok-row.ensures.ok (rows_of c.args.stage.now) c.place.ensures c.variables.ensures)
    (not_from_Decides c.in_ok-allows.field-0 c.in_ok-allows.ensures c.if-not-branch.true) value

pub returns-clause-row : goal.returns-clause-row
returns-clause-row c = c.in_ok-row.ensures.ok (rows_of c.args.stage.now) c.place.ensures c.variables.ensures

pub returns-clause-values : goal.returns-clause-values
returns-clause-values c = c.in_ok-allows.ensures.0 (search rules)

use Rattle.std.proofs.Common.{rules, FitsSigned, ◌≡◌, ◌∙◌, ap, sym, nat_abs}
use Rattle.std.specs.Int.{w64}
use Rattle.std.proofs.lemmas.Int.{to_z-of_z}
use Rattle.scatter_text.specs.Grammar.{variables_of, lines_rows}
use Rattle.scatter_text.specs.Stages.{rows_of, head_rows}
use Rattle.scatter_text.proofs.StageRows.{vars_of-line, vars_of-lines}
use Rattle.scatter_text.proofs.AskRows.{vars_of-asked}
use Rattle.scatter_text.proofs.stage.Stage.variables.Goals as goal

pub returns-in-Body : goal.returns-in-Body
returns-in-Body c =
    let fits : FitsSigned w64 c.in-Body.vars = search rules in
    let size : c.unsigned_abs-in-Body.result ≡ nat_abs c.in-Body.vars = simp to_z-of_z at c.unsigned_abs-in-Body.ensures.value in
    ap (λ s. variables_of (rows_of s)) c.in-Body.is ∙ ap nat_abs (vars_of-line _ c.in-Body.last.row ∙ vars_of-lines (head_rows c.in-Body.vars) c.in-Body.lines.items) ∙ sym size

pub returns-in-Asking : goal.returns-in-Asking
returns-in-Asking c =
    let fits : FitsSigned w64 c.in-Asking.vars = search rules in
    let size : c.unsigned_abs-in-Asking.result ≡ nat_abs c.in-Asking.vars = simp to_z-of_z at c.unsigned_abs-in-Asking.ensures.value in
    let list = c.in-Asking.asks.list in
    ap (λ s. variables_of (rows_of s)) c.in-Asking.is
    ∙ ap nat_abs (vars_of-asked (lines_rows c.in-Asking.vars c.in-Asking.lines.items) list.asks.items list.settle ∙ vars_of-lines (head_rows c.in-Asking.vars) c.in-Asking.lines.items)
    ∙ sym size

pub returns-in-Whole : goal.returns-in-Whole
returns-in-Whole c =
    let fits : FitsSigned w64 c.in-Whole.vars = search rules in
    let size : c.unsigned_abs-in-Whole.result ≡ nat_abs c.in-Whole.vars = simp to_z-of_z at c.unsigned_abs-in-Whole.ensures.value in
    let list = c.in-Whole.asks in
    ap (λ s. variables_of (rows_of s)) c.in-Whole.is
    ∙ ap nat_abs (vars_of-asked (lines_rows c.in-Whole.vars c.in-Whole.lines.items) list.asks.items list.settle ∙ vars_of-lines (head_rows c.in-Whole.vars) c.in-Whole.lines.items)
    ∙ sym size

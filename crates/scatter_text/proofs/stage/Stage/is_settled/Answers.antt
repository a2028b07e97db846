use Rattle.std.proofs.Common.{◌∙◌, ap, sym}
use Rattle.scatter_text.specs.Grammar.{is_settled}
use Rattle.scatter_text.specs.Stages.{rows_of}
use Rattle.scatter_text.proofs.AskRows.{is_settled-line, is_settled-lines, is_settled-asked}
use Rattle.scatter_text.proofs.stage.Stage.is_settled.Goals as goal

pub returns-in-Body : goal.returns-in-Body
returns-in-Body c = ap (λ s. is_settled (rows_of s)) c.in-Body.is ∙ is_settled-line _ c.in-Body.last.row ∙ is_settled-lines c.in-Body.vars c.in-Body.lines.items

pub returns-in-Asking : goal.returns-in-Asking
returns-in-Asking c =
    let list = c.in-Asking.asks.list in
    ap (λ s. is_settled (rows_of s)) c.in-Asking.is ∙ is_settled-asked c.in-Asking.vars c.in-Asking.lines.items list.asks.items list.settle ∙ sym c.is_some.ensures

pub returns-in-Whole : goal.returns-in-Whole
returns-in-Whole c =
    let list = c.in-Whole.asks in
    ap (λ s. is_settled (rows_of s)) c.in-Whole.is ∙ is_settled-asked c.in-Whole.vars c.in-Whole.lines.items list.asks.items list.settle ∙ sym c.is_some-in-Whole.ensures

use Rattle.std.proofs.Common.{rules, FitsSigned, ◌∙◌, sym, subst}
use Rattle.std.specs.Int.{w64}
use Rattle.std.proofs.lemmas.Int.{to_z-of_z}
use Rattle.scatter_text.specs.declared.grammar.Keyword.{Keyword}
use Rattle.scatter_text.specs.Grammar.{variables_of, lines_rows, HasValues}
use Rattle.scatter_text.specs.Stages.{asks_rows}
use Rattle.scatter_text.proofs.RowShapes.{end-of-asks}
use Rattle.scatter_text.proofs.AddedRows.{ask-more, settle-more, end-more}
use Rattle.scatter_text.proofs.AskRows.{is_settled-asked, unsettled}
use Rattle.scatter_text.proofs.stage.asked.Goals as goal

pub returns-in_ok-asks-in-Ask : goal.returns-in_ok-asks-in-Ask
returns-in_ok-asks-in-Ask c =
    let vars : FitsSigned w64 c.args.vars = search rules in
    let list = c.args.asks in
    let more = c.in_ok-asks-in-Ask.asks.list in
    rw to_z-of_z
    (ask-more (variables_of (asks_rows c.args.vars c.args.lines.items list)) (lines_rows c.args.vars c.args.lines.items) list.asks.items more.asks.items list.settle more.settle c.args.row.now c.requires.fills
    c.ask.result c.in_ok-asks-in-Ask.ensures.asks c.in_ok-asks-in-Ask.ensures.settle list.settled c.ask.ensures c.in-Ask.is)

pub returns-in-Settle : goal.returns-in-Settle
returns-in-Settle c =
    let vars : FitsSigned w64 c.args.vars = search rules in
    let list = c.args.asks in
    let more = c.with_settle-asks.result.list in
    let V : Keyword → Type 0 = λ k. HasValues (asks_rows c.args.vars c.args.lines.items list) k c.args.row.now.values in
    let new = subst V c.in-Settle.is c.requires.values in
    let open' = unsettled list.settle (sym (is_settled-asked c.args.vars c.args.lines.items list.asks.items list.settle) ∙ new) in
    rw to_z-of_z
    (settle-more (variables_of (asks_rows c.args.vars c.args.lines.items list)) (lines_rows c.args.vars c.args.lines.items) list.asks.items more.asks.items list.settle more.settle c.args.row.now c.requires.fills
    c.with_settle-asks.ensures.asks c.with_settle-asks.ensures.settle open' c.in-Settle.is)

pub returns-in_default : goal.returns-in_default
returns-in_default c =
    let vars : FitsSigned w64 c.args.vars = search rules in
    let list = c.args.asks in
    let ends = end-of-asks c.args.row.now.keyword c.requires.allowed c.in_default.not-Ask c.in_default.not-Settle in
    rw to_z-of_z
    (end-more (variables_of (asks_rows c.args.vars c.args.lines.items list)) (lines_rows c.args.vars c.args.lines.items) list.asks.items list.asks.items list.settle list.settle c.args.row.now c.requires.fills ends)

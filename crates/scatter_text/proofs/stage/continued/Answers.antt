use Rattle.std.proofs.Common.{rules, FitsSigned, ◌∷◌, List, subst, sym, ◌∙◌, ap}
use Rattle.std.specs.Int.{w64}
use Rattle.std.proofs.lemmas.Int.{to_z-of_z}
use Rattle.std.proofs.lemmas.Result.{IfOk-weaker}
use Rattle.scatter_text.specs.declared.row.Row.{Row}
use Rattle.scatter_text.specs.declared.stage.Stage.TheVariants.{Body}
use Rattle.scatter_text.specs.Grammar.{variables_of, lines_rows}
use Rattle.scatter_text.specs.Stages.{rows_of, CanEnd}
use Rattle.scatter_text.proofs.AddedRows.{line-more, term-more, end-of-body, rows-of-body}
use Rattle.scatter_text.proofs.stage.continued.Goals as goal

pub returns-in_ok-lines-in-Line : goal.returns-in_ok-lines-in-Line
returns-in_ok-lines-in-Line c =
    let vars : FitsSigned w64 c.args.vars = search rules in
    rw to_z-of_z
    (line-more (variables_of (rows_of (Body c.args.vars c.args.lines c.args.last))) c.args.vars c.args.lines.items c.in_ok-lines-in-Line.lines.items c.args.last.row c.opened-last.result.row c.args.row.now c.in_ok-lines-in-Line.ensures c.opened-last.ensures c.in-Line.is c.requires.fills)

pub returns-in_ok-last-in-Term : goal.returns-in_ok-last-in-Term
returns-in_ok-last-in-Term c =
    let vars : FitsSigned w64 c.args.vars = search rules in
    rw to_z-of_z
    (term-more (variables_of (rows_of (Body c.args.vars c.args.lines c.args.last))) c.args.vars c.args.lines.items c.args.last.row c.in_ok-last-in-Term.last.row c.in_ok-term-in-Term.field-0 c.args.row.now c.in_ok-last-in-Term.ensures c.in_ok-term-in-Term.ensures c.in-Term.is c.requires.fills)

pub asked-requires : goal.asked-requires
asked-requires c =
    let vars : FitsSigned w64 c.args.vars = search rules in
    let P : List Row → Type 0 = λ rows. CanEnd rows c.args.row.now in
    let list = c.new.result in
    let body = rows-of-body c.args.vars c.args.lines.items c.in_ok-lines-in_default.lines.items c.args.last.row list.asks.items list.settle c.in_ok-lines-in_default.ensures c.new.ensures.asks c.new.ensures.settle in
    rw to_z-of_z (subst P (sym body) (end-of-body (lines_rows c.args.vars c.args.lines.items) c.args.last.row c.args.row.now c.requires c.in_default.not-Line c.in_default.not-Term))

pub returns-in_ok-lines-in_default : goal.returns-in_ok-lines-in_default
returns-in_ok-lines-in_default c =
    let vars : FitsSigned w64 c.args.vars = search rules in
    let list = c.new.result in
    let body = rows-of-body c.args.vars c.args.lines.items c.in_ok-lines-in_default.lines.items c.args.last.row list.asks.items list.settle c.in_ok-lines-in_default.ensures c.new.ensures.asks c.new.ensures.settle in
    IfOk-weaker c.asked.result _ _ (λ next h. h ∙ ap (λ rows. c.args.row.now ∷ rows) body) (rw to_z-of_z at c.asked.ensures)

use Rattle.std.proofs.Common.{rules, FitsSigned, ◌∷◌, List, subst, sym, ◌∙◌, ap}
use Rattle.std.specs.Int.{w64}
use Rattle.std.proofs.lemmas.Int.{to_z-of_z}
use Rattle.std.proofs.lemmas.Result.{IfOk-weaker}
use Rattle.scatter_text.specs.declared.row.Row.{Row}
use Rattle.scatter_text.specs.Grammar.{variables_of}
use Rattle.scatter_text.specs.Stages.{head_rows, CanEnd}
use Rattle.scatter_text.proofs.AddedRows.{first-line, end-of-head, rows-of-head}
use Rattle.scatter_text.proofs.stage.begun.Goals as goal

pub returns-in-Line : goal.returns-in-Line
returns-in-Line c =
    let vars : FitsSigned w64 c.args.vars = search rules in
    rw to_z-of_z (first-line (variables_of (head_rows c.args.vars)) c.args.vars c.new-lines.result.items c.opened-last.result.row c.args.row.now c.new-lines.ensures.items c.opened-last.ensures c.in-Line.is c.requires.fills)

pub asked-requires : goal.asked-requires
asked-requires c =
    let vars : FitsSigned w64 c.args.vars = search rules in
    let P : List Row → Type 0 = λ rows. CanEnd rows c.args.row.now in
    let head = rows-of-head c.args.vars c.new-lines.result.items c.new.result.asks.items c.new.result.settle c.new-lines.ensures.items c.new.ensures.asks c.new.ensures.settle in
    rw to_z-of_z (subst P (sym head) (end-of-head c.args.vars c.args.row.now c.requires c.in_default.not-Line))

pub returns-in_default : goal.returns-in_default
returns-in_default c =
    let vars : FitsSigned w64 c.args.vars = search rules in
    let head = rows-of-head c.args.vars c.new-lines.result.items c.new.result.asks.items c.new.result.settle c.new-lines.ensures.items c.new.ensures.asks c.new.ensures.settle in
    IfOk-weaker c.asked.result _ _ (λ next h. h ∙ ap (λ rows. c.args.row.now ∷ rows) head) (rw to_z-of_z at c.asked.ensures)

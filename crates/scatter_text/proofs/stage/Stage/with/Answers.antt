use Rattle.std.proofs.Common.{rules, FitsSigned, ◌∷◌, subst, sym, ◌∙◌, ap, Contains}
use Rattle.std.specs.Int.{w64}
use Rattle.std.proofs.lemmas.Int.{to_z-of_z}
use Rattle.std.proofs.lemmas.Result.{IfOk-weaker}
use Rattle.scatter_text.specs.declared.grammar.Place.{Place}
use Rattle.scatter_text.specs.declared.grammar.TextMode.TheVariants as modes
use Rattle.scatter_text.specs.declared.stage.Stage.{Stage}
use Rattle.scatter_text.specs.Grammar.{place_after, variables_of, words_at}
use Rattle.scatter_text.specs.Stages.{rows_of, CanFollow}
use Rattle.scatter_text.proofs.RowShapes.{no-keyword}
use Rattle.scatter_text.proofs.AddedRows.{scatter-first, vars-next, can-end}
use Rattle.scatter_text.proofs.AskRows.{place_after-asked}
use Rattle.scatter_text.proofs.stage.Stage.with.Goals as goal

pub returns-in-Start : goal.returns-in-Start
returns-in-Start c = scatter-first (variables_of (rows_of c.args.self)) (rows_of c.args.self) c.args.row (ap rows_of c.in-Start.is) c.requires.allowed c.requires.fills c.requires.values

pub returns-in-Version : goal.returns-in-Version
returns-in-Version c =
    let number : FitsSigned w64 c.number.result = search rules in
    rw to_z-of_z (vars-next (variables_of (rows_of c.args.self)) (rows_of c.args.self) c.number.result c.args.row (ap rows_of c.in-Version.is) c.number.ensures c.requires.allowed c.requires.fills)

pub begun-requires : goal.begun-requires
begun-requires c =
    let vars : FitsSigned w64 c.in-Head.vars = search rules in
    let P : Stage → Type 0 = λ s. CanFollow (rows_of s) c.args.row in
    rw to_z-of_z (subst P c.in-Head.is c.requires)

pub returns-in-Head : goal.returns-in-Head
returns-in-Head c =
    let vars : FitsSigned w64 c.in-Head.vars = search rules in
    IfOk-weaker c.begun.result _ _ (λ next h. h ∙ ap (λ s. c.args.row ∷ rows_of s) (sym c.in-Head.is)) (rw to_z-of_z at c.begun.ensures)

pub continued-requires : goal.continued-requires
continued-requires c =
    let vars : FitsSigned w64 c.in-Body.vars = search rules in
    let P : Stage → Type 0 = λ s. CanFollow (rows_of s) c.args.row in
    rw to_z-of_z (subst P c.in-Body.is c.requires)

pub asked-requires : goal.asked-requires
asked-requires c =
    let vars : FitsSigned w64 c.in-Asking.vars = search rules in
    let list = c.in-Asking.asks.list in
    let P : Stage → Type 0 = λ s. CanFollow (rows_of s) c.args.row in
    rw to_z-of_z (can-end _ c.args.row (place_after-asked _ list.asks.items list.settle c.in-Asking.asks.some) (subst P c.in-Asking.is c.requires))

pub returns-in-Asking : goal.returns-in-Asking
returns-in-Asking c =
    let vars : FitsSigned w64 c.in-Asking.vars = search rules in
    IfOk-weaker c.asked.result _ _ (λ next h. h ∙ ap (λ s. c.args.row ∷ rows_of s) (sym c.in-Asking.is)) (rw to_z-of_z at c.asked.ensures)

pub unreachable-requires : goal.unreachable-requires
unreachable-requires c =
    let P : Place → Type 0 = λ p. Contains (words_at modes.Asks p) c.args.row.keyword in
    no-keyword c.args.row.keyword (subst P (ap (λ s. place_after (rows_of s)) c.in-Whole.is) c.requires.allowed)

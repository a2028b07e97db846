use Rattle.std.proofs.Common.{fold, List, All, refl, subst, sym, ap, ◌∙◌}
use Rattle.std.proofs.lemmas.List.Elements.{All-nil}
use Rattle.std.proofs.lemmas.Result.{IfOk-weaker}
use Rattle.scatter_text.specs.declared.file.TermRow.{TermRow}
use Rattle.scatter_text.specs.Grammar.{rows_onto, lines_rows, terms_before}
use Rattle.scatter_text.specs.Stages.{head_rows, rows_of}
use Rattle.scatter_text.specs.Values.{AreAlike}
use Rattle.scatter_text.proofs.StageRows.{all_terms-line}
use Rattle.scatter_text.proofs.AskRows.{place_after-asked, no-terms-after}
use Rattle.scatter_text.proofs.stage.Stage.is_new.Goals as goal

pub returns-in-Body : goal.returns-in-Body
returns-in-Body c =
    let P = λ (earlier : TermRow). ¬ AreAlike earlier c.args.term.now in
    let both = all_terms-line P (fold rows_onto (head_rows c.in-Body.vars) c.in-Body.lines.items) c.in-Body.last.row in
    rw c.in-Body.is (IfOk-weaker c.lacks.result _ _ (λ b h. (λ new. both.1 (h.0 new), λ all. h.1 (both.0 all))) c.lacks.ensures)

pub returns-in-Asking : goal.returns-in-Asking
returns-in-Asking c =
    let P = λ (earlier : TermRow). ¬ AreAlike earlier c.args.term.now in
    let list = c.in-Asking.asks.list in
    let none = ap (λ s. terms_before (rows_of s)) c.in-Asking.is ∙ no-terms-after _ (place_after-asked (lines_rows c.in-Asking.vars c.in-Asking.lines.items) list.asks.items list.settle c.in-Asking.asks.some) in
    let Q : List TermRow → Type 0 = λ ts. All P ts in
    (λ _. subst Q (sym none) (All-nil P), λ _. refl)

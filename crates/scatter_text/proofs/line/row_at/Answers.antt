use Rattle.std.proofs.Common.{◌≡◌, ◌≢◌, [], List, ℕ, All, map, sym, ◌∙◌, ap, subst}
use Rattle.std.proofs.lemmas.Result.{IfOk-weaker}
use Rattle.scatter_text.specs.declared.row.Row.{Row}
use Rattle.scatter_text.specs.Grammar.{place_after, variables_of}
use Rattle.scatter_text.proofs.Lines.{IsCut, bad_line, unvalued_line}
use Rattle.scatter_text.proofs.line.row_at.Goals as goal

pub is_cut : (c : goal.After-drop-tokens-2) (before : List Row) → place_after before ≡ c.args.place → variables_of before ≡ c.args.variables → IsCut c.args.mode before c.args.line.now c.args.place c.args.variables (map (λ t. t.now) c.deref-2.result.now)
is_cut c before at with_variables = record {
  at = at;
  with_variables = with_variables;
  cut = ap (map (λ t. t.now)) c.deref-2.ensures.value ∙ c.in_ok-tokens.ensures;
  byte = c.is_printable.ensures.0 c.if-not-is_printable.false;
  separate =
      let P : List (List ℕ) → Type 0 = λ texts. All (λ token. token ≢ []) texts in
      subst P (ap (map (λ t. t.now)) (c.deref.ensures.value ∙ sym c.deref-2.ensures.value)) (c.are_separate.ensures.0 c.if-not-are_separate.false);
}

pub returns-clause-bad : goal.returns-clause-bad
returns-clause-bad c = λ kind is before at with_variables.
    bad_line c.args.mode before c.args.line.now c.args.place c.args.variables (map (λ t. t.now) c.deref-2.result.now) kind (is_cut c before at with_variables) (c.row_from.ensures.bad kind is)

pub returns-clause-ok : goal.returns-clause-ok
returns-clause-ok c =
    IfOk-weaker c.row_from.result _ _ (λ r say before at with_variables. unvalued_line c.args.mode before c.args.line.now c.args.place c.args.variables (map (λ t. t.now) c.deref-2.result.now) r (is_cut c before at with_variables) say) c.row_from.ensures.ok

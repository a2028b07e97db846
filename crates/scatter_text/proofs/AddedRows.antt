-- What one row more adds to the rows of a stage.
use Rattle.std.proofs.Common.{◌≡◌, ◌≤◌, Option, Some, None, List, [], ◌∷◌, ◌++◌, length, fold, sym, subst, ◌∙◌, ap, Contains, ℕ, ℤ, pos}
use Rattle.std.specs.Option.{ForSome}
use Rattle.scatter_text.specs.declared.file.TermRow.{TermRow}
use Rattle.scatter_text.specs.declared.file.LineRow.{LineRow}
use Rattle.scatter_text.specs.declared.file.AskRow.{AskRow}
use Rattle.scatter_text.specs.declared.grammar.TextMode.TheVariants as modes
use Rattle.scatter_text.specs.declared.grammar.Place.{Place}
use Rattle.scatter_text.specs.declared.grammar.Place.TheVariants.{Asks}
use Rattle.scatter_text.specs.declared.grammar.Keyword.{Keyword}
use Rattle.scatter_text.specs.declared.grammar.Keyword.TheVariants as keyword
use Rattle.scatter_text.specs.declared.row.Row.{Row}
use Rattle.scatter_text.specs.Grammar.{words_at, place_after, number_in, scatter_row, vars_row, HasValues, FillsSlots, term_row, ask_row, settle_row, end_row, term_said, line_said, ask_said, rows_onto, settled_onto}
use Rattle.scatter_text.specs.Stages.{head_rows, CanFollow, CanEnd}
use Rattle.scatter_text.proofs.StageRows.{rows_onto-term, lines-line, place_after-line}
use Rattle.scatter_text.proofs.AskRows.{asked-ask, asked-settle}
use Rattle.scatter_text.proofs.RowShapes.{scatter-row, vars-row, line-row, term-row, ask-row, settle-row, end-row, first-keyword, second-keyword, past-lines, past-terms}

abbrev rows_to : ℤ → List LineRow → List Row
rows_to vars lines = fold rows_onto (head_rows vars) lines

pub scatter-first : (variables : ℕ) (rows : List Row) (r : Row) → rows ≡ [] → Contains (words_at modes.Asks (place_after rows)) r.keyword → FillsSlots variables r → HasValues rows r.keyword r.values → scatter_row (pos 1) ∷ [] ≡ r ∷ rows
scatter-first variables rows r none allowed fills values =
    let P : List Row → Type 0 = λ rows. Contains (words_at modes.Asks (place_after rows)) r.keyword in
    let e = first-keyword r.keyword (subst P none allowed) in
    let V : Keyword → Type 0 = λ k. HasValues rows k r.values in
    let version : number_in r.values 0 ≡ pos 1 = subst V e values in
    let is = scatter-row variables r e fills ∙ ap scatter_row version in
    λ i. sym is i ∷ sym none i

pub vars-next : (variables : ℕ) (rows : List Row) (n : ℤ) (r : Row) → rows ≡ scatter_row (pos 1) ∷ [] → n ≡ number_in r.values 0 → Contains (words_at modes.Asks (place_after rows)) r.keyword → FillsSlots variables r → head_rows n ≡ r ∷ rows
vars-next variables rows n r one number allowed fills =
    let P : List Row → Type 0 = λ rows. Contains (words_at modes.Asks (place_after rows)) r.keyword in
    let is = vars-row variables r (second-keyword r.keyword (subst P one allowed)) fills ∙ ap vars_row (sym number) in
    λ i. sym is i ∷ sym one i

line-onto : (variables : ℕ) (before : List Row) (l : LineRow) (r : Row) → l ≡ line_said r.values → r.keyword ≡ keyword.Line → FillsSlots variables r → rows_onto before l ≡ r ∷ before
line-onto variables before l r is e fills = ap (rows_onto before) is ∙ ap (λ (r : Row). r ∷ before) (sym (line-row variables r e fills))

pub first-line : (variables : ℕ) (vars : ℤ) (lines : List LineRow) (l : LineRow) (r : Row) → lines ≡ [] → l ≡ line_said r.values → r.keyword ≡ keyword.Line → FillsSlots variables r → rows_onto (rows_to vars lines) l ≡ r ∷ head_rows vars
first-line variables vars lines l r none is e fills = ap (λ (lines : List LineRow). rows_onto (rows_to vars lines) l) none ∙ line-onto variables (head_rows vars) l r is e fills

pub line-more : (variables : ℕ) (vars : ℤ) (lines more : List LineRow) (last l : LineRow) (r : Row) → more ≡ lines ++ last ∷ [] → l ≡ line_said r.values → r.keyword ≡ keyword.Line → FillsSlots variables r → rows_onto (rows_to vars more) l ≡ r ∷ rows_onto (rows_to vars lines) last
line-more variables vars lines more last l r grown is e fills = line-onto variables (rows_to vars more) l r is e fills ∙ ap (λ (rows : List Row). r ∷ rows) (ap (rows_to vars) grown ∙ lines-line (head_rows vars) lines last)

pub term-more : (variables : ℕ) (vars : ℤ) (lines : List LineRow) (last l : LineRow) (t : TermRow) (r : Row) → l ≡ record last { terms = last.terms ++ t ∷ [] } → t ≡ term_said r.values → r.keyword ≡ keyword.Term → FillsSlots variables r → rows_onto (rows_to vars lines) l ≡ r ∷ rows_onto (rows_to vars lines) last
term-more variables vars lines last l t r grown is e fills =
    ap (rows_onto (rows_to vars lines)) grown
    ∙ rows_onto-term (rows_to vars lines) last t
    ∙ ap (λ (t : TermRow). term_row t ∷ rows_onto (rows_to vars lines) last) is
    ∙ ap (λ (r : Row). r ∷ rows_onto (rows_to vars lines) last) (sym (term-row variables r e fills))

-- ---- all lines have been said

pub can-end : (before : List Row) (r : Row) → place_after before ≡ Asks → CanFollow before r → CanEnd before r
can-end before r e h = let P : Place → Type 0 = λ p. Contains (words_at modes.Asks p) r.keyword in record { allowed = subst P e h.allowed; fills = h.fills; values = h.values }

pub end-of-head : (vars : ℤ) (r : Row) → CanFollow (head_rows vars) r → (r.keyword ≡ keyword.Line → ⊥) → CanEnd (head_rows vars) r
end-of-head vars r h other = record { allowed = past-lines r.keyword h.allowed other; fills = h.fills; values = h.values }

pub end-of-body : (before : List Row) (l : LineRow) (r : Row) → CanFollow (rows_onto before l) r → (r.keyword ≡ keyword.Line → ⊥) → (r.keyword ≡ keyword.Term → ⊥) → CanEnd (rows_onto before l) r
end-of-body before l r h no-line no-term =
    let P : Place → Type 0 = λ p. Contains (words_at modes.Asks p) r.keyword in
    record { allowed = past-terms r.keyword (subst P (place_after-line before l) h.allowed) no-line no-term; fills = h.fills; values = h.values }

pub rows-of-head : (vars : ℤ) (lines : List LineRow) (asks : List AskRow) (settle : Option ℕ) → lines ≡ [] → asks ≡ [] → settle ≡ None → settled_onto (rows_to vars lines) asks settle ≡ head_rows vars
rows-of-head vars lines asks settle empty none open' = λ i. settled_onto (rows_to vars (empty i)) (none i) (open' i)

pub rows-of-body : (vars : ℤ) (lines more : List LineRow) (last : LineRow) (asks : List AskRow) (settle : Option ℕ) → more ≡ lines ++ last ∷ [] → asks ≡ [] → settle ≡ None → settled_onto (rows_to vars more) asks settle ≡ rows_onto (rows_to vars lines) last
rows-of-body vars lines more last asks settle grown none open' = (λ i. settled_onto (rows_to vars (grown i)) (none i) (open' i)) ∙ lines-line (head_rows vars) lines last

-- ---- asks and `settle`, and the end

module _ (variables : ℕ) (before : List Row) (asks more : List AskRow) (settle now : Option ℕ) (r : Row) (fills : FillsSlots variables r) where
  pub ask-more : (a : AskRow) → more ≡ asks ++ a ∷ [] → now ≡ settle → ForSome settle (λ n. n ≤ length asks) → a ≡ ask_said r.values → r.keyword ≡ keyword.Ask → settled_onto before more now ≡ r ∷ settled_onto before asks settle
  ask-more a grown same within is e =
      (λ i. settled_onto before (grown i) (same i))
      ∙ asked-ask before asks settle a within
      ∙ ap (λ (a : AskRow). ask_row a ∷ settled_onto before asks settle) is
      ∙ ap (λ (r : Row). r ∷ settled_onto before asks settle) (sym (ask-row variables r e fills))

  pub settle-more : more ≡ asks → now ≡ Some (length asks) → settle ≡ None → r.keyword ≡ keyword.Settle → settled_onto before more now ≡ r ∷ settled_onto before asks settle
  settle-more same stands none e =
      (λ i. settled_onto before (same i) (stands i))
      ∙ asked-settle before asks
      ∙ ap (λ (o : Option ℕ). settle_row ∷ settled_onto before asks o) (sym none)
      ∙ ap (λ (r : Row). r ∷ settled_onto before asks settle) (sym (settle-row variables r e fills))

  pub end-more : r.keyword ≡ keyword.End → end_row ∷ settled_onto before asks settle ≡ r ∷ settled_onto before asks settle
  end-more e = ap (λ (r : Row). r ∷ settled_onto before asks settle) (sym (end-row variables r e fills))

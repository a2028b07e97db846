-- The rows of a stage: what they decide, and one row more.
use Rattle.std.proofs.Common.{Vec, Global, ◌≡◌, ◌≢◌, ◌↔◌, List, [], ◌∷◌, ◌++◌, fold, refl, sym, ◌∙◌, All, ℤ}
use Rattle.std.specs.List.{AllByRecursion}
use Rattle.std.proofs.lemmas.Grind.{fold-append}
use Rattle.std.proofs.lemmas.List.Elements.{All-from_recursion, recursion_from_All}
use Rattle.scatter_text.specs.declared.file.TermRow.{TermRow}
use Rattle.scatter_text.specs.declared.file.LineRow.{LineRow}
use Rattle.scatter_text.specs.declared.grammar.Place.TheVariants as place
use Rattle.scatter_text.specs.declared.row.Row.{Row}
use Rattle.scatter_text.specs.Grammar.{line_row, term_row, rows_onto, place_after, vars_of, terms_before}
use Rattle.scatter_text.specs.declared.stage.Stage.{Stage}
use Rattle.scatter_text.specs.declared.stage.Stage.TheVariants as stage
use Rattle.scatter_text.specs.declared.ask_list.AskList.{AskList}
use Rattle.scatter_text.specs.Stages.{head_rows, rows_of}
use Rattle.scatter_text.proofs.AskRows.{place_after-asked}

abbrev with_terms : List Row → List TermRow → List Row
with_terms rows terms = fold (λ rows term. term_row term ∷ rows) rows terms

place_after-terms : (rows : List Row) (terms : List TermRow) → place_after rows ≡ place.Terms → place_after (with_terms rows terms) ≡ place.Terms
place_after-terms rows [] e = e
place_after-terms rows (t ∷ ts) e = place_after-terms (term_row t ∷ rows) ts refl

pub place_after-line : (before : List Row) (l : LineRow) → place_after (rows_onto before l) ≡ place.Terms
place_after-line before l = place_after-terms (line_row l.dx l.dy l.x l.y ∷ before) l.terms refl

vars_of-terms : (rows : List Row) (terms : List TermRow) → vars_of (with_terms rows terms) ≡ vars_of rows
vars_of-terms rows [] = refl
vars_of-terms rows (t ∷ ts) = vars_of-terms (term_row t ∷ rows) ts

pub vars_of-line : (before : List Row) (l : LineRow) → vars_of (rows_onto before l) ≡ vars_of before
vars_of-line before l = vars_of-terms (line_row l.dx l.dy l.x l.y ∷ before) l.terms

pub vars_of-lines : (before : List Row) (lines : List LineRow) → vars_of (fold rows_onto before lines) ≡ vars_of before
vars_of-lines before [] = refl
vars_of-lines before (l ∷ ls) = vars_of-lines (rows_onto before l) ls ∙ vars_of-line before l

-- the terms before are those of the line, the last first
all_terms : (P : TermRow → Type 0) (rows : List Row) (terms : List TermRow) → AllByRecursion P (terms_before (with_terms rows terms)) ↔ (AllByRecursion P terms × AllByRecursion P (terms_before rows))
all_terms P rows [] = (λ h. (tt, h), λ h. h.1)
all_terms P rows (t ∷ ts) =
    let more = all_terms P (term_row t ∷ rows) ts in
    (λ h. let parts = more.0 h in ((parts.1.0, parts.0), parts.1.1), λ h. more.1 (h.0.1, (h.0.0, h.1)))

pub all_terms-line : (P : TermRow → Type 0) (before : List Row) (l : LineRow) → All P (terms_before (rows_onto before l)) ↔ All P l.terms
all_terms-line P before l =
    let both = all_terms P (line_row l.dx l.dy l.x l.y ∷ before) l.terms in (
      λ h. All-from_recursion P l.terms (both.0 (recursion_from_All P (terms_before (rows_onto before l)) h)).0,
      λ h. All-from_recursion P (terms_before (rows_onto before l)) (both.1 (recursion_from_All P l.terms h, tt)),
    )

-- one more term, and one more line
pub rows_onto-term : (before : List Row) (l : LineRow) (t : TermRow) → rows_onto before record l { terms = l.terms ++ t ∷ [] } ≡ term_row t ∷ rows_onto before l
rows_onto-term before l t = fold-append (λ rows term. term_row term ∷ rows) (line_row l.dx l.dy l.x l.y ∷ before) l.terms (t ∷ [])

pub lines-line : (before : List Row) (lines : List LineRow) (l : LineRow) → fold rows_onto before (lines ++ l ∷ []) ≡ rows_onto (fold rows_onto before lines) l
lines-line before lines l = fold-append rows_onto before lines (l ∷ [])

-- only after the end stands nothing
pub not_whole : (s : Stage) → ((vars : ℤ) (lines : Vec LineRow Global) (asks : AskList) → s ≡ stage.Whole vars lines asks → ⊥) → place_after (rows_of s) ≢ place.After
not_whole stage.Start other e = cc
not_whole stage.Version other e = cc
not_whole (stage.Head vars) other e = cc
not_whole (stage.Body vars lines last) other e = let here : place.Terms ≡ place.After = sym (place_after-line (fold rows_onto (head_rows vars) lines.items) last.row) ∙ e in cc
not_whole (stage.Asking vars lines asks) other e = let here : place.Asks ≡ place.After = sym (place_after-asked (fold rows_onto (head_rows vars) lines.items) asks.list.asks.items asks.list.settle asks.some) ∙ e in cc
not_whole (stage.Whole vars lines asks) other e = other vars lines asks refl

-- The rows of asks and of `settle`: what they decide, one more of them, and what they say.
use Rattle.std.proofs.Common.{◌≡◌, ◌≢◌, ℕ, ◌≤◌, ◌↔◌, Bool, true, false, not, List, [], ◌∷◌, ◌++◌, length, take, drop, fold, refl, arith, ◌∙◌, ap, Option, Some, None, ℤ}
use Rattle.std.specs.Prelude.{IsTrue, is_some}
use Rattle.std.specs.Option.{ForSome}
use Rattle.std.proofs.lemmas.Grind.{fold-append}
use Rattle.std.proofs.lemmas.List.{take-append-le, drop-append-le, take_all, drop_all}
use Rattle.scatter_text.specs.declared.file.Coordinate.{Coordinate}
use Rattle.scatter_text.specs.declared.file.TermRow.{TermRow}
use Rattle.scatter_text.specs.declared.file.LineRow.{LineRow}
use Rattle.scatter_text.specs.declared.file.AskKind.{AskKind}
use Rattle.scatter_text.specs.declared.file.AskKind.TheVariants.{Theta, Product}
use Rattle.scatter_text.specs.declared.file.AskRow.{AskRow}
use Rattle.scatter_text.specs.declared.grammar.Keyword.{Keyword}
use Rattle.scatter_text.specs.declared.grammar.Keyword.TheVariants as keyword
use Rattle.scatter_text.specs.declared.grammar.Place.TheVariants as place
use Rattle.scatter_text.specs.declared.row.RowValue.{RowValue}
use Rattle.scatter_text.specs.declared.row.Row.{Row}
use Rattle.scatter_text.specs.Grammar.{line_row, term_row, ask_row, settle_row, ask_said, rows_onto, lines_rows, asks_onto, settled_onto, next_place, place_after, vars_of, terms_by, terms_before, is_settled}

-- ---- the place and the number of variables after them

place_after-asks : (rows : List Row) (asks : List AskRow) → place_after rows ≡ place.Asks → place_after (asks_onto rows asks) ≡ place.Asks
place_after-asks rows [] e = e
place_after-asks rows (a ∷ asks) e = place_after-asks (ask_row a ∷ rows) asks refl

pub place_after-asked : (before : List Row) (asks : List AskRow) (settle : Option ℕ) → (settle ≡ None → asks ≢ []) → place_after (settled_onto before asks settle) ≡ place.Asks
place_after-asked before [] None some = absurd (some refl refl)
place_after-asked before (a ∷ asks) None some = place_after-asks (ask_row a ∷ before) asks refl
place_after-asked before asks (Some n) some = place_after-asks (settle_row ∷ asks_onto before (take n asks)) (drop n asks) refl

vars_of-asks : (rows : List Row) (asks : List AskRow) → vars_of (asks_onto rows asks) ≡ vars_of rows
vars_of-asks rows [] = refl
vars_of-asks rows (a ∷ asks) = vars_of-asks (ask_row a ∷ rows) asks

pub vars_of-asked : (before : List Row) (asks : List AskRow) (settle : Option ℕ) → vars_of (settled_onto before asks settle) ≡ vars_of before
vars_of-asked before asks None = vars_of-asks before asks
vars_of-asked before asks (Some n) = vars_of-asks (settle_row ∷ asks_onto before (take n asks)) (drop n asks) ∙ vars_of-asks before (take n asks)

-- ---- no term may follow

no-terms : (k : Keyword) (values : List RowValue) (before : List TermRow) → next_place k ≡ place.Asks → terms_by k values before ≡ []
no-terms keyword.Term values before e = absurd (cc)
no-terms k values before e = refl

pub no-terms-after : (rows : List Row) → place_after rows ≡ place.Asks → terms_before rows ≡ []
no-terms-after [] e = absurd (cc)
no-terms-after (r ∷ rows) e = no-terms r.keyword r.values (terms_before rows) e

-- ---- whether `settle` stands among them

is_settled-terms : (rows : List Row) (terms : List TermRow) → is_settled (fold (λ rows term. term_row term ∷ rows) rows terms) ≡ is_settled rows
is_settled-terms rows [] = refl
is_settled-terms rows (t ∷ ts) = is_settled-terms (term_row t ∷ rows) ts

pub is_settled-line : (before : List Row) (l : LineRow) → is_settled (rows_onto before l) ≡ is_settled before
is_settled-line before l = is_settled-terms (line_row l.dx l.dy l.x l.y ∷ before) l.terms

is_settled-onto : (before : List Row) (lines : List LineRow) → is_settled (fold rows_onto before lines) ≡ is_settled before
is_settled-onto before [] = refl
is_settled-onto before (l ∷ ls) = is_settled-onto (rows_onto before l) ls ∙ is_settled-line before l

pub is_settled-lines : (vars : ℤ) (lines : List LineRow) → is_settled (lines_rows vars lines) ≡ false
is_settled-lines vars lines = is_settled-onto _ lines

is_settled-asks : (rows : List Row) (asks : List AskRow) → is_settled (asks_onto rows asks) ≡ is_settled rows
is_settled-asks rows [] = refl
is_settled-asks rows (a ∷ asks) = is_settled-asks (ask_row a ∷ rows) asks

pub is_settled-asked : (vars : ℤ) (lines : List LineRow) (asks : List AskRow) (settle : Option ℕ) → is_settled (settled_onto (lines_rows vars lines) asks settle) ≡ is_some settle
is_settled-asked vars lines asks None = is_settled-asks (lines_rows vars lines) asks ∙ is_settled-lines vars lines
is_settled-asked vars lines asks (Some n) = is_settled-asks (settle_row ∷ asks_onto (lines_rows vars lines) (take n asks)) (drop n asks)

pub unsettled : (settle : Option ℕ) → is_some settle ≡ false → settle ≡ None
unsettled None e = refl
unsettled (Some n) e = absurd (cc)

pub unsettled-decided : (b r : Bool) → b ≡ r → IsTrue (not r) ↔ (b ≡ false)
unsettled-decided b true e = (λ h. absurd (let k : false ≡ true = h in cc), λ f. absurd (cc))
unsettled-decided b false e = (λ h. e, λ f. refl)

-- ---- one more

asks-ask : (before : List Row) (asks : List AskRow) (a : AskRow) → asks_onto before (asks ++ a ∷ []) ≡ ask_row a ∷ asks_onto before asks
asks-ask before asks a = fold-append (λ rows a. ask_row a ∷ rows) before asks (a ∷ [])

pub asked-ask : (before : List Row) (asks : List AskRow) (settle : Option ℕ) (a : AskRow) → ForSome settle (λ n. n ≤ length asks) → settled_onto before (asks ++ a ∷ []) settle ≡ ask_row a ∷ settled_onto before asks settle
asked-ask before asks None a within = asks-ask before asks a
asked-ask before asks (Some n) a settled =
    let within : n ≤ length asks = settled n refl in
    ap (λ (first : List AskRow). asks_onto (settle_row ∷ asks_onto before first) (drop n (asks ++ a ∷ []))) (take-append-le n asks (a ∷ []) within)
    ∙ ap (λ (last : List AskRow). asks_onto (settle_row ∷ asks_onto before (take n asks)) last) (drop-append-le n asks (a ∷ []) within)
    ∙ asks-ask (settle_row ∷ asks_onto before (take n asks)) (drop n asks) a

pub asked-settle : (before : List Row) (asks : List AskRow) → settled_onto before asks (Some (length asks)) ≡ settle_row ∷ settled_onto before asks None
asked-settle before asks =
    ap (λ (first : List AskRow). asks_onto (settle_row ∷ asks_onto before first) (drop (length asks) asks)) (take_all (length asks) asks (omega arith))
    ∙ ap (λ (last : List AskRow). asks_onto (settle_row ∷ asks_onto before asks) last) (drop_all (length asks) asks (omega arith))

-- ---- what a row says

said-by : (reader : ℤ) (kind : AskKind) (x y : Coordinate) (least : Option ℤ) → ask_said (ask_row (record { reader = reader; kind = kind; x = x; y = y; least = least })).values ≡ record { reader = reader; kind = kind; x = x; y = y; least = least }
said-by reader (Theta a b) x y None = refl
said-by reader (Theta a b) x y (Some l) = refl
said-by reader (Product a b c d) x y None = refl
said-by reader (Product a b c d) x y (Some l) = refl

pub said-row : (a : AskRow) → ask_said (ask_row a).values ≡ a
said-row a = said-by a.reader a.kind a.x a.y a.least

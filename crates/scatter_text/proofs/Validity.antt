-- The rules on values hold of the file that good lines say.
use Rattle.std.proofs.Common.{◌≡◌, ◌≤ℤ◌, ℕ, zero, suc, List, [], ◌∷◌, length, take, drop, fold, arith, sym, subst, All, AllPairs, Option, Some, None, ℤ, pos, nat_abs}
use Rattle.std.specs.List.{AllByRecursion}
use Rattle.std.proofs.lemmas.List.Elements.{All-from_recursion, All-append, recursion_from_All}
use Rattle.std.proofs.lemmas.List.{take-append-drop}
use Rattle.scatter_text.specs.declared.file.TermRow.{TermRow}
use Rattle.scatter_text.specs.declared.file.LineRow.{LineRow}
use Rattle.scatter_text.specs.declared.file.Coordinate.{Coordinate}
use Rattle.scatter_text.specs.declared.grammar.TextMode.{TextMode}
use Rattle.scatter_text.specs.declared.file.AskKind.{AskKind}
use Rattle.scatter_text.specs.declared.file.AskKind.TheVariants.{Theta, Product}
use Rattle.scatter_text.specs.declared.file.AskRow.{AskRow}
use Rattle.scatter_text.specs.declared.row.RowValue.{RowValue}
use Rattle.scatter_text.specs.declared.row.Row.{Row}
use Rattle.scatter_text.specs.Values.{IsTermRow, IsCoordinate, AreAlike, IsLine, AreLineRows, HasAskValues, IsAsk}
use Rattle.scatter_text.specs.Grammar.{line_row, term_row, ask_row, settle_row, end_row, point_values, kind_values, order_values, IsSpellable, FillsSlots, HasValues, vars_of, variables_of, terms_before, AreGood, rows_onto, lines_rows, asks_onto, settled_onto}
use Rattle.scatter_text.specs.Stages.{head_rows}
use Rattle.scatter_text.proofs.StageRows.{vars_of-line}
use Rattle.scatter_text.proofs.AskRows.{said-row}

pub record FitsOn (before : List Row) (r : Row) : Type 0 where
  pub fills : FillsSlots (variables_of before) r
  pub values : HasValues before r.keyword r.values

-- each row fits those before it
abbrev pub AreFit : List Row → Type 0
AreFit [] = Unit {0}
AreFit (r ∷ before) = FitsOn before r × AreFit before

pub fit_from_good : (mode : TextMode) (before : List Row) (lines : List (List ℕ)) (rows : List Row) → AreFit before → AreGood mode before lines rows → AreFit rows
fit_from_good mode before [] rows fit e = subst AreFit (sym e) fit
fit_from_good mode before (line ∷ lines) rows fit (r, good, more) = fit_from_good mode (r ∷ before) lines rows (record { fills = good.says.fills; values = good.says.values }, fit) more

-- what its row says of the spelling of a term, and of a line
term_spelled : (variables : ℕ) (t : TermRow) → FillsSlots variables (term_row t) → length t.powers ≡ variables
term_spelled variables t fills = (recursion_from_All (IsSpellable variables) (term_row t).values fills.spellable).1.1.0.0

record LineSpelled (p q : Coordinate) : Type 0 where
  x : IsCoordinate p
  y : IsCoordinate q

line_spelled : (variables : ℕ) (dx dy : ℤ) (x y : Coordinate) → FillsSlots variables (line_row dx dy x y) → LineSpelled x y
line_spelled variables dx dy x y fills = let each = recursion_from_All (IsSpellable variables) (line_row dx dy x y).values fills.spellable in record { x = each.1.1.1.0.valid; y = each.1.1.1.1.0.valid }

abbrev Differ : TermRow → TermRow → Type 0
Differ s t = ¬ AreAlike s t

abbrev ArePairs : List TermRow → Type 0
ArePairs [] = Unit {0}
ArePairs (t ∷ ts) = AllByRecursion (Differ t) ts × ArePairs ts

pairs : (ts : List TermRow) → ArePairs ts → AllPairs Differ ts
pairs [] h i j d below within = absurd (omega arith)
pairs (t ∷ ts) h i zero d below within = absurd (omega arith)
pairs (t ∷ ts) h zero (suc j) d below within = All-from_recursion (Differ t) ts h.0 j d (omega arith)
pairs (t ∷ ts) h (suc i) (suc j) d below within = pairs ts h.1 i j d (omega arith) (omega arith)

-- what is known of the terms of a line
record TermsFit (vars : ℤ) (earlier ts : List TermRow) : Type 0 where
  each : AllByRecursion IsTermRow ts
  counts : AllByRecursion (λ t. length t.powers ≡ nat_abs vars) ts
  apart : AllByRecursion (λ t. AllByRecursion (λ e. Differ e t) earlier) ts
  pairs : ArePairs ts

terms_fit : (rows : List Row) (ts : List TermRow) → AreFit (fold (λ rows term. term_row term ∷ rows) rows ts) → TermsFit (vars_of rows) (terms_before rows) ts × AreFit rows
terms_fit rows [] fit = (record { each = tt; counts = tt; apart = tt; pairs = tt }, fit)
terms_fit rows (t ∷ ts) fit =
    let more = terms_fit (term_row t ∷ rows) ts fit in
    let here = more.1.0 in (
      record {
        each = (here.values.0, more.0.each);
        counts = (term_spelled (variables_of rows) t here.fills, more.0.counts);
        apart = (recursion_from_All (λ e. Differ e t) (terms_before rows) here.values.1, later ts more.0.apart);
        pairs = (first ts more.0.apart, more.0.pairs);
      },
      more.1.1,
    )
  where
    later : (us : List TermRow) → AllByRecursion (λ u. AllByRecursion (λ e. Differ e u) (t ∷ terms_before rows)) us → AllByRecursion (λ u. AllByRecursion (λ e. Differ e u) (terms_before rows)) us
    later [] h = tt
    later (u ∷ us) h = (h.0.1, later us h.1)

    first : (us : List TermRow) → AllByRecursion (λ u. AllByRecursion (λ e. Differ e u) (t ∷ terms_before rows)) us → AllByRecursion (Differ t) us
    first [] h = tt
    first (u ∷ us) h = (h.0.0, first us h.1)

line_fit : (before : List Row) (l : LineRow) → AreFit (rows_onto before l) → IsLine (vars_of before) l × AreFit before
line_fit before l fit =
    let parts = terms_fit (line_row l.dx l.dy l.x l.y ∷ before) l.terms fit in
    let here = parts.1.0 in
    let spelled = line_spelled (variables_of before) l.dx l.dy l.x l.y here.fills in (
      record {
        primitive = here.values;
        x = spelled.x;
        y = spelled.y;
        terms = record {
          each = All-from_recursion IsTermRow l.terms parts.0.each;
          variables = All-from_recursion (λ t. length t.powers ≡ nat_abs (vars_of before)) l.terms parts.0.counts;
          different = pairs l.terms parts.0.pairs;
        };
      },
      parts.1.1,
    )

lines_fit : (before : List Row) (ls : List LineRow) → AreFit (fold rows_onto before ls) → AllByRecursion (IsLine (vars_of before)) ls × AreFit before
lines_fit before [] fit = (tt, fit)
lines_fit before (l ∷ ls) fit =
    let more = lines_fit (rows_onto before l) ls fit in
    let here = line_fit before l more.1 in
    let P : ℤ → Type 0 = λ vars. AllByRecursion (IsLine vars) ls in
    ((here.0, subst P (vars_of-line before l) more.0), here.1)

-- ---- asks

point_spelled : (variables : ℕ) (x y : Coordinate) (more : List RowValue) → AllByRecursion (IsSpellable variables) (point_values x y more) → LineSpelled x y
point_spelled variables x y more h = record { x = h.1.0.valid; y = h.1.1.0.valid }

kind_spelled : (variables : ℕ) (kind : AskKind) (x y : Coordinate) (more : List RowValue) → AllByRecursion (IsSpellable variables) (kind_values kind (point_values x y more)) → LineSpelled x y
kind_spelled variables (Theta a b) x y more h = point_spelled variables x y more h.1.1.1
kind_spelled variables (Product a b c d) x y more h = point_spelled variables x y more h.1.1.1.1.1

ask_fit : (before : List Row) (a : AskRow) → FitsOn before (ask_row a) → IsAsk a
ask_fit before a here =
    let spelled = kind_spelled (variables_of before) a.kind a.x a.y (order_values a.least) (recursion_from_All (IsSpellable (variables_of before)) (ask_row a).values here.fills.spellable).1 in
    record { values = subst HasAskValues (said-row a) here.values; x = spelled.x; y = spelled.y }

asks_fit : (before : List Row) (asks : List AskRow) → AreFit (asks_onto before asks) → AllByRecursion IsAsk asks × AreFit before
asks_fit before [] fit = (tt, fit)
asks_fit before (a ∷ asks) fit = let more = asks_fit (ask_row a ∷ before) asks fit in ((ask_fit before a more.1.0, more.0), more.1.1)

asked_fit : (before : List Row) (asks : List AskRow) (settle : Option ℕ) → AreFit (settled_onto before asks settle) → All IsAsk asks × AreFit before
asked_fit before asks None fit = let parts = asks_fit before asks fit in (All-from_recursion IsAsk asks parts.0, parts.1)
asked_fit before asks (Some n) fit =
    let last = asks_fit (settle_row ∷ asks_onto before (take n asks)) (drop n asks) fit in
    let first = asks_fit before (take n asks) last.1.1 in
    let both = All-append IsAsk (take n asks) (drop n asks) (All-from_recursion IsAsk (take n asks) first.0) (All-from_recursion IsAsk (drop n asks) last.0) in
    (subst (All IsAsk) (take-append-drop n asks) both, first.1)

-- ---- the file

pub record IsFile (vars : ℤ) (lines : List LineRow) (asks : List AskRow) : Type 0 where
  pub variables : pos 1 ≤ℤ vars
  pub valid : AreLineRows vars lines
  pub valid_asks : All IsAsk asks

pub file_from_good : (mode : TextMode) (texts : List (List ℕ)) (vars : ℤ) (lines : List LineRow) (asks : List AskRow) (settle : Option ℕ) → AreGood mode [] texts (end_row ∷ settled_onto (lines_rows vars lines) asks settle) → IsFile vars lines asks
file_from_good mode texts vars lines asks settle good =
    let fit = fit_from_good mode [] texts (end_row ∷ settled_onto (lines_rows vars lines) asks settle) tt good in
    let asked = asked_fit (lines_rows vars lines) asks settle fit.1 in
    let parts = lines_fit (head_rows vars) lines asked.1 in
    record { variables = parts.1.0.values; valid = All-from_recursion (IsLine vars) lines parts.0; valid_asks = asked.0 }

-- A text says one file: its rows are determined, and the file can be read back from them.
use Rattle.std.proofs.Common.{◌≡◌, ℕ, ◌≤◌, List, [], ◌∷◌, ◌++◌, length, take, drop, get_or, refl, sym, ◌∙◌, ap, subst, Option, Some, None, ℤ}
use Rattle.std.specs.Prelude.{pos, fold}
use Rattle.std.specs.Option.{ForSome}
use Rattle.std.proofs.lemmas.List.{append-nil, take-append-drop, length-take-le}
use Rattle.scatter_text.specs.declared.file.TermRow.{TermRow}
use Rattle.scatter_text.specs.declared.file.LineRow.{LineRow}
use Rattle.scatter_text.specs.declared.file.AskRow.{AskRow}
use Rattle.scatter_text.specs.declared.file.TextFile.{TextFile}
use Rattle.scatter_text.specs.declared.grammar.Keyword.{Keyword}
use Rattle.scatter_text.specs.declared.grammar.Keyword.TheVariants as keyword
use Rattle.scatter_text.specs.declared.grammar.TextMode.{TextMode}
use Rattle.scatter_text.specs.declared.row.RowValue.{RowValue}
use Rattle.scatter_text.specs.declared.row.Row.{Row}
use Rattle.scatter_text.specs.Grammar.{scatter_row, vars_row, line_row, term_row, ask_row, settle_row, term_said, line_said, ask_said, AreGood, IsGoodLine, IsTextIn, rows_onto, lines_rows, asks_onto, settled_onto, file_rows, vars_of}
use Rattle.scatter_text.proofs.StageRows.{vars_of-lines}
use Rattle.scatter_text.proofs.AskRows.{vars_of-asked, said-row}
use Rattle.scatter_text.proofs.Outcomes.{good_row}

-- ---- the same rows

no_more : (xs : List (List ℕ)) (x : List ℕ) → [] ≡ x ∷ xs → ⊥
no_more xs x e = cc

one_rows : (mode : TextMode) (before : List Row) (lines lines' : List (List ℕ)) (rows rows' : List Row) → AreGood mode before lines rows → AreGood mode before lines' rows' → lines ≡ lines' → rows ≡ rows'
one_rows mode before [] [] rows rows' g h e = g ∙ sym h
one_rows mode before [] (line ∷ lines) rows rows' g h e = absurd (no_more lines line e)
one_rows mode before (line ∷ lines) [] rows rows' g h e = absurd (no_more lines line (sym e))
one_rows mode before (line ∷ lines) (line' ∷ lines') rows rows' (r, good_r, more) (s, good_s, others) e =
    let head : line ≡ line' = ap (λ (xs : List (List ℕ)). get_or xs 0 []) e in
    let tail : lines ≡ lines' = ap (λ (xs : List (List ℕ)). drop 1 xs) e in
    let also : IsGoodLine mode before line s = let P : List ℕ → Type 0 = λ line. IsGoodLine mode before line s in subst P (sym head) good_s in
    let same : s ≡ r = good_row mode before line s r also good_r in
    let P : Row → Type 0 = λ r. AreGood mode (r ∷ before) lines' rows' in
    one_rows mode (r ∷ before) lines lines' rows rows' more (subst P same others) tail

without_last : (xs ys : List (List ℕ)) (z : List ℕ) → xs ++ z ∷ [] ≡ ys ++ z ∷ [] → xs ≡ ys
without_last [] [] z e = refl
without_last [] (y ∷ ys) z e = absurd (some ys (ap (λ (xs : List (List ℕ)). drop 1 xs) e))
  where
    some : (ys : List (List ℕ)) → [] ≡ ys ++ z ∷ [] → ⊥
    some [] e = cc
    some (y ∷ ys) e = cc
without_last (x ∷ xs) [] z e = absurd (some xs (ap (λ (ys : List (List ℕ)). drop 1 ys) e))
  where
    some : (xs : List (List ℕ)) → xs ++ z ∷ [] ≡ [] → ⊥
    some [] e = cc
    some (x ∷ xs) e = cc
without_last (x ∷ xs) (y ∷ ys) z e =
    let head : x ≡ y = ap (λ (xs : List (List ℕ)). get_or xs 0 []) e in
    let tail : xs ≡ ys = without_last xs ys z (ap (λ (xs : List (List ℕ)). drop 1 xs) e) in
    λ i. head i ∷ tail i

-- ---- the file of the rows

-- what a row leaves of the terms and lines after it
abbrev terms_then : Keyword → List RowValue → List TermRow → List TermRow
terms_then keyword.Line values terms = []
terms_then keyword.Term values terms = term_said values ∷ terms
terms_then other values terms = terms

abbrev lines_then : Keyword → List RowValue → List TermRow → List LineRow → List LineRow
lines_then keyword.Line values terms lines = record (line_said values) { terms = terms } ∷ lines
lines_then other values terms lines = lines

-- the lines of rows that stand with the last first, before these terms and lines
abbrev lines_before : List Row → List TermRow → List LineRow → List LineRow
lines_before [] terms lines = lines
lines_before (r ∷ rows) terms lines = lines_before rows (terms_then r.keyword r.values terms) (lines_then r.keyword r.values terms lines)

terms_back : (rows : List Row) (terms later : List TermRow) (lines : List LineRow) → lines_before (fold (λ rows term. term_row term ∷ rows) rows terms) later lines ≡ lines_before rows (terms ++ later) lines
terms_back rows [] later lines = refl
terms_back rows (t ∷ terms) later lines = terms_back (term_row t ∷ rows) terms later lines

lines_back : (rows : List Row) (lines later : List LineRow) → lines_before (fold rows_onto rows lines) [] later ≡ lines_before rows [] (lines ++ later)
lines_back rows [] later = refl
lines_back rows (l ∷ lines) later =
    lines_back (rows_onto rows l) lines later
    ∙ terms_back (line_row l.dx l.dy l.x l.y ∷ rows) l.terms [] (lines ++ later)
    ∙ ap (λ (ts : List TermRow). lines_before rows [] (record { dx = l.dx; dy = l.dy; x = l.x; y = l.y; terms = ts } ∷ (lines ++ later))) (append-nil l.terms)

lines_asks : (rows : List Row) (asks : List AskRow) (later : List LineRow) → lines_before (asks_onto rows asks) [] later ≡ lines_before rows [] later
lines_asks rows [] later = refl
lines_asks rows (a ∷ asks) later = lines_asks (ask_row a ∷ rows) asks later

lines_asked : (rows : List Row) (asks : List AskRow) (settle : Option ℕ) (later : List LineRow) → lines_before (settled_onto rows asks settle) [] later ≡ lines_before rows [] later
lines_asked rows asks None later = lines_asks rows asks later
lines_asked rows asks (Some n) later = lines_asks (settle_row ∷ asks_onto rows (take n asks)) (drop n asks) later ∙ lines_asks rows (take n asks) later

file_lines : (file : TextFile) → lines_before (file_rows file) [] [] ≡ file.lines
file_lines file =
    lines_asked (lines_rows file.vars file.lines) file.asks file.settle []
    ∙ lines_back (vars_row file.vars ∷ scatter_row (pos 1) ∷ []) file.lines []
    ∙ append-nil file.lines

file_vars : (file : TextFile) → vars_of (file_rows file) ≡ file.vars
file_vars file = vars_of-asked (lines_rows file.vars file.lines) file.asks file.settle ∙ vars_of-lines (vars_row file.vars ∷ scatter_row (pos 1) ∷ []) file.lines

-- ---- the asks of the rows

abbrev asks_then : Keyword → List RowValue → List AskRow → List AskRow
asks_then keyword.Ask values asks = ask_said values ∷ asks
asks_then other values asks = asks

-- the asks of rows that stand with the last first, before these asks
abbrev asks_before : List Row → List AskRow → List AskRow
asks_before [] asks = asks
asks_before (r ∷ rows) asks = asks_before rows (asks_then r.keyword r.values asks)

asks_terms : (rows : List Row) (terms : List TermRow) (later : List AskRow) → asks_before (fold (λ rows term. term_row term ∷ rows) rows terms) later ≡ asks_before rows later
asks_terms rows [] later = refl
asks_terms rows (t ∷ terms) later = asks_terms (term_row t ∷ rows) terms later

asks_lines : (rows : List Row) (lines : List LineRow) (later : List AskRow) → asks_before (fold rows_onto rows lines) later ≡ asks_before rows later
asks_lines rows [] later = refl
asks_lines rows (l ∷ lines) later = asks_lines (rows_onto rows l) lines later ∙ asks_terms (line_row l.dx l.dy l.x l.y ∷ rows) l.terms later

asks_back : (rows : List Row) (asks later : List AskRow) → asks_before (asks_onto rows asks) later ≡ asks_before rows (asks ++ later)
asks_back rows [] later = refl
asks_back rows (a ∷ asks) later = asks_back (ask_row a ∷ rows) asks later ∙ ap (λ (b : AskRow). asks_before rows (b ∷ (asks ++ later))) (said-row a)

asks_asked : (rows : List Row) (asks : List AskRow) (settle : Option ℕ) → asks_before (settled_onto rows asks settle) [] ≡ asks_before rows asks
asks_asked rows asks None = asks_back rows asks [] ∙ ap (asks_before rows) (append-nil asks)
asks_asked rows asks (Some n) =
    asks_back (settle_row ∷ asks_onto rows (take n asks)) (drop n asks) []
    ∙ asks_back rows (take n asks) (drop n asks ++ [])
    ∙ ap (λ (last : List AskRow). asks_before rows (take n asks ++ last)) (append-nil (drop n asks))
    ∙ ap (asks_before rows) (take-append-drop n asks)

file_asks : (file : TextFile) → asks_before (file_rows file) [] ≡ file.asks
file_asks file = asks_asked (lines_rows file.vars file.lines) file.asks file.settle ∙ asks_lines (vars_row file.vars ∷ scatter_row (pos 1) ∷ []) file.lines file.asks

-- ---- the place of `settle`

abbrev settle_by : Keyword → List Row → Option ℕ → Option ℕ
settle_by keyword.Settle rows before = Some (length (asks_before rows []))
settle_by other rows before = before

-- how many asks stand before the last `settle`
abbrev settle_before : List Row → Option ℕ
settle_before [] = None
settle_before (r ∷ rows) = settle_by r.keyword rows (settle_before rows)

settle_terms : (rows : List Row) (terms : List TermRow) → settle_before (fold (λ rows term. term_row term ∷ rows) rows terms) ≡ settle_before rows
settle_terms rows [] = refl
settle_terms rows (t ∷ terms) = settle_terms (term_row t ∷ rows) terms

settle_lines : (rows : List Row) (lines : List LineRow) → settle_before (fold rows_onto rows lines) ≡ settle_before rows
settle_lines rows [] = refl
settle_lines rows (l ∷ lines) = settle_lines (rows_onto rows l) lines ∙ settle_terms (line_row l.dx l.dy l.x l.y ∷ rows) l.terms

settle_asks : (rows : List Row) (asks : List AskRow) → settle_before (asks_onto rows asks) ≡ settle_before rows
settle_asks rows [] = refl
settle_asks rows (a ∷ asks) = settle_asks (ask_row a ∷ rows) asks

settle_asked : (vars : ℤ) (lines : List LineRow) (asks : List AskRow) (settle : Option ℕ) → ForSome settle (λ n. n ≤ length asks) → settle_before (settled_onto (lines_rows vars lines) asks settle) ≡ settle
settle_asked vars lines asks None within = settle_asks (lines_rows vars lines) asks ∙ settle_lines (vars_row vars ∷ scatter_row (pos 1) ∷ []) lines
settle_asked vars lines asks (Some n) within =
    let rows = lines_rows vars lines in
    let front = asks_back rows (take n asks) [] ∙ asks_lines (vars_row vars ∷ scatter_row (pos 1) ∷ []) lines (take n asks ++ []) ∙ append-nil (take n asks) in
    settle_asks (settle_row ∷ asks_onto rows (take n asks)) (drop n asks)
    ∙ ap (λ (before : List AskRow). Some (length before)) front
    ∙ ap Some (length-take-le n asks (within n refl))

file_settle : (file : TextFile) → settle_before (file_rows file) ≡ file.settle
file_settle file = settle_asked file.vars file.lines file.asks file.settle file.settled

pub file_is_one : {mode : TextMode} (bytes : List ℕ) (f g : TextFile) → IsTextIn mode bytes f → IsTextIn mode bytes g → (f.vars ≡ g.vars) × (f.lines ≡ g.lines) × (f.asks ≡ g.asks) × (f.settle ≡ g.settle)
file_is_one {mode = mode} bytes f g h k =
    let same : file_rows f ≡ file_rows g = one_rows mode [] h.lines k.lines (file_rows f) (file_rows g) h.are_good k.are_good (without_last h.lines k.lines [] (sym h.cut ∙ k.cut)) in (
      sym (file_vars f) ∙ ap vars_of same ∙ file_vars g,
      sym (file_lines f) ∙ ap (λ (rows : List Row). lines_before rows [] []) same ∙ file_lines g,
      sym (file_asks f) ∙ ap (λ (rows : List Row). asks_before rows []) same ∙ file_asks g,
      sym (file_settle f) ∙ ap settle_before same ∙ file_settle g,
    )

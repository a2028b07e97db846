-- The format of a text: the table of its words, what a line says, the tests of a line, and the first fault.
-- A text is cut at line feeds, a line at spaces. Rows that stand before a line are given with the last row first.
use Rattle.std.specs.Prelude.{◌≡◌, ◌≢◌, ℕ, ◌+◌, ◌<◌, ◌≤◌, ◌^◌, ◌⊎◌, ◌==◌, Bool, true, false, List, [], ◌∷◌, ◌++◌, length, take, drop, map, reverse, fold, flat_map, All, Contains, slice_get, Option, Some, None, ℤ, pos, nat_abs, ◌≤ℤ◌, codes}
use Rattle.std.specs.List.{slice_split, join_with_byte, AllByRecursion}
use Rattle.std.specs.Fmt.{signed_decimal}
use Rattle.frac_128.specs.Text.{fraction_text}
use Rattle.scatter_text.specs.Values.{AreCoprime, IsCoordinate, IsTermRow, AreAlike, HasAskValues}
use Rattle.scatter_text.specs.declared.file.Coordinate.{Coordinate}
use Rattle.scatter_text.specs.declared.file.TermRow.{TermRow}
use Rattle.scatter_text.specs.declared.file.LineRow.{LineRow}
use Rattle.scatter_text.specs.declared.file.AskKind.{AskKind}
use Rattle.scatter_text.specs.declared.file.AskKind.TheVariants as ask
use Rattle.scatter_text.specs.declared.file.AskRow.{AskRow}
use Rattle.scatter_text.specs.declared.file.TextFile.{TextFile}
use Rattle.scatter_text.specs.declared.fault.TextKind.{TextKind}
use Rattle.scatter_text.specs.declared.fault.TextKind.TheVariants.{Unfinished, Byte, Shape, Word, Count, Number, Value, Missing}
use Rattle.scatter_text.specs.declared.grammar.TextMode.{TextMode}
use Rattle.scatter_text.specs.declared.grammar.TextMode.TheVariants as modes
use Rattle.scatter_text.specs.declared.grammar.Keyword.{Keyword}
use Rattle.scatter_text.specs.declared.grammar.Keyword.TheVariants as keyword
use Rattle.scatter_text.specs.declared.grammar.RowForm.{RowForm}
use Rattle.scatter_text.specs.declared.grammar.RowForm.TheVariants as form
use Rattle.scatter_text.specs.declared.grammar.FixedWord.{FixedWord}
use Rattle.scatter_text.specs.declared.grammar.FixedWord.TheVariants.{At, Theta, Product, Order}
use Rattle.scatter_text.specs.declared.grammar.Slot.{Slot}
use Rattle.scatter_text.specs.declared.grammar.Slot.TheVariants as slot
use Rattle.scatter_text.specs.declared.grammar.Place.{Place}
use Rattle.scatter_text.specs.declared.grammar.Place.TheVariants.{Start, Version, Lines, Terms, Asks, After}
use Rattle.scatter_text.specs.declared.row.RowValue.{RowValue}
use Rattle.scatter_text.specs.declared.row.RowValue.TheVariants as value
use Rattle.scatter_text.specs.declared.row.Row.{Row}

-- ---- the table

abbrev pub word_of : Keyword → List ℕ
word_of keyword.Scatter = codes "scatter"
word_of keyword.Vars = codes "vars"
word_of keyword.Line = codes "line"
word_of keyword.Term = codes "term"
word_of keyword.Ask = codes "ask"
word_of keyword.Settle = codes "settle"
word_of keyword.End = codes "end"

-- the forms of a line that begins with the word
abbrev pub forms_of : Keyword → List RowForm
forms_of keyword.Scatter = form.Scatter ∷ []
forms_of keyword.Vars = form.Vars ∷ []
forms_of keyword.Line = form.Line ∷ []
forms_of keyword.Term = form.Term ∷ []
forms_of keyword.Ask = form.Theta ∷ form.ThetaWithOrder ∷ form.Product ∷ form.ProductWithOrder ∷ []
forms_of keyword.Settle = form.Settle ∷ []
forms_of keyword.End = form.End ∷ []

-- `at X Y`, and what follows
abbrev pub point_slots : List Slot → List Slot
point_slots more = slot.Fixed At ∷ slot.Coordinate ∷ slot.Coordinate ∷ more

-- `order L`
abbrev pub order_slots : List Slot
order_slots = slot.Fixed Order ∷ slot.Number ∷ []

-- `N theta A B`, and what follows
abbrev pub theta_slots : List Slot → List Slot
theta_slots more = slot.Number ∷ slot.Fixed Theta ∷ slot.Number ∷ slot.Number ∷ more

-- `N product A B C D`, and what follows
abbrev pub product_slots : List Slot → List Slot
product_slots more = slot.Number ∷ slot.Fixed Product ∷ slot.Number ∷ slot.Number ∷ slot.Number ∷ slot.Number ∷ more

-- what stands after the word, each in its slot
abbrev pub slots_of : RowForm → List Slot
slots_of form.Scatter = slot.Number ∷ []
slots_of form.Vars = slot.Number ∷ []
slots_of form.Line = slot.Number ∷ slot.Number ∷ point_slots []
slots_of form.Term = slot.Number ∷ slot.Number ∷ slot.Powers ∷ []
slots_of form.Theta = theta_slots (point_slots [])
slots_of form.ThetaWithOrder = theta_slots (point_slots order_slots)
slots_of form.Product = product_slots (point_slots [])
slots_of form.ProductWithOrder = product_slots (point_slots order_slots)
slots_of form.Settle = []
slots_of form.End = []

-- the place after a line
abbrev pub next_place : Keyword → Place
next_place keyword.Scatter = Version
next_place keyword.Vars = Lines
next_place keyword.Line = Terms
next_place keyword.Term = Terms
next_place keyword.Ask = Asks
next_place keyword.Settle = Asks
next_place keyword.End = After

-- the words of asks, which only a text with asks may have
abbrev pub ask_words : TextMode → List Keyword
ask_words modes.Lines = []
ask_words modes.Asks = keyword.Ask ∷ keyword.Settle ∷ []

-- the words that a line may begin with
abbrev pub words_at : TextMode → Place → List Keyword
words_at mode Start = keyword.Scatter ∷ []
words_at mode Version = keyword.Vars ∷ []
words_at mode Lines = keyword.Line ∷ keyword.End ∷ ask_words mode
words_at mode Terms = keyword.Term ∷ keyword.Line ∷ keyword.End ∷ ask_words mode
words_at mode Asks = keyword.End ∷ ask_words mode
words_at mode After = []

abbrev pub text_of_fixed : FixedWord → List ℕ
text_of_fixed At = codes "at"
text_of_fixed Theta = codes "theta"
text_of_fixed Product = codes "product"
text_of_fixed Order = codes "order"

-- the number of tokens in a slot
abbrev pub token_count : ℕ → Slot → ℕ
token_count variables (slot.Fixed word) = 1
token_count variables slot.Number = 1
token_count variables slot.Coordinate = 1
token_count variables slot.Powers = variables

-- ---- numbers and coordinates

-- at most 18 digits
abbrev pub IsShort : ℤ → Type 0
IsShort n = nat_abs n < 10 ^ 18

-- no sign but `-`, no leading zero
abbrev pub IsNumberText : List ℕ → Type 0
IsNumberText token = (n : ℤ) × IsShort n × (token ≡ signed_decimal n)

-- `P/Q` in lowest terms, and a number where Q is 1
abbrev pub coordinate_text : Coordinate → List ℕ
coordinate_text c = fraction_text c.num c.den

pub record IsShortCoordinate (c : Coordinate) : Type 0 where
  pub valid : IsCoordinate c
  pub num : IsShort c.num
  pub den : IsShort c.den

abbrev pub IsCoordinateText : List ℕ → Type 0
IsCoordinateText token = (c : Coordinate) × IsShortCoordinate c × (token ≡ coordinate_text c)

-- ---- the tokens of a line, by its slots

-- a fixed word is in its place
abbrev pub IsInPlace : Slot → List ℕ → Type 0
IsInPlace (slot.Fixed word) token = token ≡ text_of_fixed word
IsInPlace slot.Number token = Unit {0}
IsInPlace slot.Coordinate token = Unit {0}
IsInPlace slot.Powers token = Unit {0}

-- the token is spelled as its slot asks
abbrev pub IsSpelled : Slot → List ℕ → Type 0
IsSpelled (slot.Fixed word) token = Unit {0}
IsSpelled slot.Number token = IsNumberText token
IsSpelled slot.Coordinate token = IsCoordinateText token
IsSpelled slot.Powers token = IsNumberText token

-- as many tokens as the slots hold, and each fixed word in its place
abbrev pub HasForm : ℕ → List Slot → List (List ℕ) → Type 0
HasForm variables [] tokens = tokens ≡ []
HasForm variables (s ∷ slots) tokens = (token_count variables s ≤ length tokens) × All (IsInPlace s) (take (token_count variables s) tokens) × HasForm variables slots (drop (token_count variables s) tokens)

-- the tokens after the keyword have one of its forms
abbrev pub HasSomeForm : ℕ → Keyword → List (List ℕ) → Type 0
HasSomeForm variables k tokens = (f : RowForm) × Contains (forms_of k) f × HasForm variables (slots_of f) tokens

-- each token is spelled as its slot asks
abbrev pub AreSpelled : ℕ → List Slot → List (List ℕ) → Type 0
AreSpelled variables [] tokens = Unit {0}
AreSpelled variables (s ∷ slots) tokens = All (IsSpelled s) (take (token_count variables s) tokens) × AreSpelled variables slots (drop (token_count variables s) tokens)

-- the tokens after the keyword have one of its forms, and are spelled as that asks
abbrev pub AreSpelledAs : ℕ → Keyword → List (List ℕ) → Type 0
AreSpelledAs variables k tokens = (f : RowForm) × Contains (forms_of k) f × HasForm variables (slots_of f) tokens × AreSpelled variables (slots_of f) tokens

-- ---- rows: what a line says, a keyword and the values in its slots

abbrev pub slot_of : RowValue → Slot
slot_of (value.Fixed word) = slot.Fixed word
slot_of (value.Number n) = slot.Number
slot_of (value.Coordinate c) = slot.Coordinate
slot_of (value.Powers powers) = slot.Powers

abbrev pub value_tokens : RowValue → List (List ℕ)
value_tokens (value.Fixed word) = text_of_fixed word ∷ []
value_tokens (value.Number n) = signed_decimal n ∷ []
value_tokens (value.Coordinate c) = coordinate_text c ∷ []
value_tokens (value.Powers powers) = map signed_decimal powers

-- it can be spelled, and there are as many powers as variables
abbrev pub IsSpellable : ℕ → RowValue → Type 0
IsSpellable variables (value.Fixed word) = Unit {0}
IsSpellable variables (value.Number n) = IsShort n
IsSpellable variables (value.Coordinate c) = IsShortCoordinate c
IsSpellable variables (value.Powers powers) = (length powers ≡ variables) × All IsShort powers

-- the values fill the slots of a form of the keyword
pub record FillsSlots (variables : ℕ) (r : Row) : Type 0 where
  pub row_form : RowForm
  pub of_keyword : Contains (forms_of r.keyword) row_form
  pub slots : map slot_of r.values ≡ slots_of row_form
  pub spellable : All (IsSpellable variables) r.values

abbrev pub row_tokens : Row → List (List ℕ)
row_tokens r = word_of r.keyword ∷ flat_map value_tokens r.values

-- the number, the coordinate, the powers at a place among the values; 0 or none where another value stands there
abbrev pub as_number : Option RowValue → ℤ
as_number (Some (value.Number n)) = n
as_number other = pos 0

abbrev pub number_in : List RowValue → ℕ → ℤ
number_in values i = as_number (slice_get values i)

-- the same, and none where another value stands there
abbrev pub as_given : Option RowValue → Option ℤ
as_given (Some (value.Number n)) = Some n
as_given other = None

abbrev pub number_given : List RowValue → ℕ → Option ℤ
number_given values i = as_given (slice_get values i)

abbrev pub as_coordinate : Option RowValue → Coordinate
as_coordinate (Some (value.Coordinate c)) = c
as_coordinate other = record { num = pos 0; den = pos 1 }

abbrev pub coordinate_in : List RowValue → ℕ → Coordinate
coordinate_in values i = as_coordinate (slice_get values i)

abbrev pub as_powers : Option RowValue → List ℤ
as_powers (Some (value.Powers powers)) = powers
as_powers other = []

abbrev pub powers_in : List RowValue → ℕ → List ℤ
powers_in values i = as_powers (slice_get values i)

-- a row of each keyword
abbrev pub scatter_row : ℤ → Row
scatter_row version = record { keyword = keyword.Scatter; values = value.Number version ∷ [] }

abbrev pub vars_row : ℤ → Row
vars_row vars = record { keyword = keyword.Vars; values = value.Number vars ∷ [] }

abbrev pub line_row : ℤ → ℤ → Coordinate → Coordinate → Row
line_row dx dy x y = record { keyword = keyword.Line; values = value.Number dx ∷ value.Number dy ∷ value.Fixed At ∷ value.Coordinate x ∷ value.Coordinate y ∷ [] }

abbrev pub term_row : TermRow → Row
term_row term = record { keyword = keyword.Term; values = value.Number term.c ∷ value.Number term.j ∷ value.Powers term.powers ∷ [] }

-- `at X Y`, and what follows
abbrev pub point_values : Coordinate → Coordinate → List RowValue → List RowValue
point_values x y more = value.Fixed At ∷ value.Coordinate x ∷ value.Coordinate y ∷ more

-- `order L` where a least order is asked
abbrev pub order_values : Option ℤ → List RowValue
order_values None = []
order_values (Some order) = value.Fixed Order ∷ value.Number order ∷ []

-- `theta A B` or `product A B C D`, and what follows
abbrev pub kind_values : AskKind → List RowValue → List RowValue
kind_values (ask.Theta a b) more = value.Fixed Theta ∷ value.Number a ∷ value.Number b ∷ more
kind_values (ask.Product a b c d) more = value.Fixed Product ∷ value.Number a ∷ value.Number b ∷ value.Number c ∷ value.Number d ∷ more

abbrev pub ask_row : AskRow → Row
ask_row a = record { keyword = keyword.Ask; values = value.Number a.reader ∷ kind_values a.kind (point_values a.x a.y (order_values a.least)) }

abbrev pub settle_row : Row
settle_row = record { keyword = keyword.Settle; values = [] }

abbrev pub end_row : Row
end_row = record { keyword = keyword.End; values = [] }

-- the term that the values of its row say
abbrev pub term_said : List RowValue → TermRow
term_said values = record { c = number_in values 0; j = number_in values 1; powers = powers_in values 2 }

-- the line without terms that they say
abbrev pub line_said : List RowValue → LineRow
line_said values = record { dx = number_in values 0; dy = number_in values 1; x = coordinate_in values 3; y = coordinate_in values 4; terms = [] }

-- the ask that they say
abbrev pub theta_said : List RowValue → AskRow
theta_said values = record { reader = number_in values 0; kind = ask.Theta (number_in values 2) (number_in values 3); x = coordinate_in values 5; y = coordinate_in values 6; least = number_given values 8 }

abbrev pub product_said : List RowValue → AskRow
product_said values = record { reader = number_in values 0; kind = ask.Product (number_in values 2) (number_in values 3) (number_in values 4) (number_in values 5); x = coordinate_in values 7; y = coordinate_in values 8; least = number_given values 10 }

abbrev pub ask_by : Option RowValue → List RowValue → AskRow
ask_by (Some (value.Fixed Product)) values = product_said values
ask_by other values = theta_said values

abbrev pub ask_said : List RowValue → AskRow
ask_said values = ask_by (slice_get values 1) values

-- ---- what the rows before a line decide

abbrev pub place_after : List Row → Place
place_after [] = Start
place_after (last ∷ rows) = next_place last.keyword

-- what a line says of the number of variables, or else the lines before it
abbrev pub vars_by : Keyword → List RowValue → ℤ → ℤ
vars_by keyword.Vars values before = number_in values 0
vars_by other values before = before

abbrev pub vars_of : List Row → ℤ
vars_of [] = pos 0
vars_of (last ∷ rows) = vars_by last.keyword last.values (vars_of rows)

abbrev pub variables_of : List Row → ℕ
variables_of rows = nat_abs (vars_of rows)

-- the terms that stand on the same line of the diagram already
abbrev pub terms_by : Keyword → List RowValue → List TermRow → List TermRow
terms_by keyword.Term values before = term_said values ∷ before
terms_by other values before = []

abbrev pub terms_before : List Row → List TermRow
terms_before [] = []
terms_before (last ∷ rows) = terms_by last.keyword last.values (terms_before rows)

-- `settle` stands there already
abbrev pub settled_by : Keyword → Bool → Bool
settled_by keyword.Settle before = true
settled_by other before = before

abbrev pub is_settled : List Row → Bool
is_settled [] = false
is_settled (last ∷ rows) = settled_by last.keyword (is_settled rows)

-- ---- the tests of a line

abbrev pub tokens_of : List ℕ → List (List ℕ)
tokens_of line = slice_split (λ b. b == 32) line

-- the token is no word that is allowed there
abbrev pub BeginsNowhere : TextMode → Place → List ℕ → Type 0
BeginsNowhere mode place token = (k : Keyword) → Contains (words_at mode place) k → token ≡ word_of k → ⊥

-- the tokens begin with the keyword, which is allowed at the place
pub record BeginWith (mode : TextMode) (place : Place) (tokens : List (List ℕ)) (k : Keyword) : Type 0 where
  pub allowed : Contains (words_at mode place) k
  pub first : slice_get tokens 0 ≡ Some (word_of k)

-- no term of the same line of the diagram has its monomial
abbrev pub IsNewTerm : List Row → TermRow → Type 0
IsNewTerm before term = All (λ earlier. ¬ AreAlike earlier term) (terms_before before)

abbrev pub IsTermAfter : List Row → TermRow → Type 0
IsTermAfter before term = IsTermRow term × IsNewTerm before term

-- the rules on values
abbrev pub HasValues : List Row → Keyword → List RowValue → Type 0
HasValues before keyword.Scatter values = number_in values 0 ≡ pos 1
HasValues before keyword.Vars values = pos 1 ≤ℤ number_in values 0
HasValues before keyword.Line values = AreCoprime (nat_abs (number_in values 0)) (nat_abs (number_in values 1))
HasValues before keyword.Term values = IsTermAfter before (term_said values)
HasValues before keyword.Ask values = HasAskValues (ask_said values)
HasValues before keyword.Settle values = is_settled before ≡ false
HasValues before keyword.End values = Unit {0}

-- the line says this, and the rules on values hold
pub record Says (before : List Row) (line : List ℕ) (r : Row) : Type 0 where
  pub text : tokens_of line ≡ row_tokens r
  pub fills : FillsSlots (variables_of before) r
  pub values : HasValues before r.keyword r.values

-- the test of each kind
abbrev pub Passes : TextMode → List Row → List ℕ → TextKind → Type 0
Passes mode before line Byte = All (λ b. (32 ≤ b) × (b ≤ 126)) line
Passes mode before line Shape = All (λ token. token ≢ []) (tokens_of line)
Passes mode before line Word = (k : Keyword) × BeginWith mode (place_after before) (tokens_of line) k
Passes mode before line Count = (k : Keyword) × BeginWith mode (place_after before) (tokens_of line) k × HasSomeForm (variables_of before) k (drop 1 (tokens_of line))
Passes mode before line Number = (k : Keyword) × BeginWith mode (place_after before) (tokens_of line) k × AreSpelledAs (variables_of before) k (drop 1 (tokens_of line))
Passes mode before line Value = (r : Row) × Says before line r
Passes mode before line Unfinished = Unit {0}
Passes mode before line Missing = Unit {0}

-- the tests in their order
abbrev pub tests : List TextKind
tests = Byte ∷ Shape ∷ Word ∷ Count ∷ Number ∷ Value ∷ []

-- the first kind of the list whose test fails
abbrev pub IsFirstFailure : (TextKind → Type 0) → List TextKind → TextKind → Type 0
IsFirstFailure P [] kind = ⊥
IsFirstFailure P (k ∷ more) kind = ((¬ P k) × (kind ≡ k)) ⊎ (P k × IsFirstFailure P more kind)

abbrev pub IsBadLine : TextMode → List Row → List ℕ → TextKind → Type 0
IsBadLine mode before line kind = IsFirstFailure (Passes mode before line) tests kind

pub record IsGoodLine (mode : TextMode) (before : List Row) (line : List ℕ) (r : Row) : Type 0 where
  pub passes : AllByRecursion (Passes mode before line) tests
  pub says : Says before line r

-- the lines are good one after the other, after the rows before them; rows are then all rows, the last first
abbrev pub AreGood : TextMode → List Row → List (List ℕ) → List Row → Type 0
AreGood mode before [] rows = rows ≡ before
AreGood mode before (line ∷ lines) rows = (r : Row) × IsGoodLine mode before line r × AreGood mode (r ∷ before) lines rows

-- ---- whole texts

-- the pieces between line feeds: the lines, and what stands after the last line feed
abbrev pub pieces_of : List ℕ → List (List ℕ)
pieces_of bytes = slice_split (λ b. b == 10) bytes

-- what is wrong after good lines, where this stands after the last line feed
abbrev pub IsFaultAtEnd : List Row → List ℕ → TextKind → Type 0
IsFaultAtEnd rows last kind = ((last ≢ []) × (kind ≡ Unfinished)) ⊎ ((last ≡ []) × (place_after rows ≢ After) × (kind ≡ Missing))

-- the same, where these pieces are left
abbrev pub IsFaultAfter : TextMode → List Row → List (List ℕ) → TextKind → Type 0
IsFaultAfter mode rows [] kind = ⊥
IsFaultAfter mode rows (last ∷ []) kind = IsFaultAtEnd rows last kind
IsFaultAfter mode rows (line ∷ next ∷ more) kind = IsBadLine mode rows line kind

-- the first fault of a text: its line, counted from 1, and its kind
pub record IsFaultIn (mode : TextMode) (bytes : List ℕ) (line : ℕ) (kind : TextKind) : Type 0 where
  pub good : List (List ℕ)
  pub rest : List (List ℕ)
  pub rows : List Row
  pub cut : pieces_of bytes ≡ good ++ rest
  pub are_good : AreGood mode [] good rows
  pub fault : IsFaultAfter mode rows rest kind
  pub number : line ≡ length good + 1

-- the rows of a line and its terms, on top of those before
abbrev pub rows_onto : List Row → LineRow → List Row
rows_onto before l = fold (λ rows term. term_row term ∷ rows) (line_row l.dx l.dy l.x l.y ∷ before) l.terms

-- the rows of all lines
abbrev pub lines_rows : ℤ → List LineRow → List Row
lines_rows vars lines = fold rows_onto (vars_row vars ∷ scatter_row (pos 1) ∷ []) lines

-- the rows of asks, on top of those before
abbrev pub asks_onto : List Row → List AskRow → List Row
asks_onto before asks = fold (λ rows a. ask_row a ∷ rows) before asks

-- and `settle` after so many of them
abbrev pub settled_onto : List Row → List AskRow → Option ℕ → List Row
settled_onto before asks None = asks_onto before asks
settled_onto before asks (Some n) = asks_onto (settle_row ∷ asks_onto before (take n asks)) (drop n asks)

-- the rows of a file, the last first
abbrev pub file_rows : TextFile → List Row
file_rows file = end_row ∷ settled_onto (lines_rows file.vars file.lines) file.asks file.settle

-- all lines are good, end with a line feed, and say what is in the file
pub record IsTextIn (mode : TextMode) (bytes : List ℕ) (file : TextFile) : Type 0 where
  pub lines : List (List ℕ)
  pub cut : pieces_of bytes ≡ lines ++ [] ∷ []
  pub are_good : AreGood mode [] lines (file_rows file)

-- the same of a text without asks
abbrev pub IsTextOf : List ℕ → TextFile → Type 0
IsTextOf bytes file = IsTextIn modes.Lines bytes file

abbrev pub IsTextFault : List ℕ → ℕ → TextKind → Type 0
IsTextFault bytes line kind = IsFaultIn modes.Lines bytes line kind

-- the one text of a file
abbrev pub file_text : TextFile → List ℕ
file_text file = flat_map (λ r. join_with_byte 32 (row_tokens r) ++ 10 ∷ []) (reverse (file_rows file))

-- ---- the printed words

abbrev pub kind_word : TextKind → List ℕ
kind_word Unfinished = codes "unfinished"
kind_word Byte = codes "byte"
kind_word Shape = codes "shape"
kind_word Word = codes "word"
kind_word Count = codes "count"
kind_word Number = codes "number"
kind_word Value = codes "value"
kind_word Missing = codes "missing"

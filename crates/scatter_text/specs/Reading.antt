-- What the parts of the reader say of each other.
use Rattle.std.specs.Prelude.{◌≡◌, ℕ, List, ℤ, All, Contains, map, flat_map, drop, length, Result, Err}
use Rattle.std.specs.Fmt.{signed_decimal}
use Rattle.scatter_text.specs.declared.file.Coordinate.{Coordinate}
use Rattle.scatter_text.specs.declared.fault.TextKind.{TextKind}
use Rattle.scatter_text.specs.declared.fault.TextKind.TheVariants.{Unfinished, Byte, Shape, Word, Count, Number, Value, Missing}
use Rattle.scatter_text.specs.declared.line.LineFault.{LineFault}
use Rattle.scatter_text.specs.declared.line.LineFault.TheVariants.{Bad}
use Rattle.scatter_text.specs.declared.grammar.TextMode.{TextMode}
use Rattle.scatter_text.specs.declared.grammar.Place.{Place}
use Rattle.scatter_text.specs.declared.grammar.Keyword.{Keyword}
use Rattle.scatter_text.specs.declared.grammar.RowForm.{RowForm}
use Rattle.scatter_text.specs.declared.grammar.Slot.{Slot}
use Rattle.scatter_text.specs.declared.row.RowValue.{RowValue}
use Rattle.scatter_text.specs.declared.row.Row.{Row}
use Rattle.scatter_text.specs.Grammar.{IsShort, IsShortCoordinate, coordinate_text, BeginWith, forms_of, slots_of, token_count, IsInPlace, HasForm, HasSomeForm, AreSpelled, slot_of, value_tokens, IsSpellable, FillsSlots, row_tokens, place_after, words_at, tokens_of, Passes, variables_of, IsBadLine}

-- a form of the keyword that the tokens after it have
pub record IsFormOf (variables : ℕ) (k : Keyword) (tokens : List (List ℕ)) (f : RowForm) : Type 0 where
  pub of_keyword : Contains (forms_of k) f
  pub has : HasForm variables (slots_of f) tokens

-- what a token spells
abbrev pub IsNumberOf : List ℕ → ℤ → Type 0
IsNumberOf token n = IsShort n × (token ≡ signed_decimal n)

abbrev pub IsCoordinateOf : List ℕ → Coordinate → Type 0
IsCoordinateOf token c = IsShortCoordinate c × (token ≡ coordinate_text c)

abbrev pub AreNumbersOf : List (List ℕ) → List ℤ → Type 0
AreNumbersOf tokens ns = All IsShort ns × (tokens ≡ map signed_decimal ns)

-- both numbers of a fraction can be spelled
abbrev pub AreShort : ℤ → ℤ → Type 0
AreShort num den = IsShort num × IsShort den

-- the coordinate of these numbers
pub record IsShortPair (num den : ℤ) (c : Coordinate) : Type 0 where
  pub short : AreShort num den
  pub first : c.num ≡ num
  pub second : c.den ≡ den

-- the tokens of one slot, fixed words in their place
pub record AreOfSlot (variables : ℕ) (s : Slot) (tokens : List (List ℕ)) : Type 0 where
  pub count : length tokens ≡ token_count variables s
  pub in_place : All (IsInPlace s) tokens

-- what the tokens of a slot say
pub record IsValueOf (variables : ℕ) (s : Slot) (tokens : List (List ℕ)) (v : RowValue) : Type 0 where
  pub slot : slot_of v ≡ s
  pub spellable : IsSpellable variables v
  pub text : tokens ≡ value_tokens v

-- what the tokens of slots say
pub record AreValuesOf (variables : ℕ) (slots : List Slot) (tokens : List (List ℕ)) (values : List RowValue) : Type 0 where
  pub fill : map slot_of values ≡ slots
  pub spellable : All (IsSpellable variables) values
  pub text : tokens ≡ flat_map value_tokens values

-- a line that passes all tests but that of the rules on values
pub record IsUnvaluedLine (mode : TextMode) (before : List Row) (line : List ℕ) (r : Row) : Type 0 where
  pub byte : Passes mode before line Byte
  pub shape : Passes mode before line Shape
  pub word : Passes mode before line Word
  pub count : Passes mode before line Count
  pub number : Passes mode before line Number
  pub allowed : Contains (words_at mode (place_after before)) r.keyword
  pub text : tokens_of line ≡ row_tokens r
  pub fills : FillsSlots (variables_of before) r

-- after any rows that lead to the place, with that number of variables
abbrev pub IsUnvaluedAt : TextMode → Place → ℕ → List ℕ → Row → Type 0
IsUnvaluedAt mode place variables line r = (before : List Row) → place_after before ≡ place → variables_of before ≡ variables → IsUnvaluedLine mode before line r

abbrev pub IsBadAt : TextMode → Place → ℕ → List ℕ → TextKind → Type 0
IsBadAt mode place variables line kind = (before : List Row) → place_after before ≡ place → variables_of before ≡ variables → IsBadLine mode before line kind

-- a kind of fault has this cause
abbrev pub IfBad : {T : Type 0} → Result T LineFault → (TextKind → Type 0) → Type 0
IfBad r P = (kind : TextKind) → r ≡ Err (Bad kind) → P kind

-- what the tokens of a line say, but for the rules on values
pub record Say (mode : TextMode) (place : Place) (variables : ℕ) (tokens : List (List ℕ)) (r : Row) : Type 0 where
  pub begins : BeginWith mode place tokens r.keyword
  pub row_form : RowForm
  pub has : IsFormOf variables r.keyword (drop 1 tokens) row_form
  pub says : AreValuesOf variables (slots_of row_form) (drop 1 tokens) r.values

-- which test of the tokens fails
abbrev pub AreBadTokens : TextMode → Place → ℕ → List (List ℕ) → TextKind → Type 0
AreBadTokens mode place variables tokens Unfinished = ⊥
AreBadTokens mode place variables tokens Byte = ⊥
AreBadTokens mode place variables tokens Shape = ⊥
AreBadTokens mode place variables tokens Word = (k : Keyword) → BeginWith mode place tokens k → ⊥
AreBadTokens mode place variables tokens Count = (k : Keyword) × BeginWith mode place tokens k × (¬ HasSomeForm variables k (drop 1 tokens))
AreBadTokens mode place variables tokens Number = (k : Keyword) × BeginWith mode place tokens k × (f : RowForm) × IsFormOf variables k (drop 1 tokens) f × (¬ AreSpelled variables (slots_of f) (drop 1 tokens))
AreBadTokens mode place variables tokens Value = ⊥
AreBadTokens mode place variables tokens Missing = ⊥

-- The rows that a stage of the reader stands for, the last first.
use Rattle.std.specs.Prelude.{◌≡◌, ℕ, List, [], ◌∷◌, ℤ, pos, Contains}
use Rattle.scatter_text.specs.declared.grammar.TextMode.{TextMode}
use Rattle.scatter_text.specs.declared.grammar.TextMode.TheVariants as modes
use Rattle.scatter_text.specs.declared.grammar.Place.{Place}
use Rattle.scatter_text.specs.declared.grammar.Place.TheVariants.{Asks}
use Rattle.scatter_text.specs.declared.ask_list.AskList.{AskList}
use Rattle.scatter_text.specs.declared.file.LineRow.{LineRow}
use Rattle.scatter_text.specs.declared.row.Row.{Row}
use Rattle.scatter_text.specs.declared.stage.Stage.{Stage}
use Rattle.scatter_text.specs.declared.stage.Stage.TheVariants.{Start, Version, Head, Body, Asking, Whole}
use Rattle.scatter_text.specs.Grammar.{scatter_row, vars_row, end_row, rows_onto, lines_rows, settled_onto, words_at, place_after, variables_of, FillsSlots, HasValues, IsGoodLine, AreGood}

abbrev pub head_rows : ℤ → List Row
head_rows vars = vars_row vars ∷ scatter_row (pos 1) ∷ []

abbrev pub asks_rows : ℤ → List LineRow → AskList → List Row
asks_rows vars lines asks = settled_onto (lines_rows vars lines) asks.asks.items asks.settle

abbrev pub rows_of : Stage → List Row
rows_of Start = []
rows_of Version = scatter_row (pos 1) ∷ []
rows_of (Head vars) = head_rows vars
rows_of (Body vars lines last) = rows_onto (lines_rows vars lines.items) last.row
rows_of (Asking vars lines asks) = asks_rows vars lines.items asks.list
rows_of (Whole vars lines asks) = end_row ∷ asks_rows vars lines.items asks

-- more is the rows before and that of a good line
pub record Follows (mode : TextMode) (before : List Row) (line : List ℕ) (more : List Row) : Type 0 where
  pub last : Row
  pub good : IsGoodLine mode before line last
  pub is : more ≡ last ∷ before

-- the rows of good lines, in some mode
abbrev pub AreRead : List Row → Type 0
AreRead rows = (mode : TextMode) × (lines : List (List ℕ)) × AreGood mode [] lines rows

-- the row may follow where a text may have asks, if it may stand at the place
pub record CanStand (at : Place) (before : List Row) (r : Row) : Type 0 where
  pub allowed : Contains (words_at modes.Asks at) r.keyword
  pub fills : FillsSlots (variables_of before) r
  pub values : HasValues before r.keyword r.values

-- it may follow at the place after the rows before
abbrev pub CanFollow : List Row → Row → Type 0
CanFollow before r = CanStand (place_after before) before r

-- it may follow where all lines have been said
abbrev pub CanEnd : List Row → Row → Type 0
CanEnd before r = CanStand Asks before r

-- The JSON form of a diagram's lines: what a value of it says. A value is as `serde_json` states it: an object has each of its
-- keys once.
use Rattle.std.specs.Prelude.{◌≡◌, ℕ, ℤ, pos, List, [], ◌∷◌, length, Option, Some, None, option_map, option_and_then, codes, ◌⊎◌}
use Rattle.std.specs.List.{AllZip, AllByRecursion}
use Rattle.std.specs.Str.{IsUtf8}
use Rattle.std.specs.Fmt.{signed_decimal}
use Rattle.serde_json.specs.Data.{Data}
use Rattle.serde_json.specs.Read.{read}
use Rattle.serde_json.specs.Find.{as_i64, as_number, as_str, as_array, as_object, get}
use Rattle.serde_json.specs.Events.{members_len}
use Rattle.serde_json.specs.View.{items_of}
use Rattle.scatter_text.specs.Grammar.{IsShort, IsShortCoordinate, coordinate_text}
use Rattle.scatter_text.specs.declared.file.Coordinate.{Coordinate}
use Rattle.scatter_text.specs.declared.file.TermRow.{TermRow}
use Rattle.scatter_text.specs.declared.file.LineRow.{LineRow}
use Rattle.scatter_text.specs.declared.file.TextFile.{TextFile}
use Rattle.scatter_json.specs.declared.fault.JsonKind.{JsonKind}
use Rattle.scatter_json.specs.declared.fault.JsonKind.TheVariants.{Syntax, Shape}

-- ---- the parts of a value

-- a whole number of at most 18 digits, which the value holds as an integer
pub record SaysWhole (d : Data) (n : ℤ) : Type 0 where
  pub holds : option_and_then as_i64 (as_number d) ≡ Some n
  pub short : IsShort n

-- a text that spells the number
pub record IsNumber (d : Data) (n : ℤ) : Type 0 where
  pub spells : as_str d ≡ Some (signed_decimal n)
  pub short : IsShort n

-- a text that spells the coordinate
pub record SaysCoordinate (d : Data) (c : Coordinate) : Type 0 where
  pub spells : as_str d ≡ Some (coordinate_text c)
  pub short : IsShortCoordinate c

-- an array of these items
abbrev pub IsArray : Data → List Data → Type 0
IsArray d items = as_array d ≡ Some (items_of items)

-- an array whose items say these, one each
pub record IsArrayOf {X : Type 0} (Says : Data → X → Type 0) (d : Data) (xs : List X) : Type 0 where
  pub items : List Data
  pub array : IsArray d items
  pub each : AllZip Says items xs

-- an object with these members and no other
pub record HasMembers (d : Data) (members : List (List ℕ × Data)) : Type 0 where
  pub count : option_map members_len (as_object d) ≡ Some (length members)
  pub each : AllByRecursion (λ m. get m.0 d ≡ Some m.1) members

-- ---- the form

-- `[C, J, [A1, .., AR]]`
pub record SaysTerm (d : Data) (t : TermRow) : Type 0 where
  pub c : Data
  pub j : Data
  pub powers : Data
  pub array : IsArray d (c ∷ j ∷ powers ∷ [])
  pub coefficient : IsNumber c t.c
  pub multiple : SaysWhole j t.j
  pub exponents : IsArrayOf SaysWhole powers t.powers

-- `{"at": [X, Y], "dir": [DX, DY], "terms": [..]}`
pub record SaysLine (d : Data) (l : LineRow) : Type 0 where
  pub at : Data
  pub dir : Data
  pub terms : Data
  pub members : HasMembers d ((codes "at", at) ∷ (codes "dir", dir) ∷ (codes "terms", terms) ∷ [])
  pub point : IsArrayOf SaysCoordinate at (l.x ∷ l.y ∷ [])
  pub direction : IsArrayOf SaysWhole dir (l.dx ∷ l.dy ∷ [])
  pub function : IsArrayOf SaysTerm terms l.terms

-- `{"lines": [..], "scatter": 1, "vars": R}`; the rules on values hold of every file
pub record IsFile (d : Data) (file : TextFile) : Type 0 where
  pub lines : Data
  pub scatter : Data
  pub vars : Data
  pub members : HasMembers d ((codes "lines", lines) ∷ (codes "scatter", scatter) ∷ (codes "vars", vars) ∷ [])
  pub version : SaysWhole scatter (pos 1)
  pub variables : SaysWhole vars file.vars
  pub rows : IsArrayOf SaysLine lines file.lines
  pub no_ask : file.asks ≡ []
  pub no_settle : file.settle ≡ None

-- ---- whole texts

-- the bytes are the text of a value that says the file
pub record IsJsonOf (bytes : List ℕ) (file : TextFile) : Type 0 where
  pub utf8 : IsUtf8 bytes
  pub value : Data
  pub reads : read bytes ≡ Some value
  pub says : IsFile value file

-- they are the text of a value that says no file
pub record IsShapeFault (bytes : List ℕ) : Type 0 where
  pub utf8 : IsUtf8 bytes
  pub value : Data
  pub reads : read bytes ≡ Some value
  pub says_none : (file : TextFile) → IsFile value file → ⊥

-- they are the text of no value
abbrev pub IsSyntaxFault : List ℕ → Type 0
IsSyntaxFault bytes = (¬ IsUtf8 bytes) ⊎ (read bytes ≡ None)

abbrev pub IsJsonFault : List ℕ → JsonKind → Type 0
IsJsonFault bytes Syntax = IsSyntaxFault bytes
IsJsonFault bytes Shape = IsShapeFault bytes

-- ---- the printed words

abbrev pub json_word : JsonKind → List ℕ
json_word Syntax = codes "syntax"
json_word Shape = codes "shape"

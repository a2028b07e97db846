-- What is printed of a wall: its heading, and its rows, which are its function's terms in x = z^d for the direction d.
--     row_of                   the row that the program has
--     row_order                how two rows stand
--     AreAlong d rows f        f are the rows' terms, with z^d for x
--     IsHeading                the heading of a wall
--     IsRatioText              the spelling of x/w
--     Continues, ContinuesSome, ContinuesRatio        by what a text is continued
use Rattle.std.specs.Prelude.{◌≡◌, ℕ, cond, List, [], ◌∷◌, ◌++◌, map, ℤ, String, string_bytes}
use Rattle.std.specs.declared.cmp.Ordering.{Ordering}
use Rattle.std.specs.declared.cmp.Ordering.TheVariants.{Less, Equal, Greater}
use Rattle.scattering.specs.Collections.{Every}
use Rattle.scattering.specs.Series.{Exp, Term, Sum, rest, IsMultiple}
use Rattle.scattering.specs.Plane.{Point}
use Rattle.trunc_series.specs.Shown.{powers_of}
use Rattle.scatter_text.specs.DiagramText.{Row, row_before, row_term, IsRatioOf, heading_text}
use Rattle.scatter_text.specs.Grammar.{coordinate_text}
use Rattle.scatter_text.specs.declared.along.PrintedRow.{PrintedRow}
use Rattle.scatter_text.specs.declared.file.Coordinate.{Coordinate}

-- the text is continued by this piece
abbrev pub Continues : {Y : Type 0} → String Y → String Y → List ℕ → Type 0
Continues old new piece = string_bytes new ≡ string_bytes old ++ piece

-- the text is continued by such a piece
abbrev pub ContinuesSome : {Y : Type 0} → String Y → String Y → (List ℕ → Type 0) → Type 0
ContinuesSome old new P = (piece : List ℕ) × P piece × Continues old new piece

-- x/w in lowest terms
abbrev pub IsRatioText : ℤ → ℤ → List ℕ → Type 0
IsRatioText x w text = (q : Coordinate) × IsRatioOf x w q × (text ≡ coordinate_text q)

-- the text is continued by a space and x/w in lowest terms
abbrev pub ContinuesRatio : {Y : Type 0} → String Y → String Y → ℤ → ℤ → Type 0
ContinuesRatio old new x w = (q : Coordinate) × IsRatioOf x w q × Continues old new (32 ∷ coordinate_text q)

abbrev pub row_of : PrintedRow → Row
row_of r = record { c = r.c; j = r.j; powers = powers_of r.powers }

-- how two rows stand
abbrev pub row_order : Row → Row → Ordering
row_order r s = cond (row_before r s) Less (cond (row_before s r) Greater Equal)

abbrev pub printed_order : PrintedRow → PrintedRow → Ordering
printed_order r s = row_order (row_of r) (row_of s)

-- f are the rows' terms, in their order
abbrev pub AreAlong : Exp → List Row → Sum → Type 0
AreAlong d rows f = map (row_term d) rows ≡ f

-- the exponents of f's terms other than 1 are positive multiples of d
abbrev pub AreMultiples : Exp → Sum → Type 0
AreMultiples d f = Every (λ t. IsMultiple d t.0.exp) (rest f)

-- the new rows are the old ones and that of a term more, unless the term is 1
abbrev pub IsAlongMore : Exp → List Row → List Row → Term → Type 0
IsAlongMore d old new t = map (row_term d) new ≡ map (row_term d) old ++ rest (t ∷ [])

-- the heading of a wall at p in direction d
abbrev pub IsHeading : List ℕ → Exp → Point → List ℕ → Type 0
IsHeading word d p text = (x y : Coordinate) × IsRatioOf p.x p.w x × IsRatioOf p.y p.w y × (text ≡ heading_text word d x y)

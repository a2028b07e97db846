-- The text of a completed diagram, which ends with the cause where the computation stopped before its order.
use Rattle.std.specs.Prelude.{◌≡◌, ◌≢◌, ℕ, ◌==◌, nat_lt, Bool, ◌&&◌, ◌||◌, IsTrue, List, [], ◌∷◌, ◌++◌, map, flat_map, ℤ, pos, codes, decimal, take, Option, Some, None}
use Rattle.std.specs.Fmt.{signed_decimal}
use Rattle.std.specs.List.{join_with_byte}
use Rattle.scattering.specs.Collections.{Every, EveryPair}
use Rattle.scattering.specs.Series.{Exp, Powers, Term, scale, rest, Same, powers_before}
use Rattle.scattering.specs.Wall.{Wall, Diagram}
use Rattle.scattering.specs.Stops.{StopCause, PointTooLarge, WeightTooLarge, TooManyWalls}
use Rattle.scatter_text.specs.declared.file.Coordinate.{Coordinate}
use Rattle.frac_128.specs.Quotient.{AreEqual}
use Rattle.scatter_text.specs.Values.{IsCoordinate}
use Rattle.scatter_text.specs.Grammar.{coordinate_text}

-- the tokens with one space between them, and a line feed
abbrev pub line_of : List (List ℕ) → List ℕ
line_of tokens = join_with_byte 32 tokens ++ 10 ∷ []

-- ---- a wall

-- q is x/w in lowest terms
pub record IsRatioOf (x w : ℤ) (q : Coordinate) : Type 0 where
  pub coordinate : IsCoordinate q
  pub same : AreEqual q.num q.den x w

-- the term c·t^P·z^(j·m) of a wall function of direction m
pub record Row : Type 0 where
  pub c : ℤ
  pub j : ℕ
  pub powers : Powers

-- by j, then by the powers
abbrev pub row_before : Row → Row → Bool
row_before r s = nat_lt r.j s.j || ((r.j == s.j) && powers_before r.powers s.powers)

abbrev pub row_term : Exp → Row → Term
row_term d r = (record { powers = r.powers; exp = scale (pos r.j) d }, r.c)

-- the rows are the function's terms other than 1, in order
pub record AreRows (w : Wall) (rows : List Row) : Type 0 where
  pub rises : EveryPair (λ r s. IsTrue (row_before r s)) rows
  pub nonzero : Every (λ r. r.c ≢ pos 0) rows
  pub same : Same (map (row_term w.dir) rows) (rest w.function)

-- the powers of the first variables
abbrev pub first_powers : ℕ → Powers → List ℕ
first_powers vars p = take vars (p.t1 ∷ p.t2 ∷ p.t3 ∷ p.t4 ∷ p.t5 ∷ p.t6 ∷ p.t7 ∷ p.t8 ∷ [])

-- `term C J P1 .. PR`
abbrev pub row_text : ℕ → Row → List ℕ
row_text vars r = line_of (codes "term" ∷ signed_decimal r.c ∷ decimal r.j ∷ map decimal (first_powers vars r.powers))

-- `WORD DX DY at X Y`
abbrev pub heading_text : List ℕ → Exp → Coordinate → Coordinate → List ℕ
heading_text word d x y = line_of (word ∷ signed_decimal d.a ∷ signed_decimal d.b ∷ codes "at" ∷ coordinate_text x ∷ coordinate_text y ∷ [])

-- the text of a wall under this word: the heading, and its rows
abbrev pub IsWallText : List ℕ → ℕ → Wall → List ℕ → Type 0
IsWallText word vars w text = (x y : Coordinate) × (rows : List Row) × IsRatioOf w.at.x w.at.w x × IsRatioOf w.at.y w.at.w y × AreRows w rows
    × (text ≡ heading_text word w.dir x y ++ flat_map (row_text vars) rows)

-- the texts of the walls, one after the other
abbrev pub AreWallTexts : List ℕ → ℕ → List Wall → List ℕ → Type 0
AreWallTexts word vars [] text = text ≡ []
AreWallTexts word vars (w ∷ ws) text = (first later : List ℕ) × IsWallText word vars w first × AreWallTexts word vars ws later × (text ≡ first ++ later)

-- ---- a diagram

abbrev pub opening_text : ℕ → ℕ → List ℕ
opening_text vars order = line_of (codes "scatter" ∷ codes "1" ∷ []) ++ line_of (codes "vars" ∷ decimal vars ∷ []) ++ line_of (codes "order" ∷ decimal order ∷ [])

abbrev pub cause_word : StopCause → List ℕ
cause_word PointTooLarge = codes "points"
cause_word WeightTooLarge = codes "weights"
cause_word TooManyWalls = codes "walls"

-- `end`, or `stopped J CAUSE` where order J was stopped
abbrev pub closing_text : Option (ℕ × StopCause) → List ℕ
closing_text None = line_of (codes "end" ∷ [])
closing_text (Some (order, cause)) = line_of (codes "stopped" ∷ decimal order ∷ cause_word cause ∷ [])

-- the text of a diagram that is completed to this order, and of what stopped a later order
abbrev pub IsDiagramText : ℕ → ℕ → Diagram → Option (ℕ × StopCause) → List ℕ → Type 0
IsDiagramText vars order e stop text = (lines rays : List ℕ) × AreWallTexts (codes "line") vars e.initial lines × AreWallTexts (codes "ray") vars e.rays rays
    × (text ≡ opening_text vars order ++ lines ++ rays ++ closing_text stop)

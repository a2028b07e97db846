-- The text of a diagram is one, and so are the walls that the lines of a file stand for.
use Rattle.std.proofs.Common.{◌≡◌, ℕ, suc, refl, sym, ◌∙◌, List, [], ◌∷◌, ◌++◌, arith}
use Rattle.std.specs.Prelude.{ℤ, pos, ◌≤ℤ◌, flat_map, codes, Option}
use Rattle.std.specs.List.{AllZip}
use Rattle.scattering.specs.Collections.{Every}
use Rattle.scattering.specs.Wall.{Wall, IsWall, Diagram, walls}
use Rattle.scattering.specs.Stops.{StopCause}
use Rattle.scattering.proofs.Lists.{Every-left, Every-right}
use Rattle.plane_theory.proofs.LowestTerms.{same-point}
use Rattle.plane_theory.proofs.Directions.{direction-not_origin}
use Rattle.frac_128.proofs.Lowest.{lowest-unique, across}
use Rattle.scatter_text.specs.declared.file.Coordinate.{Coordinate}
use Rattle.scatter_text.specs.declared.file.LineRow.{LineRow}
use Rattle.scatter_text.specs.Values.{IsLine, AreLineRows}
use Rattle.scatter_text.specs.DiagramText.{IsRatioOf, IsWallText, AreWallTexts, IsDiagramText, row_text, heading_text, opening_text, closing_text}
use Rattle.scatter_text.specs.GivenWalls.{IsWallOf}
use Rattle.scatter_text.proofs.OneRows.{rows-unique}

wall-one : (row : LineRow) (w u : Wall) → pos 1 ≤ℤ row.x.den → pos 1 ≤ℤ row.y.den → IsWallOf row w → IsWallOf row u → w ≡ u
wall-one row w u hx hy a b =
    let p : w.at ≡ u.at = same-point w.at u.at a.point b.point (across w.at.x w.at.w u.at.x u.at.w row.x.num row.x.den hx a.x b.x) (across w.at.y w.at.w u.at.y u.at.w row.y.num row.y.den hy a.y b.y) in
    let k = a.kind ∙ sym b.kind in
    let d = a.direction ∙ sym b.direction in
    let f = a.function ∙ sym b.function in
    λ i. record { kind = k i; at = p i; dir = d i; function = f i }

pub walls-one : (vars : ℤ) (rows : List LineRow) (ws us : List Wall) → AreLineRows vars rows → AllZip IsWallOf rows ws → AllZip IsWallOf rows us → ws ≡ us
walls-one vars [] [] [] h a b = refl
walls-one vars [] [] (u ∷ us) h a b = absurd b
walls-one vars [] (w ∷ ws) us h a b = absurd a
walls-one vars (row ∷ rows) [] us h a b = absurd a
walls-one vars (row ∷ rows) (w ∷ ws) [] h a b = absurd b
walls-one vars (row ∷ rows) (w ∷ ws) (u ∷ us) h a b =
    let line : IsLine vars row = h 0 row (omega arith) in
    let e : w ≡ u = wall-one row w u line.x.positive line.y.positive a.0 b.0 in
    let t : ws ≡ us = walls-one vars rows ws us (λ k d l. h (suc k) d (omega (arith, l))) a.1 b.1 in
    λ i. e i ∷ t i

-- ---- texts

pub coordinate-one : (x w : ℤ) (q r : Coordinate) → pos 1 ≤ℤ w → IsRatioOf x w q → IsRatioOf x w r → q ≡ r
coordinate-one x w q r h a b =
    let n = lowest-unique q.num q.den r.num r.den a.coordinate b.coordinate (across q.num q.den r.num r.den x w h a.same b.same) in
    λ i. record { num = n.num i; den = n.den i }

wall_text-one : (word : List ℕ) (vars n : ℕ) (w : Wall) (text other : List ℕ) → IsWall n w → IsWallText word vars w text → IsWallText word vars w other → text ≡ other
wall_text-one word vars n w text other h (x, y, rows, hx, hy, are, is) (x', y', rows', hx', hy', are', is') =
    let ex : x ≡ x' = coordinate-one w.at.x w.at.w x x' h.point.below hx hx' in
    let ey : y ≡ y' = coordinate-one w.at.y w.at.w y y' h.point.below hy hy' in
    let er : rows ≡ rows' = rows-unique w rows rows' (direction-not_origin w.dir h.direction) are are' in
    is ∙ (λ i. heading_text word w.dir (ex i) (ey i) ++ flat_map (row_text vars) (er i)) ∙ sym is'

wall_texts-one : (word : List ℕ) (vars n : ℕ) (ws : List Wall) (text other : List ℕ) → Every (IsWall n) ws → AreWallTexts word vars ws text → AreWallTexts word vars ws other → text ≡ other
wall_texts-one word vars n [] text other h a b = a ∙ sym b
wall_texts-one word vars n (w ∷ ws) text other h (first, later, one, more, is) (first', later', one', more', is') =
    let e : first ≡ first' = wall_text-one word vars n w first first' h.0 one one' in
    let f : later ≡ later' = wall_texts-one word vars n ws later later' h.1 more more' in
    is ∙ (λ i. e i ++ f i) ∙ sym is'

pub text-one : (vars order n : ℕ) (e : Diagram) (stop : Option (ℕ × StopCause)) (text other : List ℕ) → Every (IsWall n) (walls e)
    → IsDiagramText vars order e stop text → IsDiagramText vars order e stop other → text ≡ other
text-one vars order n e stop text other h (lines, rays, a, b, is) (lines', rays', a', b', is') =
    let f : lines ≡ lines' = wall_texts-one (codes "line") vars n e.initial lines lines' (Every-left (IsWall n) e.initial e.rays h) a a' in
    let g : rays ≡ rays' = wall_texts-one (codes "ray") vars n e.rays rays rays' (Every-right (IsWall n) e.initial e.rays h) b b' in
    is ∙ (λ i. opening_text vars order ++ f i ++ g i ++ closing_text stop) ∙ sym is'

-- A JSON text has one fault, and the JSON text of a diagram is one.
use Rattle.std.proofs.Common.{◌≡◌, ℕ, refl, inl, inr, List, [], ◌∷◌, ◌++◌, map, ap, sym, ◌∙◌}
use Rattle.std.specs.Prelude.{Option, Some, None}
use Rattle.std.specs.List.{AllZip}
use Rattle.serde_json.specs.Data.{Data}
use Rattle.serde_json.specs.Written.{compact_text}
use Rattle.scattering.specs.Collections.{Every}
use Rattle.scattering.specs.Wall.{Wall, IsWall, Diagram, walls}
use Rattle.scattering.specs.Stops.{StopCause}
use Rattle.scattering.proofs.Lists.{Every-left, Every-right}
use Rattle.plane_theory.proofs.Directions.{direction-not_origin}
use Rattle.scatter_text.proofs.OneRows.{rows-unique}
use Rattle.scatter_text.proofs.OneDiagramText.{coordinate-one}
use Rattle.scatter_json.specs.declared.fault.JsonKind.{JsonKind}
use Rattle.scatter_json.specs.declared.fault.JsonKind.TheVariants.{Syntax, Shape}
use Rattle.scatter_json.specs.JsonForm.{IsJsonFault, IsShapeFault, IsSyntaxFault}
use Rattle.scatter_json.specs.JsonText.{IsWallValue, IsJsonText, wall_value, diagram_value}

-- ---- faults

syntax-shape : (bytes : List ℕ) → IsSyntaxFault bytes → IsShapeFault bytes → ⊥
syntax-shape bytes (inl n) g = n g.utf8
syntax-shape bytes (inr e) g = let f : None ≡ Some g.value = sym e ∙ g.reads in absurd (cc)

pub json_fault-one : (bytes : List ℕ) (k j : JsonKind) → IsJsonFault bytes k → IsJsonFault bytes j → k ≡ j
json_fault-one bytes Syntax Syntax f g = refl
json_fault-one bytes Syntax Shape f g = absurd (syntax-shape bytes f g)
json_fault-one bytes Shape Syntax f g = absurd (syntax-shape bytes g f)
json_fault-one bytes Shape Shape f g = refl

-- ---- texts

value-one : (vars n : ℕ) (w : Wall) (d e : Data) → IsWall n w → IsWallValue vars w d → IsWallValue vars w e → d ≡ e
value-one vars n w d e h (x, y, rows, hx, hy, are, is) (x', y', rows', hx', hy', are', is') =
    let ex : x ≡ x' = coordinate-one w.at.x w.at.w x x' h.point.below hx hx' in
    let ey : y ≡ y' = coordinate-one w.at.y w.at.w y y' h.point.below hy hy' in
    let er : rows ≡ rows' = rows-unique w rows rows' (direction-not_origin w.dir h.direction) are are' in
    is ∙ (λ i. wall_value vars w.dir (ex i) (ey i) (er i)) ∙ sym is'

values-one : (vars n : ℕ) (ws : List Wall) (ds es : List Data) → Every (IsWall n) ws → AllZip (IsWallValue vars) ws ds → AllZip (IsWallValue vars) ws es → ds ≡ es
values-one vars n [] [] [] h a b = λ i. []
values-one vars n [] [] (e ∷ es) h a b = absurd b
values-one vars n [] (d ∷ ds) es h a b = absurd a
values-one vars n (w ∷ ws) [] es h a b = absurd a
values-one vars n (w ∷ ws) (d ∷ ds) [] h a b = absurd b
values-one vars n (w ∷ ws) (d ∷ ds) (e ∷ es) h a b =
    let p : d ≡ e = value-one vars n w d e h.0 a.0 b.0 in
    let q : ds ≡ es = values-one vars n ws ds es h.1 a.1 b.1 in
    λ i. p i ∷ q i

pub json_text-one : (vars order n : ℕ) (e : Diagram) (stop : Option (ℕ × StopCause)) (text other : List ℕ) → Every (IsWall n) (walls e)
    → IsJsonText vars order e stop text → IsJsonText vars order e stop other → text ≡ other
json_text-one vars order n e stop text other h (d, (lines, rays, a, b, is), t) (d', (lines', rays', a', b', is'), t') =
    let f : lines ≡ lines' = values-one vars n e.initial lines lines' (Every-left (IsWall n) e.initial e.rays h) a a' in
    let g : rays ≡ rays' = values-one vars n e.rays rays rays' (Every-right (IsWall n) e.initial e.rays h) b b' in
    let same : d ≡ d' = is ∙ (λ i. diagram_value vars order (f i) (g i) stop) ∙ sym is' in
    t ∙ (λ i. compact_text (same i) ++ 10 ∷ []) ∙ sym t'

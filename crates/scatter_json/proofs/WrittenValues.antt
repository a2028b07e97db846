-- Values, one after the other.
use Rattle.std.proofs.Common.{◌≡◌, ℕ, ◌+◌, ◌<◌, ◌≤◌, List, [], ◌∷◌, ◌++◌, length, take, get_or, map, refl, sym, ◌∙◌, ap, subst, Bool, false, Option, Some, None}
use Rattle.std.specs.List.{AllZip}
use Rattle.std.proofs.lemmas.List.{take_more, take_all, map-append}
use Rattle.std.specs.Prelude.{ℤ, pos, negsuc, ◌||◌, codes}
use Rattle.serde_json.specs.Data.{Data, string, member, no_members}
use Rattle.serde_json.specs.View.{view, items_of}
use Rattle.serde_json.specs.Written.{has_float, items_have_float, members_have_float}
use Rattle.serde_json.specs.declared.value.Value.{Value}
use Rattle.scattering.specs.Plane.{Point}
use Rattle.scattering.specs.Wall.{Wall, Diagram}
use Rattle.scattering.specs.Stops.{StopCause}
use Rattle.scatter_text.specs.DiagramText.{Row, AreRows, first_powers}
use Rattle.scatter_text.specs.Grammar.{coordinate_text}
use Rattle.scatter_text.specs.PrintedRows.{IsRatioText}
use Rattle.scatter_json.specs.JsonText.{IsPointValue, IsWallValue, IsDiagramValue, row_value, natural, integer, list, point_value, direction_value, wall_object, stopped_before}
use Rattle.scatter_json.proofs.Zips.{zip-push}

-- the value of one more
pub value-more : {A : Type 0} (f : A → Data) (xs : List A) (i : ℕ) (x : A) (old new : List Value) (v : Value) → i < length xs → map view old ≡ map f (take i xs) → new ≡ old ++ v ∷ [] → view v ≡ f (get_or xs i x) → map view new ≡ map f (take (i + 1) xs)
value-more {A} f xs i x old new v l h is e =
    ap (map view) is ∙ map-append view old (v ∷ []) ∙ ap (λ (ds : List Data). ds ++ view v ∷ []) h ∙ ap (λ (d : Data). map f (take i xs) ++ d ∷ []) e
    ∙ sym (map-append f (take i xs) (get_or xs i x ∷ [])) ∙ ap (map f) (sym (take_more xs i x l))

pub walls-more : (vars : ℕ) (ws : List Wall) (i : ℕ) (w : Wall) (old new : List Value) (v : Value) → i < length ws → w ≡ get_or ws i w → AllZip (IsWallValue vars) (take i ws) (map view old) → new ≡ old ++ v ∷ [] → IsWallValue vars w (view v) → AllZip (IsWallValue vars) (take (i + 1) ws) (map view new)
walls-more vars ws i w old new v l is h grown k =
    subst (λ (us : List Wall). AllZip (IsWallValue vars) us (map view new)) (ap (λ (u : Wall). take i ws ++ u ∷ []) is ∙ sym (take_more ws i w l))
    (subst (λ (ds : List Data). AllZip (IsWallValue vars) (take i ws ++ w ∷ []) ds) (sym (ap (map view) grown ∙ map-append view old (v ∷ [])))
    (zip-push (IsWallValue vars) (take i ws) (map view old) w (view v) h k))

-- ---- no value has a float

naturals-whole : (ns : List ℕ) → items_have_float (items_of (map natural ns)) ≡ false
naturals-whole [] = refl
naturals-whole (n ∷ ns) = naturals-whole ns

integer-whole : (n : ℤ) → has_float (integer n) ≡ false
integer-whole (pos n) = refl
integer-whole (negsuc n) = refl

rows-whole : (vars : ℕ) (rows : List Row) → items_have_float (items_of (map (row_value vars) rows)) ≡ false
rows-whole vars [] = refl
rows-whole vars (r ∷ rows) = ap (λ (b : Bool). (b || false) || items_have_float (items_of (map (row_value vars) rows))) (naturals-whole (first_powers vars r.powers)) ∙ rows-whole vars rows

wall-whole : (vars : ℕ) (w : Wall) (d : Data) → IsWallValue vars w d → has_float d ≡ false
wall-whole vars w d (x, y, rows, hx, hy, hr, is) =
    ap has_float is ∙ ap (λ (b : Bool). (b || (has_float (integer w.dir.b) || false)) || (items_have_float (items_of (map (row_value vars) rows)) || false)) (integer-whole w.dir.a)
    ∙ ap (λ (b : Bool). (b || false) || (items_have_float (items_of (map (row_value vars) rows)) || false)) (integer-whole w.dir.b)
    ∙ ap (λ (b : Bool). b || false) (rows-whole vars rows)

walls-whole : (vars : ℕ) (ws : List Wall) (ds : List Data) → AllZip (IsWallValue vars) ws ds → items_have_float (items_of ds) ≡ false
walls-whole vars [] [] h = refl
walls-whole vars [] (d ∷ ds) h = absurd h
walls-whole vars (w ∷ ws) [] h = absurd h
walls-whole vars (w ∷ ws) (d ∷ ds) h = ap (λ (b : Bool). b || items_have_float (items_of ds)) (wall-whole vars w d h.0) ∙ walls-whole vars ws ds h.1

members-whole : (stop : Option (ℕ × StopCause)) (vars : ℕ) → members_have_float (stopped_before stop (member (codes "vars") (natural vars) no_members)) ≡ false
members-whole None vars = refl
members-whole (Some (order, cause)) vars = refl

pub diagram-whole : (vars order : ℕ) (e : Diagram) (stop : Option (ℕ × StopCause)) (d : Data) → IsDiagramValue vars order e stop d → has_float d ≡ false
diagram-whole vars order e stop d (lines, rays, hl, hr, is) =
    ap has_float is ∙ ap (λ (b : Bool). b || (items_have_float (items_of rays) || members_have_float (stopped_before stop (member (codes "vars") (natural vars) no_members)))) (walls-whole vars e.initial lines hl)
    ∙ ap (λ (b : Bool). b || members_have_float (stopped_before stop (member (codes "vars") (natural vars) no_members))) (walls-whole vars e.rays rays hr)
    ∙ members-whole stop vars

-- ---- a wall's value

pub point-said : (p : Point) (x y : List ℕ) (d : Data) → IsRatioText p.x p.w x → IsRatioText p.y p.w y → d ≡ list (string x ∷ string y ∷ []) → IsPointValue p d
point-said p x y d hx hy is = (
  hx.0,
  hy.0,
  hx.1,
  hy.1,
  is
      ∙ ap (λ (t : List ℕ). list (string t ∷ string y ∷ [])) hx.2
      ∙ ap (λ (t : List ℕ). list (string (coordinate_text hx.0) ∷ string t ∷ [])) hy.2,
)

pub wall-said : (vars : ℕ) (w : Wall) (rows : List Row) (at dir : Data) (terms : List Data) (d : Data) → IsPointValue w.at at → dir ≡ direction_value w.dir → terms ≡ map (row_value vars) rows → AreRows w rows
    → d ≡ wall_object at dir terms → IsWallValue vars w d
wall-said vars w rows at dir terms d hp hd ht hr is = (
  hp.0,
  hp.1,
  rows,
  hp.2,
  hp.3,
  hr,
  is
      ∙ ap (λ (t : Data). wall_object t dir terms) hp.4
      ∙ ap (λ (t : Data). wall_object (point_value hp.0 hp.1) t terms) hd
      ∙ ap (λ (t : List Data). wall_object (point_value hp.0 hp.1) (direction_value w.dir) t) ht,
)

pub all-said : {A : Type 0} (f : A → Data) (xs : List A) (i : ℕ) (values : List Value) → length xs ≤ i → map view values ≡ map f (take i xs) → map view values ≡ map f xs
all-said f xs i values l h = h ∙ ap (map f) (take_all i xs l)

-- A value says one thing.
use Rattle.std.proofs.Common.{◌≡◌, ℕ, ℤ, List, [], ◌∷◌, get_or, map, length, refl, sym, ◌∙◌, ap, subst, Option, Some, None, inl, inr, ◌⊎◌}
use Rattle.std.proofs.lemmas.Option.{same_Some}
use Rattle.std.specs.Prelude.{codes, pos, nat_abs}
use Rattle.scatter_text.specs.Values.{AreCoprime}
use Rattle.std.specs.List.{AllZip}
use Rattle.std.proofs.lemmas.List.{length-map}
use Rattle.frac_128.specs.Quotient.{IsLowest}
use Rattle.serde_json.specs.Data.{Data, Items, item, no_items}
use Rattle.serde_json.specs.Read.{read}
use Rattle.serde_json.specs.View.{items_of, view}
use Rattle.serde_json.specs.declared.value.Value.{Value}
use Rattle.scatter_text.specs.declared.file.Coordinate.{Coordinate}
use Rattle.scatter_text.specs.declared.file.TermRow.{TermRow}
use Rattle.scatter_text.specs.declared.file.LineRow.{LineRow}
use Rattle.scatter_text.specs.declared.file.TextFile.{TextFile}
use Rattle.scatter_text.proofs.Spelling.{number-injective, coordinate-same}
use Rattle.scatter_json.specs.JsonForm.{SaysWhole, IsNumber, SaysCoordinate, IsArray, IsArrayOf, HasMembers, SaysTerm, SaysLine, IsFile, IsJsonOf, IsJsonFault, IsSyntaxFault}
use Rattle.std.specs.Str.{IsUtf8}
use Rattle.scatter_json.specs.declared.fault.JsonKind.{JsonKind}
use Rattle.scatter_json.specs.declared.fault.JsonKind.TheVariants.{Syntax, Shape}
use Rattle.scatter_json.specs.Parts.{HasThree, SayEach, SaysNo, SaysPoint, SaysDirection, IsValidLine, SayTerms, AddsTerms, with_terms}
use Rattle.scatter_json.proofs.Zips.{zip-one, zip-map, zip-unmap}

-- ---- parts

pub whole-one : (d : Data) (m n : ℤ) → SaysWhole d m → SaysWhole d n → m ≡ n
whole-one d m n h k = same_Some m n (sym h.holds ∙ k.holds)

number-one : (d : Data) (m n : ℤ) → IsNumber d m → IsNumber d n → m ≡ n
number-one d m n h k = number-injective m n h.short k.short (same_Some _ _ (sym h.spells ∙ k.spells))

coordinate-one : (d : Data) (p q : Coordinate) → SaysCoordinate d p → SaysCoordinate d q → p ≡ q
coordinate-one d p q h k = coordinate-same p q h.short k.short (same_Some _ _ (sym h.spells ∙ k.spells))

items-one : (ds es : List Data) → items_of ds ≡ items_of es → ds ≡ es
items-one [] [] e = refl
items-one [] (d ∷ es) e = absurd (let f : no_items ≡ item d (items_of es) = e in cc)
items-one (d ∷ ds) [] e = absurd (let f : item d (items_of ds) ≡ no_items = e in cc)
items-one (d ∷ ds) (c ∷ es) e =
    let f : item d (items_of ds) ≡ item c (items_of es) = e in
    let head : d ≡ c = cc in
    let tail : items_of ds ≡ items_of es = cc in
    let rest : ds ≡ es = items-one ds es tail in
    λ i. head i ∷ rest i

pub array-one : (d : Data) (ds es : List Data) → IsArray d ds → IsArray d es → ds ≡ es
array-one d ds es h k = items-one ds es (same_Some _ _ (sym h ∙ k))

-- what the known items say
pub says-items : {X : Type 0} (Says : Data → X → Type 0) (d : Data) (ds : List Data) (xs : List X) → IsArray d ds → IsArrayOf Says d xs → AllZip Says ds xs
says-items {X} Says d ds xs h k = subst (λ (es : List Data). AllZip Says es xs) (array-one d k.items ds k.array h) k.each

pub arrays-one : {X : Type 0} (Says : Data → X → Type 0) → ((d : Data) (x y : X) → Says d x → Says d y → x ≡ y) → (d : Data) (xs ys : List X) → IsArrayOf Says d xs → IsArrayOf Says d ys → xs ≡ ys
arrays-one {X} Says one d xs ys h k = zip-one Says one h.items xs ys h.each (says-items Says d h.items ys h.array k)

-- ---- arrays of values

pub array-says : {X : Type 0} (Says : Data → X → Type 0) (d : Data) (values : List Value) (xs : List X) → IsArray d (map view values) → SayEach Says values xs → IsArrayOf Says d xs
array-says {X} Says d values xs h k = record { items = map view values; array = h; each = zip-map Says view values xs k }

pub values-say : {X : Type 0} (Says : Data → X → Type 0) (d : Data) (values : List Value) (xs : List X) → IsArray d (map view values) → IsArrayOf Says d xs → SayEach Says values xs
values-say {X} Says d values xs h k = zip-unmap Says view values xs (says-items Says d (map view values) xs h k)

-- ---- terms

pub record IsTermOf (a b p : Data) (t : TermRow) : Type 0 where
  pub coefficient : IsNumber a t.c
  pub multiple : SaysWhole b t.j
  pub exponents : IsArrayOf SaysWhole p t.powers

pub term-at : (d a b p : Data) (t : TermRow) → IsArray d (a ∷ b ∷ p ∷ []) → SaysTerm d t → IsTermOf a b p t
term-at d a b p t h k =
    let e : k.c ∷ k.j ∷ k.powers ∷ [] ≡ a ∷ b ∷ p ∷ [] = array-one d _ _ k.array h in
    record {
      coefficient = subst (λ (x : Data). IsNumber x t.c) (ap (λ (ds : List Data). get_or ds 0 a) e) k.coefficient;
      multiple = subst (λ (x : Data). SaysWhole x t.j) (ap (λ (ds : List Data). get_or ds 1 a) e) k.multiple;
      exponents = subst (λ (x : Data). IsArrayOf SaysWhole x t.powers) (ap (λ (ds : List Data). get_or ds 2 a) e) k.exponents;
    }

pub term-one : (d : Data) (s t : TermRow) → SaysTerm d s → SaysTerm d t → s ≡ t
term-one d s t h k =
    let m = term-at d h.c h.j h.powers t h.array k in
    let c : s.c ≡ t.c = number-one h.c s.c t.c h.coefficient m.coefficient in
    let j : s.j ≡ t.j = whole-one h.j s.j t.j h.multiple m.multiple in
    let p : s.powers ≡ t.powers = arrays-one SaysWhole whole-one h.powers s.powers t.powers h.exponents m.exponents in
    λ i. record { c = c i; j = j i; powers = p i }

-- ---- pairs

pub pair-at : {X : Type 0} (Says : Data → X → Type 0) (d a b : Data) (x y : X) → IsArray d (a ∷ b ∷ []) → IsArrayOf Says d (x ∷ y ∷ []) → Says a x × Says b y
pair-at Says d a b x y h k = let s = says-items Says d (a ∷ b ∷ []) (x ∷ y ∷ []) h k in (s.0, s.1.0)

pub pair-of : {X : Type 0} (Says : Data → X → Type 0) (d a b : Data) (x y : X) → IsArray d (a ∷ b ∷ []) → Says a x → Says b y → IsArrayOf Says d (x ∷ y ∷ [])
pair-of Says d a b x y h s t = record { items = a ∷ b ∷ []; array = h; each = (s, (t, tt)) }

pub pair-none : {X : Type 0} (Says : Data → X → Type 0) (d : Data) (x y : X) → ((a b : Data) → IsArray d (a ∷ b ∷ []) → ⊥) → IsArrayOf Says d (x ∷ y ∷ []) → ⊥
pair-none {X} Says d x y none k = go k.items k.array k.each
  where
    go : (ds : List Data) → IsArray d ds → AllZip Says ds (x ∷ y ∷ []) → ⊥
    go [] h z = absurd z
    go (a ∷ []) h z = absurd z.1
    go (a ∷ b ∷ []) h z = none a b h
    go (a ∷ b ∷ c ∷ ds) h z = absurd z.1.1

-- ---- lines

pub record IsLineOf (a b p : Data) (l : LineRow) : Type 0 where
  pub point : IsArrayOf SaysCoordinate a (l.x ∷ l.y ∷ [])
  pub direction : IsArrayOf SaysWhole b (l.dx ∷ l.dy ∷ [])
  pub function : IsArrayOf SaysTerm p l.terms

pub line-at : (d a b p : Data) (l : LineRow) → HasThree d (codes "at") (codes "dir") (codes "terms") a b p → SaysLine d l → IsLineOf a b p l
line-at d a b p l h k = record {
  point = subst (λ (x : Data). IsArrayOf SaysCoordinate x (l.x ∷ l.y ∷ [])) (same_Some k.at a (sym k.members.each.0 ∙ h.each.0)) k.point;
  direction = subst (λ (x : Data). IsArrayOf SaysWhole x (l.dx ∷ l.dy ∷ [])) (same_Some k.dir b (sym k.members.each.1.0 ∙ h.each.1.0)) k.direction;
  function = subst (λ (x : Data). IsArrayOf SaysTerm x l.terms) (same_Some k.terms p (sym k.members.each.1.1.0 ∙ h.each.1.1.0)) k.function;
}

pub line-one : (d : Data) (k l : LineRow) → SaysLine d k → SaysLine d l → k ≡ l
line-one d k l h m =
    let n = line-at d h.at h.dir h.terms l h.members m in
    let point = arrays-one SaysCoordinate coordinate-one h.at (k.x ∷ k.y ∷ []) (l.x ∷ l.y ∷ []) h.point n.point in
    let direction = arrays-one SaysWhole whole-one h.dir (k.dx ∷ k.dy ∷ []) (l.dx ∷ l.dy ∷ []) h.direction n.direction in
    let x : k.x ≡ l.x = ap (λ (cs : List Coordinate). get_or cs 0 k.x) point in
    let y : k.y ≡ l.y = ap (λ (cs : List Coordinate). get_or cs 1 k.x) point in
    let dx : k.dx ≡ l.dx = ap (λ (cs : List ℤ). get_or cs 0 k.dx) direction in
    let dy : k.dy ≡ l.dy = ap (λ (cs : List ℤ). get_or cs 1 k.dx) direction in
    let ts : k.terms ≡ l.terms = arrays-one SaysTerm term-one h.terms k.terms l.terms h.function n.function in
    λ i. record { dx = dx i; dy = dy i; x = x i; y = y i; terms = ts i }

-- ---- files

pub record IsFileOf (a b p : Data) (file : TextFile) : Type 0 where
  pub rows : IsArrayOf SaysLine a file.lines
  pub version : SaysWhole b (pos 1)
  pub variables : SaysWhole p file.vars

pub file-at : (d a b p : Data) (file : TextFile) → HasThree d (codes "lines") (codes "scatter") (codes "vars") a b p → IsFile d file → IsFileOf a b p file
file-at d a b p file h k = record {
  rows = subst (λ (x : Data). IsArrayOf SaysLine x file.lines) (same_Some k.lines a (sym k.members.each.0 ∙ h.each.0)) k.rows;
  version = subst (λ (x : Data). SaysWhole x (pos 1)) (same_Some k.scatter b (sym k.members.each.1.0 ∙ h.each.1.0)) k.version;
  variables = subst (λ (x : Data). SaysWhole x file.vars) (same_Some k.vars p (sym k.members.each.1.1.0 ∙ h.each.1.1.0)) k.variables;
}

pub file-one : (d : Data) (f g : TextFile) → IsFile d f → IsFile d g → (f.vars ≡ g.vars) × (f.lines ≡ g.lines) × (f.asks ≡ g.asks) × (f.settle ≡ g.settle)
file-one d f g h k =
    let m = file-at d h.lines h.scatter h.vars g h.members k in
    (whole-one h.vars f.vars g.vars h.variables m.variables, arrays-one SaysLine line-one h.lines f.lines g.lines h.rows m.rows, h.no_ask ∙ sym k.no_ask, h.no_settle ∙ sym k.no_settle)

-- ---- whole texts

along-read : (bytes : List ℕ) (d e : Data) (file : TextFile) → read bytes ≡ Some d → read bytes ≡ Some e → IsFile d file → IsFile e file
along-read bytes d e file h k says = subst (λ (x : Data). IsFile x file) (same_Some d e (sym h ∙ k)) says

pub file-or-fault : (bytes : List ℕ) (file : TextFile) (kind : JsonKind) → IsJsonOf bytes file → IsJsonFault bytes kind → ⊥
file-or-fault bytes file Syntax h (inl n) = n h.utf8
file-or-fault bytes file Syntax h (inr e) = let f : None ≡ Some h.value = sym e ∙ h.reads in absurd (cc)
file-or-fault bytes file Shape h f = f.says_none file (along-read bytes h.value f.value file h.reads f.reads h.says)

pub json-one : (bytes : List ℕ) (f g : TextFile) → IsJsonOf bytes f → IsJsonOf bytes g → (f.vars ≡ g.vars) × (f.lines ≡ g.lines) × (f.asks ≡ g.asks) × (f.settle ≡ g.settle)
json-one bytes f g h k = file-one h.value f g h.says (along-read bytes k.value h.value g k.reads h.reads k.says)

pub as-long : (d : Data) (values : List Value) (ds : List Data) → IsArray d (map view values) → IsArray d ds → length values ≡ length ds
as-long d values ds h k = sym (length-map values view) ∙ ap length (array-one d (map view values) ds h k)

-- what the three parts of a line say
pub none-at : (vars : ℕ) (d a b p : Data) → HasThree d (codes "at") (codes "dir") (codes "terms") a b p → SaysNo SaysPoint a → SaysNo (IsValidLine vars) d
none-at vars d a b p h none l k = none (l.x, l.y) (line-at d a b p l h k.says).point

pub none-along : (vars : ℕ) (d a b p : Data) → HasThree d (codes "at") (codes "dir") (codes "terms") a b p → SaysNo SaysDirection b → SaysNo (IsValidLine vars) d
none-along vars d a b p h none l k = none (l.dx, l.dy) record { says = (line-at d a b p l h k.says).direction; primitive = k.valid.primitive }

pub none-of : (vars : ℕ) (d a b p : Data) → HasThree d (codes "at") (codes "dir") (codes "terms") a b p → SaysNo IsArray p → SaysNo (IsValidLine vars) d
none-of vars d a b p h none l k = let s = (line-at d a b p l h k.says).function in none s.items s.array

pub none-with : (vars : ℕ) (d a b p : Data) (values : List Value) → HasThree d (codes "at") (codes "dir") (codes "terms") a b p → IsArray p (map view values) → ((ts : List TermRow) → SayTerms vars values ts → ⊥) → SaysNo (IsValidLine vars) d
none-with vars d a b p values h array none l k =
    none l.terms record { say = values-say SaysTerm p values l.terms array (line-at d a b p l h k.says).function; valid = k.valid.terms }

coordinate-of : (d : Data) (c : Coordinate) → SaysCoordinate d c → IsLowest c.num c.den
coordinate-of d c h = h.short.valid

point-at : (a : Data) (x y : Coordinate) → SaysPoint a (x, y) → IsLowest x.num x.den × IsLowest y.num y.den
point-at a x y k = go k.items k.each
  where
    go : (ds : List Data) → AllZip SaysCoordinate ds (x ∷ y ∷ []) → IsLowest x.num x.den × IsLowest y.num y.den
    go [] z = absurd z
    go (b ∷ []) z = absurd z.1
    go (b ∷ c ∷ ds) z = (coordinate-of b x z.0, coordinate-of c y z.1.0)

pub valid-line : (vars : ℕ) (d a b p : Data) (values : List Value) (dx dy : ℤ) (x y : Coordinate) (line more : LineRow) → HasThree d (codes "at") (codes "dir") (codes "terms") a b p → IsArray p (map view values)
    → SaysPoint a (x, y) → SaysDirection b (dx, dy) → line ≡ record { dx = dx; dy = dy; x = x; y = y; terms = [] } → AddsTerms vars line values more → IsValidLine vars d more
valid-line vars d a b p values dx dy x y line more h array point dir is k =
    let row : LineRow = record { dx = dx; dy = dy; x = x; y = y; terms = more.terms } in
    let same : more ≡ row = k.is ∙ ap (λ (l : LineRow). with_terms l more.terms) is in
    subst (IsValidLine vars d) (sym same) record {
      says = record { at = a; dir = b; terms = p; members = h; point = point; direction = dir.says; function = array-says SaysTerm p values more.terms array k.says.say };
      valid = record { primitive = dir.primitive; x = (point-at a x y point).0; y = (point-at a x y point).1; terms = k.says.valid };
    }

pub undirected : (d a b : Data) (dx dy : ℤ) (p : ℤ × ℤ) → IsArray d (a ∷ b ∷ []) → SaysWhole a dx → SaysWhole b dy → (AreCoprime (nat_abs dx) (nat_abs dy) → ⊥) → SaysDirection d p → ⊥
undirected d a b dx dy p h s t apart k =
    let q = pair-at SaysWhole d a b p.0 p.1 h k.says in
    let e : p.0 ≡ dx = whole-one a p.0 dx q.0 s in
    let f : p.1 ≡ dy = whole-one b p.1 dy q.1 t in
    apart (subst (λ (x : ℤ). AreCoprime (nat_abs x) (nat_abs dy)) e (subst (λ (y : ℤ). AreCoprime (nat_abs p.0) (nat_abs y)) f k.primitive))

pub term-of : (d a b p : Data) (values : List Value) (t : TermRow) (n m : ℤ) (ps : List ℤ) → IsArray d (a ∷ b ∷ p ∷ []) → IsNumber a n → SaysWhole b m → IsArray p (map view values) → SayEach SaysWhole values ps → t.c ≡ n → t.j ≡ m → t.powers ≡ ps → SaysTerm d t
term-of d a b p values t n m ps h s r array say ec ej ep = record {
  c = a;
  j = b;
  powers = p;
  array = h;
  coefficient = subst (IsNumber a) (sym ec) s;
  multiple = subst (SaysWhole b) (sym ej) r;
  exponents = subst (λ (ns : List ℤ). IsArrayOf SaysWhole p ns) (sym ep) (array-says SaysWhole p values ps array say);
}

pub no-value : (bytes : List ℕ) → (IsUtf8 bytes → read bytes ≡ None) → IsSyntaxFault bytes
no-value bytes h = go (read bytes) refl
  where
    go : (o : Option Data) → read bytes ≡ o → (¬ IsUtf8 bytes) ⊎ (read bytes ≡ None)
    go None e = inr e
    go (Some d) e = inl (λ u. let f : None ≡ Some d = sym (h u) ∙ e in cc)

-- The lines of a file.
use Rattle.std.proofs.Common.{◌≡◌, ℕ, zero, suc, ◌<◌, List, [], ◌∷◌, length, refl, sym, ◌∙◌, ap, subst, arith, ℤ, All, map, None}
use Rattle.std.specs.Prelude.{codes, pos, negsuc, nat_abs, ◌≤ℤ◌}
use Rattle.serde_json.specs.Data.{Data}
use Rattle.serde_json.specs.View.{view}
use Rattle.serde_json.specs.declared.value.Value.{Value}
use Rattle.scatter_text.specs.declared.file.LineRow.{LineRow}
use Rattle.scatter_text.specs.declared.file.AskRow.{AskRow}
use Rattle.scatter_text.specs.declared.file.TextFile.{TextFile}
use Rattle.scatter_text.specs.Values.{AreLineRows, IsAsk, IsLine as IsLineRow}
use Rattle.scatter_json.specs.JsonForm.{SaysWhole, IsArray, IsArrayOf, SaysLine, IsFile}
use Rattle.scatter_json.specs.Parts.{HasThree, SayEach, SayNone, IsHead, IsValidLine}
use Rattle.scatter_json.proofs.OneReading.{whole-one, array-says, values-say, file-at}

pub positive : (v : ℤ) (n : ℕ) → n ≡ nat_abs v → pos 1 ≤ℤ v → pos n ≡ v
positive (pos m) n e h = ap pos e
positive (negsuc m) n e h = absurd (omega (arith, h))

pub no-asks : (asks : List AskRow) → asks ≡ [] → All IsAsk asks
no-asks asks e = subst (All IsAsk) (sym e) (λ k d l. absurd (omega (arith, l)))

pub valid-lines : (n : ℕ) (values : List Value) (ls : List LineRow) → SayEach (IsValidLine n) values ls → AreLineRows (pos n) ls
valid-lines n [] [] h = λ k d l. absurd (omega (arith, l))
valid-lines n [] (l ∷ ls) h = absurd h
valid-lines n (v ∷ values) [] h = absurd h
valid-lines n (v ∷ values) (l ∷ ls) h = go h.0.valid (valid-lines n values ls h.1)
  where
    go : IsLineRow (pos n) l → All (IsLineRow (pos n)) ls → All (IsLineRow (pos n)) (l ∷ ls)
    go p q zero d r = p
    go p q (suc k) d r = q k d (omega (arith, r))

lines-said : (n : ℕ) (values : List Value) (ls : List LineRow) → SayEach (IsValidLine n) values ls → SayEach SaysLine values ls
lines-said n [] [] h = tt
lines-said n [] (l ∷ ls) h = absurd h
lines-said n (v ∷ values) [] h = absurd h
lines-said n (v ∷ values) (l ∷ ls) h = (h.0.says, lines-said n values ls h.1)

lines-valid : (n : ℕ) (values : List Value) (ls : List LineRow) → SayEach SaysLine values ls → All (IsLineRow (pos n)) ls → SayEach (IsValidLine n) values ls
lines-valid n [] [] h k = tt
lines-valid n [] (l ∷ ls) h k = absurd h
lines-valid n (v ∷ values) [] h k = absurd h
lines-valid n (v ∷ values) (l ∷ ls) h k = (record { says = h.0; valid = k 0 l (omega arith) }, lines-valid n values ls h.1 (λ i d r. k (suc i) d (omega (arith, r))))

pub file-said : (d a b p : Data) (values : List Value) (n : ℕ) (vars : ℤ) (ls : List LineRow) (file : TextFile) → HasThree d (codes "lines") (codes "scatter") (codes "vars") a b p → IsHead b p vars
    → IsArray a (map view values) → SayEach (IsValidLine n) values ls → file.vars ≡ vars → file.lines ≡ ls → file.asks ≡ [] → file.settle ≡ None → IsFile d file
file-said d a b p values n vars ls file h head array say ev el ea es = record {
  lines = a;
  scatter = b;
  vars = p;
  members = h;
  version = head.version;
  variables = subst (SaysWhole p) (sym ev) head.variables;
  rows = subst (λ (rs : List LineRow). IsArrayOf SaysLine a rs) (sym el) (array-says SaysLine a values ls array (lines-said n values ls say));
  no_ask = ea;
  no_settle = es;
}

pub file-none : (d a b p : Data) (values : List Value) (n : ℕ) (vars : ℤ) (file : TextFile) → HasThree d (codes "lines") (codes "scatter") (codes "vars") a b p → IsHead b p vars → IsArray a (map view values)
    → pos n ≡ vars → SayNone (IsValidLine n) values → IsFile d file → ⊥
file-none d a b p values n vars file h head array same none k =
    let f = file-at d a b p file h k in
    let e : file.vars ≡ pos n = whole-one p file.vars vars f.variables head.variables ∙ sym same in
    none file.lines (lines-valid n values file.lines (values-say SaysLine a values file.lines array f.rows) (subst (λ (v : ℤ). AreLineRows v file.lines) e file.valid))

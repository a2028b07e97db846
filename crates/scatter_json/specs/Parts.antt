-- What the parts of the reader say of each other.
use Rattle.std.specs.Prelude.{◌≡◌, ℕ, ℤ, pos, ◌≤ℤ◌, nat_abs, List, [], ◌∷◌, ◌++◌, length, All}
use Rattle.std.specs.List.{AllZip}
use Rattle.serde_json.specs.Data.{Data}
use Rattle.serde_json.specs.View.{view}
use Rattle.serde_json.specs.declared.value.Value.{Value}
use Rattle.scatter_text.specs.declared.file.Coordinate.{Coordinate}
use Rattle.scatter_text.specs.declared.file.TermRow.{TermRow}
use Rattle.scatter_text.specs.declared.file.LineRow.{LineRow}
use Rattle.scatter_text.specs.declared.open_line.OpenLine.{OpenLine}
use Rattle.scatter_text.specs.Values.{AreCoprime, AreAlike, AreTerms, IsTermRow, IsLine as IsLineRow}
use Rattle.scatter_json.specs.JsonForm.{SaysWhole, SaysCoordinate, IsArrayOf, HasMembers, SaysTerm, SaysLine}

-- it says nothing of the kind
abbrev pub SaysNo : {X : Type 0} → (Data → X → Type 0) → Data → Type 0
SaysNo {X} Says d = (x : X) → Says d x → ⊥

-- three members of these keys, and no other
abbrev pub HasThree : Data → List ℕ → List ℕ → List ℕ → Data → Data → Data → Type 0
HasThree d k l m a b c = HasMembers d ((k, a) ∷ (l, b) ∷ (m, c) ∷ [])

-- values say these, one each
abbrev pub SayEach : {X : Type 0} → (Data → X → Type 0) → List Value → List X → Type 0
SayEach Says values xs = AllZip (λ v x. Says (view v) x) values xs

abbrev pub SayNone : {X : Type 0} → (Data → X → Type 0) → List Value → Type 0
SayNone {X} Says values = (xs : List X) → SayEach Says values xs → ⊥

-- a point, and a direction
abbrev pub SaysPoint : Data → Coordinate × Coordinate → Type 0
SaysPoint d p = IsArrayOf SaysCoordinate d (p.0 ∷ p.1 ∷ [])

pub record SaysDirection (d : Data) (p : ℤ × ℤ) : Type 0 where
  pub says : IsArrayOf SaysWhole d (p.0 ∷ p.1 ∷ [])
  pub primitive : AreCoprime (nat_abs p.0) (nat_abs p.1)

-- the version is 1, and this is the number of variables
pub record IsHead (scatter vars : Data) (n : ℤ) : Type 0 where
  pub version : SaysWhole scatter (pos 1)
  pub variables : SaysWhole vars n
  pub some : pos 1 ≤ℤ n

-- the rules on values hold of a term after these
pub record MayFollow (vars : ℕ) (terms : List TermRow) (t : TermRow) : Type 0 where
  pub each : IsTermRow t
  pub variables : length t.powers ≡ vars
  pub different : All (λ earlier. ¬ AreAlike earlier t) terms

-- the values say terms after these, and the rules on values hold
pub record SayTerms (vars : ℕ) (values : List Value) (terms : List TermRow) : Type 0 where
  pub say : SayEach SaysTerm values terms
  pub valid : AreTerms (pos vars) terms

-- the line with these terms
abbrev pub with_terms : LineRow → List TermRow → LineRow
with_terms l terms = record l { terms = terms }

-- the line with one term more, which the value says, and the rules on values hold of it
pub record AddsTerm (vars : ℕ) (line : LineRow) (d : Data) (more : LineRow) : Type 0 where
  pub term : TermRow
  pub says : SaysTerm d term
  pub may : MayFollow vars line.terms term
  pub is : more ≡ with_terms line (line.terms ++ term ∷ [])

-- the line with the terms that values say
pub record AddsTerms (vars : ℕ) (line : LineRow) (values : List Value) (more : LineRow) : Type 0 where
  pub says : SayTerms vars values more.terms
  pub is : more ≡ with_terms line more.terms

-- a line of which the rules on values hold
pub record IsValidLine (vars : ℕ) (d : Data) (l : LineRow) : Type 0 where
  pub says : SaysLine d l
  pub valid : IsLineRow (pos vars) l

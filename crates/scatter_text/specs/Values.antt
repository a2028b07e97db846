-- The rules on the values of a file.
use Rattle.std.specs.Prelude.{◌≡◌, ◌≢◌, ℕ, ◌≤ℤ◌, ℤ, pos, nat_abs, length, All, AllPairs, List}
use Rattle.std.specs.Option.{ForSome}
use Rattle.std.specs.Int.{IsGcd}
use Rattle.frac_128.specs.Quotient.{IsLowest}
use Rattle.scatter_text.specs.declared.file.Coordinate.{Coordinate}
use Rattle.scatter_text.specs.declared.file.TermRow.{TermRow}
use Rattle.scatter_text.specs.declared.file.LineRow.{LineRow}
use Rattle.scatter_text.specs.declared.file.AskRow.{AskRow}

-- no common divisor but 1
abbrev pub AreCoprime : ℕ → ℕ → Type 0
AreCoprime a b = IsGcd a b 1

-- in lowest terms, over a denominator of at least 1
abbrev pub IsCoordinate : Coordinate → Type 0
IsCoordinate c = IsLowest c.num c.den

pub record IsTermRow (t : TermRow) : Type 0 where
  pub coefficient : t.c ≢ pos 0
  pub multiple : pos 1 ≤ℤ t.j
  pub no_negative_power : All (λ a. pos 0 ≤ℤ a) t.powers
  pub some_power : ¬ All (λ a. a ≡ pos 0) t.powers

-- the same monomial
abbrev pub AreAlike : TermRow → TermRow → Type 0
AreAlike s t = (s.j ≡ t.j) × (s.powers ≡ t.powers)

-- the terms of a line's function in that many variables
pub record AreTerms (vars : ℤ) (terms : List TermRow) : Type 0 where
  pub each : All IsTermRow terms
  pub variables : All (λ t. length t.powers ≡ nat_abs vars) terms
  pub different : AllPairs (λ s t. ¬ AreAlike s t) terms

pub record IsLine (vars : ℤ) (l : LineRow) : Type 0 where
  pub primitive : AreCoprime (nat_abs l.dx) (nat_abs l.dy)
  pub x : IsCoordinate l.x
  pub y : IsCoordinate l.y
  pub terms : AreTerms vars l.terms

-- the lines of a file in that many variables
abbrev pub AreLineRows : ℤ → List LineRow → Type 0
AreLineRows vars lines = All (IsLine vars) lines

-- readers are counted from 1, orders from 0
pub record HasAskValues (a : AskRow) : Type 0 where
  pub reader : pos 1 ≤ℤ a.reader
  pub least : ForSome a.least (λ order. pos 0 ≤ℤ order)

pub record IsAsk (a : AskRow) : Type 0 where
  pub values : HasAskValues a
  pub x : IsCoordinate a.x
  pub y : IsCoordinate a.y

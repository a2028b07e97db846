-- The text of a fraction: its numerator, and its denominator where that isn't 1.
use Rattle.std.specs.Prelude.{◌≡◌, ◌≢◌, FitsSigned, ℕ, ℤ, pos, ◌≤ℤ◌, List, ◌++◌, codes, if◌then◌else◌}
use Rattle.std.specs.Int.{w128}
use Rattle.std.specs.Fmt.{signed_decimal}
use Rattle.std.specs.Ordering.{int_eq}
use Rattle.frac_128.specs.Quotient.{IsLowest}

abbrev pub fraction_text : ℤ → ℤ → List ℕ
fraction_text num den = if int_eq den (pos 1) then signed_decimal num else (signed_decimal num ++ codes "/" ++ signed_decimal den)

abbrev pub IsFractionText : List ℕ → ℤ → ℤ → Type 0
IsFractionText text num den = text ≡ fraction_text num den

-- no fraction of 128-bit numbers has this text
abbrev pub NamesNoFraction : List ℕ → Type 0
NamesNoFraction text = (num den : ℤ) → IsLowest num den → FitsSigned w128 num → FitsSigned w128 den → text ≢ fraction_text num den

-- no number of 128 bits has this text
abbrev pub NamesNoNumber : List ℕ → Type 0
NamesNoNumber text = (n : ℤ) → FitsSigned w128 n → text ≢ signed_decimal n

-- the two texts around the `/` of p/q
pub record IsPair (num den : List ℕ) (p q : ℤ) : Type 0 where
  pub lowest : IsLowest p q
  pub above : pos 2 ≤ℤ q
  pub first : num ≡ signed_decimal p
  pub second : den ≡ signed_decimal q

-- no fraction of 128-bit numbers has these two texts
abbrev pub NoPair : List ℕ → List ℕ → Type 0
NoPair num den = (p q : ℤ) → FitsSigned w128 p → FitsSigned w128 q → IsPair num den p q → ⊥

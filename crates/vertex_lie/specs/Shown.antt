-- Lie elements as the definitions see them.
--     ratio_of, lie_of         a fraction, and a list of terms, of the program
--     IsElement h              what each value keeps
--     IsElementOf h g          h is the element with the coefficients of g
--     IsArranged h g           the terms of g by their keys, where those of one key stand as they stood
use Rattle.std.specs.Prelude.{◌≡◌, ◌≢◌, pos, false, IsTrue, List, [], ◌∷◌, map, filter}
use Rattle.scattering.specs.Collections.{Every, EveryPair}
use Rattle.scattering.specs.Series.{Key, origin, key_eq, key_before}
use Rattle.scattering.specs.Correction.{Ratio, IsRatio, Lie, ratio_at}
use Rattle.frac_128.specs.declared.Fraction.{Fraction}
use Rattle.trunc_series.specs.declared.key.Key.{Key as CodeKey}
use Rattle.trunc_series.specs.Shown.{key_of}

abbrev pub ratio_of : Fraction → Ratio
ratio_of f = record { num = f.num; den = f.den }

abbrev pub coefficient_of : CodeKey × Fraction → Key × Ratio
coefficient_of t = (key_of t.0, ratio_of t.1)

abbrev pub lie_of : List (CodeKey × Fraction) → Lie
lie_of ts = map coefficient_of ts

pub record IsElement (h : Lie) : Type 0 where
  pub rises : EveryPair (λ t u. IsTrue (key_before t.0 u.0)) h
  pub exponents : Every (λ t. t.0.exp ≢ origin) h
  pub nonzero : Every (λ t. t.1.num ≢ pos 0) h
  pub ratios : Every (λ t. IsRatio t.1) h

-- the one element with the coefficients of g
pub record IsElementOf (h g : Lie) : Type 0 where
  pub element : IsElement h
  pub same : (k : Key) → ratio_at h k ≡ ratio_at g k

-- the terms of one key
abbrev pub of_key : {A : Type 0} → Key → List (Key × A) → List (Key × A)
of_key k h = filter (λ t. key_eq t.0 k) h

abbrev pub Above : {A : Type 0} → Key → List (Key × A) → Type 0
Above k [] = Unit {0}
Above k (u ∷ h) = key_before u.0 k ≡ false

-- no key is before that of the term ahead of it
abbrev pub Ascends : {A : Type 0} → List (Key × A) → Type 0
Ascends [] = Unit {0}
Ascends (t ∷ h) = Above t.0 h × Ascends h

pub record IsArranged (h g : Lie) : Type 0 where
  pub ascends : Ascends h
  pub stable : (k : Key) → of_key k h ≡ of_key k g

-- A test of corrections that computes, for worked examples.
use Rattle.std.specs.Prelude.{ℕ, zero, suc, ◌*◌, ◌%◌, ◌==◌, ◌^◌, nat_abs, nat_le, Bool, true, not, ◌&&◌, ◌≤◌, List, [], ◌∷◌, length, ℤ, pos, ◌*ℤ◌, int_le, int_div}
use Rattle.std.specs.List.{list_all, sum_by}
use Rattle.limits.specs.Limits.{exponent_per_degree, largest_weight}
use Rattle.scattering.specs.Collections.{Every}
use Rattle.scattering.specs.Wall.{Wall}
use Rattle.weight_theory.specs.Laws.{AreWhole}
use Rattle.scattering.specs.Series.{Key, int_eq, exp_eq, key_before, degree, origin, mass_to}
use Rattle.scattering.specs.Correction.{Ratio, Lie, Corrections, AreMergeable}
use Rattle.ray_merge.specs.Answer.{AreTame, AreLight, StayWithin}

-- by Euclid, in so many steps at most
abbrev pub common : ℕ → ℕ → ℕ → ℕ
common zero a b = a
common (suc steps) a zero = a
common (suc steps) a (suc b) = common steps (suc b) (a % suc b)

abbrev pub has_key_of : ℕ → Key → Bool
has_key_of n k = (degree k == n) && (not (exp_eq k.exp origin) && (nat_le (nat_abs k.exp.a) (exponent_per_degree * n) && nat_le (nat_abs k.exp.b) (exponent_per_degree * n)))

-- g·c as a whole number, rounded
abbrev pub whole_of : Key × Ratio → ℤ
whole_of t = int_div (t.1.num *ℤ pos (common (nat_abs t.0.exp.b) (nat_abs t.0.exp.a) (nat_abs t.0.exp.b))) t.1.den

abbrev pub is_worked_term : ℕ → Key × Ratio → Bool
is_worked_term n t =
    has_key_of n t.0 && (not (int_eq t.1.num (pos 0)) && (int_le (pos 1) t.1.den && (nat_le (nat_abs (whole_of t)) (2 ^ 40)
    && int_eq (whole_of t *ℤ t.1.den) (t.1.num *ℤ pos (common (nat_abs t.0.exp.b) (nat_abs t.0.exp.a) (nat_abs t.0.exp.b))))))

abbrev pub keys_rise : Lie → Bool
keys_rise [] = true
keys_rise (t ∷ h) = list_all (λ u. key_before t.0 u.0) h && keys_rise h

-- a correction of degree n, with few and small whole values
abbrev pub is_worked : ℕ → Lie → Bool
is_worked n h = keys_rise h && (list_all (is_worked_term n) h && nat_le (length h) 1024)

-- the whole values g·c sum to at most 2^126 in absolute value
abbrev pub HasSmallValues : Lie → Type 0
HasSmallValues h = (vs : List ℤ) → AreWhole h vs → sum_by nat_abs vs ≤ largest_weight

abbrev pub AreLightRays : ℕ → List Wall → Type 0
AreLightRays n rays = Every (λ r. mass_to n r.function ≤ largest_weight) rays

-- what the merge asks of corrections
pub record AreFit (n : ℕ) (cs : Corrections) : Type 0 where
  pub mergeable : AreMergeable n cs
  pub tame : AreTame n cs
  pub light : AreLight cs
  pub within : (rays : List Wall) → AreLightRays n rays → StayWithin n cs rays

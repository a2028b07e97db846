-- The conditions of the product, by computing.
use Rattle.std.proofs.Common.{ℕ, ◌≤◌, ◌^◌, refl, subst, sym, ◌≡◌}
use Rattle.std.specs.Prelude.{nat_abs, nat_le, ◌&&◌, Bool}
use Rattle.scattering.specs.Series.{Term, Sum, mul, absolute, mass_to}
use Rattle.scattering.proofs.Lists.{and-left, and-right, all-every}
use Rattle.scattering.proofs.Tests.{nat_le-yes}
use Rattle.trunc_series.specs.Shown.{HasNearTerms}
use Rattle.series_tests.specs.Binomials.{twelfth_power}

abbrev is_near_term : Term → Bool
is_near_term t = nat_le (nat_abs t.0.exp.a) (2 ^ 16) && nat_le (nat_abs t.0.exp.b) (2 ^ 16)

pub near : (f : Sum) → f ≡ twelfth_power → HasNearTerms f
near f e = subst HasNearTerms (sym e) all
  where
    all : HasNearTerms twelfth_power
    all = all-every is_near_term (λ t. (nat_abs t.0.exp.a ≤ 2 ^ 16) × (nat_abs t.0.exp.b ≤ 2 ^ 16)) twelfth_power
        (λ t h. (nat_le-yes _ _ (and-left (nat_le (nat_abs t.0.exp.a) (2 ^ 16)) _ h), nat_le-yes _ _ (and-right (nat_le (nat_abs t.0.exp.a) (2 ^ 16)) _ h))) refl

pub light : (n : ℕ) (f : Sum) → n ≡ 24 → f ≡ twelfth_power → mass_to n (mul n (absolute f) (absolute f)) ≤ 2 ^ 126
light n f o e = subst (λ (m : ℕ). mass_to m (mul m (absolute f) (absolute f)) ≤ 2 ^ 126) (sym o) (subst (λ (g : Sum). mass_to 24 (mul 24 (absolute g) (absolute g)) ≤ 2 ^ 126) (sym e) (nat_le-yes _ _ refl))

-- Bounds of a product's coefficients by masses.
use Rattle.std.proofs.Common.{◌≡◌, ℕ, ◌+◌, ◌*◌, ◌<◌, ◌≤◌, ◌^◌, refl, sym, ◌∙◌, Bool, true, false, cond, [], ◌∷◌, ◌++◌, arith}
use Rattle.std.specs.Prelude.{pos, ◌*ℤ◌, nat_abs, nat_le}
use Rattle.std.proofs.lemmas.Int.{unsigned_abs-mul}
use Rattle.scattering.specs.Collections.{Every}
use Rattle.scattering.specs.Series.{Term, Sum, degree, key_mul, term_mul, cut, mul, mass_to, absolute}
use Rattle.scattering.proofs.Lists.{Every-implies, Every-append}
use Rattle.scattering.proofs.Coefficients.{low-cut}
use Rattle.trunc_series.specs.declared.arithmetic.Arithmetic.TheVariants.{Wrapping}
use Rattle.trunc_series.specs.Shown.{IsValid, HasNearTerms}
use Rattle.trunc_series.specs.Arithmetic.{IsKeepable}
use Rattle.trunc_series.specs.Reduced.{IsKeptAs, IsFactor, IsNearKey}
use Rattle.trunc_series.proofs.Coefficients.{abs-coef}
use Rattle.trunc_series.proofs.Rows.{row_sum}
use Rattle.trunc_series.proofs.Exact.{Made, exact}

pub mass-append : (n : ℕ) (f g : Sum) → mass_to n (f ++ g) ≡ mass_to n f + mass_to n g
mass-append n [] g = omega arith
mass-append n (t ∷ f) g = omega (arith, mass-append n f g)

abbrev positive : Term → Term
positive t = (t.0, pos (nat_abs t.1))

abs-pos : (m n : ℕ) → pos m *ℤ pos n ≡ pos (m * n)
abs-pos m n = refl

same-part : (b : Bool) (x y m m' : ℕ) → x ≡ y → m ≡ m' → (elim b [ true ↦ x | false ↦ 0 ]) + m ≡ (elim b [ true ↦ y | false ↦ 0 ]) + m'
same-part true x y m m' e f = rw (e, f) refl
same-part false x y m m' e f = rw f refl

mass-row : (n : ℕ) (t : Term) (g : Sum) → mass_to n (cut n (row_sum t g)) ≡ mass_to n (cut n (row_sum (positive t) (absolute g)))
mass-row n t [] = refl
mass-row n t (u ∷ g) = go (nat_le (degree (key_mul t.0 u.0)) n) (mass-row n t g)
  where
    same : nat_abs (t.1 *ℤ u.1) ≡ nat_abs (pos (nat_abs t.1) *ℤ pos (nat_abs u.1))
    same = unsigned_abs-mul t.1 u.1 ∙ sym (unsigned_abs-mul (pos (nat_abs t.1)) (pos (nat_abs u.1)))

    go : (b : Bool) → mass_to n (cut n (row_sum t g)) ≡ mass_to n (cut n (row_sum (positive t) (absolute g)))
        → mass_to n (cond b (term_mul t u ∷ cut n (row_sum t g)) (cut n (row_sum t g))) ≡ mass_to n (cond b (term_mul (positive t) (positive u) ∷ cut n (row_sum (positive t) (absolute g))) (cut n (row_sum (positive t) (absolute g))))
    go true e = same-part (nat_le (degree (key_mul t.0 u.0)) n) _ _ _ _ same e
    go false e = e

pub mass-absolute : (n : ℕ) (f g : Sum) → mass_to n (mul n f g) ≡ mass_to n (mul n (absolute f) (absolute g))
mass-absolute n [] g = refl
mass-absolute n (t ∷ f) g =
    mass-append n (cut n (row_sum t g)) (mul n f g) ∙ rw (mass-row n t g, mass-absolute n f g) (sym (mass-append n (cut n (row_sum (positive t) (absolute g))) (mul n (absolute f) (absolute g))))

pub low-mul : (n : ℕ) (f g : Sum) → Every (λ t. degree t.0 ≤ n) (mul n f g)
low-mul n [] g = tt
low-mul n (t ∷ f) g = Every-append (λ u. degree u.0 ≤ n) (cut n (row_sum t g)) (mul n f g) (low-cut n (row_sum t g)) (low-mul n f g)

pub near-keys : (f : Sum) → HasNearTerms f → Every (λ t. IsNearKey t.0) f
near-keys f h = Every-implies (λ (t : Term). (nat_abs t.0.exp.a ≤ 2 ^ 16) × (nat_abs t.0.exp.b ≤ 2 ^ 16)) (λ t. IsNearKey t.0) f (λ t i. let p = i.0 in let q = i.1 in (omega arith, omega arith)) h

pub valid-factor : (n : ℕ) (f : Sum) → IsValid n f → HasNearTerms f → IsFactor Wrapping f
valid-factor n f v h = record { rises = v.series.rises; keepable = Every-implies (λ (t : Term). nat_abs t.1 < 2 ^ 127) (λ t. IsKeepable Wrapping t.1) f (λ t i. tt) v.small; near = near-keys f h }

pub made-product : (n : ℕ) (a b r : Sum) → n ≤ 24 → mass_to n (mul n (absolute a) (absolute b)) ≤ 2 ^ 126 → IsKeptAs Wrapping n r (mul n a b) → Made n r (mul n a b)
made-product n a b r o mass h = exact n r (mul n a b) o h (λ k. omega (arith, abs-coef n (mul n a b) k (low-mul n a b), mass-absolute n a b, mass))

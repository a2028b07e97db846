-- The coefficients of a sum, by the keys and the degrees of its terms.
use Rattle.std.proofs.Common.{◌≡◌, ℕ, ◌+◌, ◌<◌, ◌≤◌, refl, sym, subst, ap, ◌∙◌, Bool, true, false, cond, not, [], ◌∷◌, arith}
use Rattle.std.specs.Prelude.{pos, ◌+ℤ◌, nat_abs, nat_le}
use Rattle.std.specs.List.{list_any}
use Rattle.scattering.specs.Collections.{Every}
use Rattle.scattering.specs.Series.{Key, Term, Sum, degree, key_eq, unit, coef, coef_at, rest, cut, absolute, mass_to}
use Rattle.scattering.proofs.Keys.{key_eq-same, key_eq-apart}
use Rattle.scattering.proofs.Pairing.{skip-zero}
use Rattle.scattering.proofs.Tests.{nat_le-yes, nat_le-is}

pub coef-none : (f : Sum) (k : Key) → Every (λ t. key_eq t.0 k ≡ false) f → coef f k ≡ pos 0
coef-none [] k h = refl
coef-none (t ∷ f) k h = rw (h.0, coef-none f k h.1) refl

pub coef-above : (n : ℕ) (f : Sum) (k : Key) → Every (λ t. degree t.0 ≤ n) f → n < degree k → coef f k ≡ pos 0
coef-above n [] k h l = refl
coef-above n (t ∷ f) k h l = let p = h.0 in rw (key_eq-apart t k (λ e. absurd (omega (arith, e, p, l))), coef-above n f k h.1 l) refl

pub coef-cut : (n : ℕ) (f : Sum) (k : Key) → degree k ≤ n → coef (cut n f) k ≡ coef f k
coef-cut n [] k l = refl
coef-cut n (t ∷ f) k l = go (nat_le (degree t.0) n) refl (coef-cut n f k l)
  where
    higher : nat_le (degree t.0) n ≡ false → degree t.0 ≡ degree k → ⊥
    higher e d = grind arith

    go : (b : Bool) → nat_le (degree t.0) n ≡ b → coef (cut n f) k ≡ coef f k → coef (cond b (t ∷ cut n f) (cut n f)) k ≡ coef (t ∷ f) k
    go true e h = ap (λ c. coef_at k t +ℤ c) h
    go false e h = rw (key_eq-apart t k (higher e)) (h ∙ sym (skip-zero (coef f k)))

-- ---- the terms other than 1

pub coef-rest : (f : Sum) (k : Key) → key_eq k unit ≡ false → coef (rest f) k ≡ coef f k
coef-rest [] k no_unit = refl
coef-rest (t ∷ f) k no_unit = go (key_eq t.0 unit) refl (key_eq t.0 k) refl (coef-rest f k no_unit)
  where
    go : (b : Bool) → key_eq t.0 unit ≡ b → (c : Bool) → key_eq t.0 k ≡ c → coef (rest f) k ≡ coef f k → coef (rest (t ∷ f)) k ≡ coef (t ∷ f) k
    go true e true q h = let x : key_eq k unit ≡ true = subst (λ (w : Key). key_eq w unit ≡ true) (key_eq-same t.0 k q) e in absurd (cc)
    go true e false q h = rw e (rw q (h ∙ sym (skip-zero (coef f k))))
    go false e true q h = rw e (rw q (ap (λ s. t.1 +ℤ s) h))
    go false e false q h = rw e (rw q (ap (λ s. pos 0 +ℤ s) h))

pub dead-coef : (f : Sum) (k : Key) → list_any (λ (t : Term). true) f ≡ false → coef f k ≡ pos 0
dead-coef [] k e = refl
dead-coef (t ∷ f) k e = absurd (cc)

pub rest-absolute : (f : Sum) → rest (absolute f) ≡ absolute (rest f)
rest-absolute [] = refl
rest-absolute (t ∷ f) = go (key_eq t.0 unit) (rest-absolute f)
  where
    go : (b : Bool) → rest (absolute f) ≡ absolute (rest f) → cond (not b) ((t.0, pos (nat_abs t.1)) ∷ rest (absolute f)) (rest (absolute f)) ≡ absolute (cond (not b) (t ∷ rest f) (rest f))
    go true e = e
    go false e = ap (λ r. (t.0, pos (nat_abs t.1)) ∷ r) e

-- ---- sums cut to a degree

pub cut-low : (n : ℕ) (f : Sum) → Every (λ t. degree t.0 ≤ n) f → cut n f ≡ f
cut-low n [] h = refl
cut-low n (t ∷ f) h = rw (nat_le-is (degree t.0) n h.0) (ap (λ r. t ∷ r) (cut-low n f h.1))

pub low-cut : (n : ℕ) (f : Sum) → Every (λ t. degree t.0 ≤ n) (cut n f)
low-cut n [] = tt
low-cut n (t ∷ f) = go (nat_le (degree t.0) n) refl (low-cut n f)
  where
    go : (b : Bool) → nat_le (degree t.0) n ≡ b → Every (λ u. degree u.0 ≤ n) (cut n f) → Every (λ u. degree u.0 ≤ n) (cond b (t ∷ cut n f) (cut n f))
    go true e h = (nat_le-yes (degree t.0) n e, h)
    go false e h = h

pub cut-cut : (n k : ℕ) → n ≤ k → (f : Sum) → cut n (cut k f) ≡ cut n f
cut-cut n k le [] = refl
cut-cut n k le (t ∷ f) = go (nat_le (degree t.0) k) refl (nat_le (degree t.0) n) refl (cut-cut n k le f)
  where
    within : (d : ℕ) → nat_le d n ≡ true → nat_le d k ≡ true
    within d q = grind arith

    go : (a : Bool) → nat_le (degree t.0) k ≡ a → (b : Bool) → nat_le (degree t.0) n ≡ b → cut n (cut k f) ≡ cut n f → cut n (cond a (t ∷ cut k f) (cut k f)) ≡ cond b (t ∷ cut n f) (cut n f)
    go true p true q h = rw q (ap (λ (r : Sum). t ∷ r) h)
    go true p false q h = rw q h
    go false p true q h = let x : nat_le (degree t.0) k ≡ true = within (degree t.0) q in absurd (cc)
    go false p false q h = h

pub mass-absolute : (n : ℕ) (f : Sum) → mass_to n (absolute f) ≡ mass_to n f
mass-absolute n [] = refl
mass-absolute n (t ∷ f) = ap (λ m. (elim (nat_le (degree t.0) n) [ true ↦ nat_abs t.1 | false ↦ 0 ]) + m) (mass-absolute n f)

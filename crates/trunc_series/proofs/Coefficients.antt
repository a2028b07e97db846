-- The coefficients of a list of terms.
use Rattle.std.proofs.Common.{◌≡◌, ◌≢◌, ℕ, ◌+◌, ◌≤◌, refl, sym, subst, Bool, true, false, cond, [], ◌∷◌, ◌++◌, arith}
use Rattle.std.specs.Prelude.{ℤ, pos, ◌+ℤ◌, nat_abs, IsTrue}
use Rattle.std.proofs.lemmas.Int.{ints}
use Rattle.std.proofs.lemmas.Bool.{le-leb}
use Rattle.scattering.specs.Collections.{Every, EveryPair}
use Rattle.scattering.specs.Series.{Key, Term, Sum, degree, key_eq, key_before, coef, coef_at, mass_to}
use Rattle.scattering.proofs.Keys.{key_eq-same, key_eq-refl}
use Rattle.trunc_series.specs.declared.arithmetic.Arithmetic.{Arithmetic}
use Rattle.trunc_series.specs.Arithmetic.{IsKeepable}
use Rattle.scattering.proofs.Lists.{pairs-implies}
use Rattle.scattering.proofs.Pairing.{coef-append, skip-zero}
use Rattle.scattering.proofs.Coefficients.{coef-none}
use Rattle.scattering.proofs.StrictOrders.{apart}
use Rattle.trunc_series.proofs.Kept.{keepable-zero, keepable-add}

-- ---- facts about each element

pub add-zero : (c : ℤ) → c +ℤ pos 0 ≡ c
add-zero c = omega (arith, ints)

-- ---- coefficients

pub keepable-at : (rule : Arithmetic) (k : Key) (t : Term) → IsKeepable rule t.1 → IsKeepable rule (coef_at k t)
keepable-at rule k t h = go (key_eq t.0 k)
  where
    go : (b : Bool) → IsKeepable rule (cond b t.1 (pos 0))
    go true = h
    go false = keepable-zero rule

pub keepable-coef : (rule : Arithmetic) (f : Sum) (k : Key) → Every (λ t. IsKeepable rule t.1) f → IsKeepable rule (coef f k)
keepable-coef rule [] k h = keepable-zero rule
keepable-coef rule (t ∷ f) k h = keepable-add rule (coef_at k t) (coef f k) (keepable-at rule k t h.0) (keepable-coef rule f k h.1)

-- ---- where no key stands twice

-- no two keys are one
abbrev pub Apart : Sum → Type 0
Apart f = EveryPair (λ t u. key_eq u.0 t.0 ≡ false) f

pub apart-rising : (f : Sum) → EveryPair (λ t u. IsTrue (key_before t.0 u.0)) f → Apart f
apart-rising f r = pairs-implies (λ (t u : Term). IsTrue (key_before t.0 u.0)) (λ t u. key_eq u.0 t.0 ≡ false) f (λ t u. apart t.0 u.0) r

pub apart-distinct : (f : Sum) → EveryPair (λ t u. t.0 ≢ u.0) f → Apart f
apart-distinct f d = pairs-implies (λ (t u : Term). t.0 ≢ u.0) (λ t u. key_eq u.0 t.0 ≡ false) f (λ t u n. go t u n (key_eq u.0 t.0) refl) d
  where
    go : (t u : Term) → t.0 ≢ u.0 → (b : Bool) → key_eq u.0 t.0 ≡ b → b ≡ false
    go t u n false e = refl
    go t u n true e = absurd (n (sym (key_eq-same u.0 t.0 e)))

pub coef-none_at : (t : Term) (f : Sum) (k : Key) → t.0 ≡ k → Every (λ u. key_eq u.0 t.0 ≡ false) f → coef f k ≡ pos 0
coef-none_at t f k q a = coef-none f k (subst (λ (w : Key). Every (λ u. key_eq u.0 w ≡ false) f) q a)

-- each coefficient is 0 or stands in the sum, so what each term has, each coefficient has
pub coef-has : (P : ℤ → Type 0) (f : Sum) → P (pos 0) → Apart f → Every (λ t. P t.1) f → (k : Key) → P (coef f k)
coef-has P [] z r h k = z
coef-has P (t ∷ f) z r h k = go (key_eq t.0 k) refl (coef-has P f z r.1 h.1 k)
  where
    go : (b : Bool) → key_eq t.0 k ≡ b → P (coef f k) → P (coef (t ∷ f) k)
    go true e i = rw (e, coef-none_at t f k (key_eq-same t.0 k e) r.0) (rw (add-zero t.1) h.0)
    go false e i = rw (e, skip-zero (coef f k)) i

-- and the other way
pub has-coef : (P : ℤ → Type 0) (f : Sum) → P (pos 0) → Apart f → ((k : Key) → P (coef f k)) → Every (λ t. P t.1) f
has-coef P [] z r h = tt
has-coef P (t ∷ f) z r h = (first, has-coef P f z r.1 (λ k. go k (key_eq t.0 k) refl))
  where
    first : P t.1
    first = subst P (rw (key_eq-refl t.0, coef-none_at t f t.0 refl r.0) (add-zero t.1)) (h t.0)

    go : (k : Key) (b : Bool) → key_eq t.0 k ≡ b → P (coef f k)
    go k true e = rw (coef-none_at t f k (key_eq-same t.0 k e) r.0) z
    go k false e = subst P (rw (e) (skip-zero (coef f k))) (h k)

-- no coefficient is above the mass
pub abs-add : (x y : ℤ) → nat_abs (x +ℤ y) ≤ nat_abs x + nat_abs y
abs-add x y = omega (arith, ints)

pub abs-coef : (n : ℕ) (f : Sum) (k : Key) → Every (λ t. degree t.0 ≤ n) f → nat_abs (coef f k) ≤ mass_to n f
abs-coef n [] k l = omega arith
abs-coef n (t ∷ f) k l = rw (le-leb (degree t.0) n l.0) (go (key_eq t.0 k) (abs-coef n f k l.1))
  where
    go : (b : Bool) → nat_abs (coef f k) ≤ mass_to n f → nat_abs (cond b t.1 (pos 0) +ℤ coef f k) ≤ nat_abs t.1 + mass_to n f
    go true h = omega (arith, abs-add t.1 (coef f k), h)
    go false h = rw (skip-zero (coef f k)) (omega (arith, h))

-- the sum of two
pub abs-sum : (n : ℕ) (f g : Sum) (k : Key) → Every (λ t. degree t.0 ≤ n) f → Every (λ t. degree t.0 ≤ n) g → nat_abs (coef (f ++ g) k) ≤ mass_to n f + mass_to n g
abs-sum n f g k l m = rw (coef-append f g k) (omega (arith, abs-add (coef f k) (coef g k), abs-coef n f k l, abs-coef n g k m))

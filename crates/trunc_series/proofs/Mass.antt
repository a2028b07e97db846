-- Like terms added, the mass does not grow; so the mass of a series is at most that of each sum with its coefficients.
use Rattle.std.proofs.Common.{◌≡◌, ℕ, ◌+◌, ◌≤◌, refl, sym, subst, ◌∙◌, Bool, true, false, cond, [], ◌∷◌, arith}
use Rattle.std.specs.Prelude.{ℤ, pos, ◌+ℤ◌, nat_abs, nat_le}
use Rattle.scattering.specs.Series.{Key, Term, Sum, IsSeries, Same, degree, key_eq, coef, mass_to}
use Rattle.scattering.proofs.Keys.{key_eq-same, key_eq-refl}
use Rattle.scattering.proofs.Pairing.{without, coef-without, skip-zero}
use Rattle.trunc_series.proofs.Coefficients.{abs-add, Apart, apart-rising, add-zero, coef-none_at}

-- a term's part of the mass
abbrev part : ℕ → Term → ℕ
part n t = elim (nat_le (degree t.0) n) [ true ↦ nat_abs t.1 | false ↦ 0 ]

-- the terms of one key taken out
mass-without : (n : ℕ) (x : Key) (f : Sum) → part n (x, coef f x) + mass_to n (without x f) ≤ mass_to n f
mass-without n x [] = go (nat_le (degree x) n)
  where
    go : (b : Bool) → (elim b [ true ↦ 0 | false ↦ 0 ]) + 0 ≤ 0
    go true = omega arith
    go false = omega arith
mass-without n x (t ∷ f) = go (key_eq t.0 x) refl (mass-without n x f)
  where
    go : (b : Bool) → key_eq t.0 x ≡ b → part n (x, coef f x) + mass_to n (without x f) ≤ mass_to n f → part n (x, coef (t ∷ f) x) + mass_to n (without x (t ∷ f)) ≤ mass_to n (t ∷ f)
    go true e h = rw e (rw (key_eq-same t.0 x e) (low (nat_le (degree x) n) h))
      where
        low : (d : Bool) → (elim d [ true ↦ nat_abs (coef f x) | false ↦ 0 ]) + mass_to n (without x f) ≤ mass_to n f
            → (elim d [ true ↦ nat_abs (t.1 +ℤ coef f x) | false ↦ 0 ]) + mass_to n (without x f) ≤ (elim d [ true ↦ nat_abs t.1 | false ↦ 0 ]) + mass_to n f
        low true g = omega (arith, abs-add t.1 (coef f x), g)
        low false g = omega (arith, g)
    go false e h = rw (e, skip-zero (coef f x)) (omega (arith, h))

pub mass-least : (n : ℕ) (a f : Sum) → Apart a → Same a f → mass_to n a ≤ mass_to n f
mass-least n [] f r s = omega arith
mass-least n (t ∷ a) f r s =
    let own : coef f t.0 ≡ t.1 = sym (s t.0) ∙ rw (key_eq-refl t.0, coef-none_at t a t.0 refl r.0) (add-zero t.1) in
    let h : mass_to n a ≤ mass_to n (without t.0 f) = mass-least n a (without t.0 f) r.1 (λ k. rw (coef-without t.0 k f) (go k (key_eq t.0 k) refl)) in
    let g : part n (t.0, t.1) + mass_to n (without t.0 f) ≤ mass_to n f = subst (λ (c : ℤ). part n (t.0, c) + mass_to n (without t.0 f) ≤ mass_to n f) own (mass-without n t.0 f) in
    omega (arith, h, g)
  where
    go : (k : Key) (b : Bool) → key_eq t.0 k ≡ b → coef a k ≡ cond b (pos 0) (coef f k)
    go k true e = coef-none_at t a k (key_eq-same t.0 k e) r.0
    go k false e = sym (rw e (skip-zero (coef a k))) ∙ s k

pub mass-series : (n m : ℕ) (a f : Sum) → IsSeries m a → Same a f → mass_to n a ≤ mass_to n f
mass-series n m a f v s = mass-least n a f (apart-rising a v.rises) s

-- A majorant's mass tests the mass of what it bounds: where the kept coefficients sum to at most 2^126, so do all.
use Rattle.std.proofs.Common.{min, ◌≡◌, ℕ, ◌+◌, ◌≤◌, ◌^◌, refl, sym, ap, ◌∙◌, Bool, true, false, [], ◌∷◌, arith}
use Rattle.std.specs.Prelude.{ℤ, pos, ◌+ℤ◌, ◌≤ℤ◌, nat_abs, nat_le}
use Rattle.std.specs.Int.{int_min}
use Rattle.std.proofs.lemmas.Int.{ints, clamps}
use Rattle.scattering.proofs.Lists.{Every-filter}
use Rattle.scattering.specs.Collections.{Every}
use Rattle.scattering.specs.Series.{Key, Sum, degree, key_eq, coef, mul, mass_to, absolute}
use Rattle.scattering.proofs.Keys.{key_eq-same, key_eq-refl}
use Rattle.scattering.proofs.Pairing.{without, coef-without, skip-zero}
use Rattle.trunc_series.specs.declared.arithmetic.Arithmetic.TheVariants.{Saturating}
use Rattle.trunc_series.specs.Shown.{Seen}
use Rattle.trunc_series.specs.Arithmetic.{kept, IsKeepable, limit}
use Rattle.trunc_series.specs.Capped.{IsMajorantOf}
use Rattle.trunc_series.specs.Reduced.{IsKeptAs}
use Rattle.trunc_series.specs.Laws.{MajorantTestsProduct}
use Rattle.trunc_series.proofs.Coefficients.{Apart, apart-rising, coef-none_at, has-coef, keepable-coef, add-zero, abs-coef}
use Rattle.std.proofs.Math.Decide.{dec_le}
use Rattle.trunc_series.proofs.Mass.{mass-series}
use Rattle.trunc_series.proofs.Congruence.{product-reduced}
use Rattle.trunc_series.proofs.Rows.{mul-keepable}

-- ---- a majorant is what is kept of a sum

abbrev Fixed : ℤ → Type 0
Fixed c = (int_min c limit ≡ c) × (pos 0 ≤ℤ c)

pub reduced-of : (n : ℕ) (m : Seen) (f : Sum) → IsMajorantOf m n f → Every (λ t. IsKeepable Saturating t.1) f → IsKeptAs Saturating n m.terms f
reduced-of n m f h p = record {
  series = h.series;
  keeps = has-coef Fixed m.terms (refl, omega (arith, ints)) (apart-rising m.terms h.series.rises) (λ k. rw (h.capped k) (let c : pos 0 ≤ℤ coef f k = keepable-coef Saturating f k p in fixed (coef f k) c));
  keepable = p;
  same = λ k. rw (h.capped k) (twice (coef f k));
}
  where
    fixed : (c : ℤ) → pos 0 ≤ℤ c → Fixed (int_min c limit)
    fixed c h = (omega (arith, ints, clamps), omega (arith, ints, clamps, h))

    twice : (c : ℤ) → int_min (int_min c limit) limit ≡ int_min c limit
    twice c = omega (arith, ints, clamps)

pub absolute-positive : (f : Sum) → Every (λ t. IsKeepable Saturating t.1) (absolute f)
absolute-positive [] = tt
absolute-positive (t ∷ f) = (omega (arith, ints), absolute-positive f)

-- ---- masses of sums whose coefficients are at least 0

abbrev part : ℕ → Key → ℤ → ℕ
part n x c = elim (nat_le (degree x) n) [ true ↦ nat_abs c | false ↦ 0 ]

-- the terms of one key taken out
mass-split : (n : ℕ) (x : Key) (f : Sum) → Every (λ t. IsKeepable Saturating t.1) f → mass_to n f ≤ part n x (coef f x) + mass_to n (without x f)
mass-split n x [] p = omega arith
mass-split n x (t ∷ f) p = go (key_eq t.0 x) refl (mass-split n x f p.1)
  where
    go : (b : Bool) → key_eq t.0 x ≡ b → mass_to n f ≤ part n x (coef f x) + mass_to n (without x f) → mass_to n (t ∷ f) ≤ part n x (coef (t ∷ f) x) + mass_to n (without x (t ∷ f))
    go true e h = rw e (rw (key_eq-same t.0 x e) (low (nat_le (degree x) n) h))
      where
        low : (d : Bool) → mass_to n f ≤ (elim d [ true ↦ nat_abs (coef f x) | false ↦ 0 ]) + mass_to n (without x f)
            → (elim d [ true ↦ nat_abs t.1 | false ↦ 0 ]) + mass_to n f ≤ (elim d [ true ↦ nat_abs (t.1 +ℤ coef f x) | false ↦ 0 ]) + mass_to n (without x f)
        low true g = let a : nat_abs t.1 + nat_abs (coef f x) ≡ nat_abs (t.1 +ℤ coef f x) = add t.1 (coef f x) p.0 (keepable-coef Saturating f x p.1) in omega (arith, a, g)
          where
            add : (c d : ℤ) → pos 0 ≤ℤ c → pos 0 ≤ℤ d → nat_abs c + nat_abs d ≡ nat_abs (c +ℤ d)
            add c d u v = omega (arith, ints, u, v)
        low false g = omega (arith, g)
    go false e h = rw (e, skip-zero (coef f x)) (omega (arith, h))

no-mass : (n : ℕ) (f : Sum) → Every (λ t. IsKeepable Saturating t.1) f → ((k : Key) → coef f k ≡ pos 0) → mass_to n f ≤ 0
no-mass n [] p z = omega arith
no-mass n (t ∷ f) p z =
    let own : t.1 +ℤ coef f t.0 ≡ pos 0 = let o : coef (t ∷ f) t.0 ≡ pos 0 = z t.0 in (rw (key_eq-refl t.0) at o) in
    let none : t.1 ≡ pos 0 = first t.1 (coef f t.0) p.0 (keepable-coef Saturating f t.0 p.1) own in
    let h : mass_to n f ≤ 0 = no-mass n f p.1 (λ k. later k (key_eq t.0 k) refl none) in
    nothing (nat_le (degree t.0) n) (ap nat_abs none) h
  where
    first : (c d : ℤ) → pos 0 ≤ℤ c → pos 0 ≤ℤ d → c +ℤ d ≡ pos 0 → c ≡ pos 0
    first c d u v e = omega (arith, ints, u, v, e)

    later : (k : Key) (b : Bool) → key_eq t.0 k ≡ b → t.1 ≡ pos 0 → coef f k ≡ pos 0
    later k true e q = let o : coef (t ∷ f) k ≡ pos 0 = z k in sym (skip-zero (coef f k)) ∙ ap (λ c. c +ℤ coef f k) (sym q) ∙ (rw e at o)
    later k false e q = let o : coef (t ∷ f) k ≡ pos 0 = z k in sym (skip-zero (coef f k)) ∙ (rw e at o)

    nothing : (b : Bool) → nat_abs t.1 ≡ 0 → mass_to n f ≤ 0 → (elim b [ true ↦ nat_abs t.1 | false ↦ 0 ]) + mass_to n f ≤ 0
    nothing true e h = omega (arith, e, h)
    nothing false e h = omega (arith, h)

mass-kept : (n : ℕ) (a f : Sum) → Apart a → Every (λ t. IsKeepable Saturating t.1) a → Every (λ t. IsKeepable Saturating t.1) f
    → ((k : Key) → kept Saturating (coef a k) ≡ kept Saturating (coef f k)) → mass_to n a ≤ 2 ^ 126 → mass_to n f ≤ mass_to n a
mass-kept n [] f r q p s m = no-mass n f p (λ k. zero-kept (coef f k) (s k))
  where
    zero-kept : (c : ℤ) → int_min (pos 0) limit ≡ int_min c limit → c ≡ pos 0
    zero-kept c e = omega (arith, ints, clamps, e)
mass-kept n (t ∷ a) f r q p s m =
    let own : coef (t ∷ a) t.0 ≡ t.1 = rw (key_eq-refl t.0, coef-none_at t a t.0 refl r.0) (add-zero t.1) in
    let e : int_min t.1 limit ≡ int_min (coef f t.0) limit = ap (λ c. int_min c limit) (sym own) ∙ s t.0 in
    let h : mass_to n (without t.0 f) ≤ mass_to n a = mass-kept n a (without t.0 f) r.1 q.1 (Every-filter (λ u. IsKeepable Saturating u.1) _ f p) (λ k. later k (key_eq t.0 k) refl) (omega (arith, m)) in
    let g = mass-split n t.0 f p in
    go (nat_le (degree t.0) n) e h g m
  where
    go : (b : Bool) → int_min t.1 limit ≡ int_min (coef f t.0) limit → mass_to n (without t.0 f) ≤ mass_to n a
        → mass_to n f ≤ (elim b [ true ↦ nat_abs (coef f t.0) | false ↦ 0 ]) + mass_to n (without t.0 f)
        → (elim b [ true ↦ nat_abs t.1 | false ↦ 0 ]) + mass_to n a ≤ 2 ^ 126 → mass_to n f ≤ (elim b [ true ↦ nat_abs t.1 | false ↦ 0 ]) + mass_to n a
    go true e h g l = let c : nat_abs (coef f t.0) ≡ nat_abs t.1 = exact t.1 (coef f t.0) q.0 (keepable-coef Saturating f t.0 p) e (omega (arith, l)) in omega (arith, h, g, c)
      where
        exact : (c d : ℤ) → pos 0 ≤ℤ c → pos 0 ≤ℤ d → int_min c limit ≡ int_min d limit → nat_abs c ≤ 2 ^ 126 → nat_abs d ≡ nat_abs c
        exact c d u v e l = omega (arith, ints, clamps, u, v, e, l)
    go false e h g l = omega (arith, h, g)

    later : (k : Key) (b : Bool) → key_eq t.0 k ≡ b → kept Saturating (coef a k) ≡ kept Saturating (coef (without t.0 f) k)
    later k true e = rw (coef-without t.0 k f, e, coef-none_at t a k (key_eq-same t.0 k e) r.0) refl
    later k false e = let o : kept Saturating (coef (t ∷ a) k) ≡ kept Saturating (coef f k) = s k in rw (coef-without t.0 k f, e) (ap (kept Saturating) (sym (skip-zero (coef a k))) ∙ (rw e at o))

pub majorant-tests : MajorantTestsProduct
majorant-tests n f g a b p ha hb hp m =
    let ra = reduced-of n a (absolute f) ha (absolute-positive f) in
    let rb = reduced-of n b (absolute g) hb (absolute-positive g) in
    let positive = mul-keepable Saturating n a.terms b.terms (whole a.terms ra.keeps) (whole b.terms rb.keeps) in
    let r = product-reduced Saturating n p.terms a.terms b.terms (absolute f) (absolute g) ra rb (reduced-of n p (mul n a.terms b.terms) hp positive) in
    let l = mass-kept n p.terms (mul n (absolute f) (absolute g)) (apart-rising p.terms r.series.rises) (whole p.terms r.keeps) r.keepable r.same m in
    omega (arith, l, m)
  where
    whole : (h : Sum) → Every (λ t. (kept Saturating t.1 ≡ t.1) × IsKeepable Saturating t.1) h → Every (λ t. IsKeepable Saturating t.1) h
    whole [] k = tt
    whole (t ∷ h) k = (k.0.1, whole h k.1)

-- a majorant has the mass of what it bounds, up to the limit
pub majorant-mass : (n : ℕ) (m : Seen) (f : Sum) → IsMajorantOf m n f → Every (λ t. IsKeepable Saturating t.1) f → Every (λ t. degree t.0 ≤ n) f → min (mass_to n m.terms) (2 ^ 126 + 1) ≡ min (mass_to n f) (2 ^ 126 + 1)
majorant-mass n m f h p l = go (dec_le (mass_to n m.terms) (2 ^ 126)) (dec_le (mass_to n f) (2 ^ 126))
  where
    r : IsKeptAs Saturating n m.terms f
    r = reduced-of n m f h p

    keepable : (g : Sum) → Every (λ t. (kept Saturating t.1 ≡ t.1) × IsKeepable Saturating t.1) g → Every (λ t. IsKeepable Saturating t.1) g
    keepable [] k = tt
    keepable (t ∷ g) k = (k.0.1, keepable g k.1)

    above : mass_to n m.terms ≤ 2 ^ 126 → mass_to n f ≤ mass_to n m.terms
    above q = mass-kept n m.terms f (apart-rising m.terms r.series.rises) (keepable m.terms r.keeps) p r.same q

    exact : mass_to n f ≤ 2 ^ 126 → (k : Key) → coef m.terms k ≡ coef f k
    exact q k = h.capped k ∙ small (coef f k) (let b = abs-coef n f k l in omega (arith, b, q))
      where
        small : (c : ℤ) → nat_abs c ≤ 2 ^ 126 → int_min c limit ≡ c
        small c b = omega (arith, ints, clamps, b)

    below : mass_to n f ≤ 2 ^ 126 → mass_to n m.terms ≤ mass_to n f
    below q = mass-series n n m.terms f h.series (exact q)

    go : Dec (mass_to n m.terms ≤ 2 ^ 126) → Dec (mass_to n f ≤ 2 ^ 126) → min (mass_to n m.terms) (2 ^ 126 + 1) ≡ min (mass_to n f) (2 ^ 126 + 1)
    go (yes a) b = let x = above a in let y = below (omega (arith, x, a)) in omega (arith, x, y)
    go (no a) (yes b) = let y = below b in absurd (a (omega (arith, y, b)))
    go (no a) (no b) = omega (arith, a, b)

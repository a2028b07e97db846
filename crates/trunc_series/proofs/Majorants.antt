-- What is kept as the lesser of its value and a limit.
use Rattle.std.proofs.Common.{◌≡◌, ◌≢◌, ℕ, ◌+◌, ◌<◌, ◌≤◌, ◌^◌, refl, sym, ap, ◌∙◌, Bool, true, false, cond, List, [], ◌∷◌, ◌++◌, length, drop, arith, min}
use Rattle.std.specs.Prelude.{ℤ, pos, ◌≤ℤ◌, nat_abs, IsTrue}
use Rattle.std.specs.Int.{int_min}
use Rattle.std.proofs.lemmas.Bool.{le-leb}
use Rattle.std.proofs.lemmas.Int.{ints, clamps}
use Rattle.scattering.specs.Collections.{Every, EveryPair}
use Rattle.scattering.specs.Series.{Key, Term, Sum, degree, key_eq, key_before, coef, coef_at, absolute, mass_to}
use Rattle.scattering.proofs.Lists.{Every-implies}
use Rattle.trunc_series.specs.declared.key.Key.{Key as CodeKey}
use Rattle.trunc_series.specs.declared.arithmetic.Arithmetic.TheVariants.{Saturating}
use Rattle.trunc_series.specs.Shown.{key_of, sum_of, IsValid, HasNearTerms}
use Rattle.trunc_series.specs.Arithmetic.{kept, IsKeepable, limit}
use Rattle.trunc_series.specs.Capped.{IsMajorant}
use Rattle.trunc_series.specs.Reduced.{IsKeptAs, IsFactor, GrowsSlowly, absolute_sum}
use Rattle.trunc_series.proofs.Kept.{kept-kept, kept-same_left, kept-same_right, keepable-kept}
use Rattle.trunc_series.proofs.Coefficients.{apart-rising, coef-has, keepable-at, keepable-coef}
use Rattle.trunc_series.proofs.Terms.{at, Every-at, sum_of-drop, sum_of-push}
use Rattle.trunc_series.proofs.Merging.{Keepable}
use Rattle.trunc_series.proofs.Products.{near-keys}

pub min-fixed : (c : ℤ) → c ≤ℤ limit → int_min c limit ≡ c
min-fixed c h = omega (arith, ints, clamps)

pub min-below : (c : ℤ) → int_min c limit ≡ c → c ≤ℤ limit
min-below c e = omega (arith, ints, clamps)

pub majorant-keepable : (n : ℕ) (f : Sum) → IsMajorant n f → Keepable Saturating f
majorant-keepable n f m = Every-implies (λ (t : Term). (pos 0 ≤ℤ t.1) × (t.1 ≤ℤ limit)) (λ t. IsKeepable Saturating t.1) f (λ t i. i.0) m.range

pub own-majorant : (n : ℕ) (f : Sum) → IsMajorant n f → IsKeptAs Saturating n f f
own-majorant n f m = record {
  series = m.series;
  keeps = Every-implies (λ (t : Term). (pos 0 ≤ℤ t.1) × (t.1 ≤ℤ limit)) (λ t. (kept Saturating t.1 ≡ t.1) × IsKeepable Saturating t.1) f (λ t i. (min-fixed t.1 i.1, i.0)) m.range;
  keepable = majorant-keepable n f m;
  same = λ k. refl;
}

pub majorant-factor : (n : ℕ) (f : Sum) → IsMajorant n f → HasNearTerms f → IsFactor Saturating f
majorant-factor n f m h = record { rises = m.series.rises; keepable = majorant-keepable n f m; near = near-keys f h }

abbrev pub MadeMajorant : ℕ → Sum → Sum → Type 0
MadeMajorant n r f = IsMajorant n r × ((k : Key) → coef r k ≡ int_min (coef f k) limit)

pub reduced-capped : (n : ℕ) (r f : Sum) → IsKeptAs Saturating n r f → (k : Key) → coef r k ≡ int_min (coef f k) limit
reduced-capped n r f h k =
    sym (coef-has (λ c. int_min c limit ≡ c) r refl (apart-rising r h.series.rises) (Every-implies (λ (t : Term). (kept Saturating t.1 ≡ t.1) × IsKeepable Saturating t.1) (λ t. int_min t.1 limit ≡ t.1) r (λ t i. i.0) h.keeps) k) ∙ h.same k

pub made-majorant : (n : ℕ) (r f : Sum) → n ≤ 24 → IsKeptAs Saturating n r f → MadeMajorant n r f
made-majorant n r f o h = (
  record {
    order = o;
    series = h.series;
    range = Every-implies (λ (t : Term). (kept Saturating t.1 ≡ t.1) × IsKeepable Saturating t.1) (λ t. (pos 0 ≤ℤ t.1) × (t.1 ≤ℤ limit)) r (λ t i. (i.1, min-below t.1 i.0)) h.keeps;
  },
  reduced-capped n r f h,
)

-- ---- absolute values

absolute-every : (P Q : Term → Type 0) (f : Sum) → ((t : Term) → P t → Q (t.0, kept Saturating (pos (nat_abs t.1)))) → Every P f → Every Q (absolute_sum f)
absolute-every P Q [] i h = tt
absolute-every P Q (t ∷ f) i h = (i t h.0, absolute-every P Q f i h.1)

absolute-rises : (f : Sum) → EveryPair (λ t u. IsTrue (key_before t.0 u.0)) f → EveryPair (λ t u. IsTrue (key_before t.0 u.0)) (absolute_sum f)
absolute-rises [] h = tt
absolute-rises (t ∷ f) h = (absolute-every (λ u. IsTrue (key_before t.0 u.0)) (λ u. IsTrue (key_before t.0 u.0)) f (λ u b. b) h.0, absolute-rises f h.1)

pub absolute-tame : (f : Sum) → Every (λ t. GrowsSlowly t.0) f → Every (λ t. GrowsSlowly t.0) (absolute_sum f)
absolute-tame f h = absolute-every (λ t. GrowsSlowly t.0) (λ t. GrowsSlowly t.0) f (λ t i. i) h

pub absolute-whole : (f : Sum) → Keepable Saturating (absolute f)
absolute-whole [] = tt
absolute-whole (t ∷ f) = (omega (arith, ints), absolute-whole f)

kept-whole : (f : Sum) → Keepable Saturating (absolute_sum f)
kept-whole [] = tt
kept-whole (t ∷ f) = (let p : pos 0 ≤ℤ pos (nat_abs t.1) = omega (arith, ints) in keepable-kept Saturating (pos (nat_abs t.1)) p, kept-whole f)

absolute-coef : (f : Sum) (k : Key) → kept Saturating (coef (absolute_sum f) k) ≡ kept Saturating (coef (absolute f) k)
absolute-coef [] k = refl
absolute-coef (t ∷ f) k =
    let p : pos 0 ≤ℤ pos (nat_abs t.1) = omega (arith, ints) in
    kept-same_left Saturating (coef_at k (t.0, kept Saturating (pos (nat_abs t.1)))) (coef_at k (t.0, pos (nat_abs t.1))) (coef (absolute_sum f) k)
    (keepable-at Saturating k (t.0, kept Saturating (pos (nat_abs t.1))) (keepable-kept Saturating _ p)) (keepable-at Saturating k (t.0, pos (nat_abs t.1)) p) (keepable-coef Saturating (absolute_sum f) k (kept-whole f)) (same-at (key_eq t.0 k))
    ∙ kept-same_right Saturating (coef_at k (t.0, pos (nat_abs t.1))) (coef (absolute_sum f) k) (coef (absolute f) k) (keepable-at Saturating k (t.0, pos (nat_abs t.1)) p) (keepable-coef Saturating (absolute_sum f) k (kept-whole f)) (keepable-coef Saturating (absolute f) k (absolute-whole f)) (absolute-coef f k)
  where
    same-at : (b : Bool) → kept Saturating (cond b (kept Saturating (pos (nat_abs t.1))) (pos 0)) ≡ kept Saturating (cond b (pos (nat_abs t.1)) (pos 0))
    same-at true = kept-kept Saturating (pos (nat_abs t.1))
    same-at false = refl

absolute-nonzero : (c : ℤ) → c ≢ pos 0 → kept Saturating (pos (nat_abs c)) ≢ pos 0
absolute-nonzero c n e = n (let q : int_min (pos (nat_abs c)) limit ≡ pos 0 = e in omega (arith, ints, clamps))

pub absolute-reduced : (n : ℕ) (f : Sum) → IsValid n f → IsKeptAs Saturating n (absolute_sum f) (absolute f)
absolute-reduced n f v = record {
  series = record {
    rises = absolute-rises f v.series.rises;
    nonzero = absolute-every (λ t. t.1 ≢ pos 0) (λ t. t.1 ≢ pos 0) f (λ t i. absolute-nonzero t.1 i) v.series.nonzero;
    low = absolute-every (λ t. degree t.0 ≤ n) (λ t. degree t.0 ≤ n) f (λ t i. i) v.series.low;
  };
  keeps = absolute-every (λ t. degree t.0 ≤ n) (λ t. (kept Saturating t.1 ≡ t.1) × IsKeepable Saturating t.1) f (λ t i. (kept-kept Saturating (pos (nat_abs t.1)), let p : pos 0 ≤ℤ pos (nat_abs t.1) = omega (arith, ints) in keepable-kept Saturating (pos (nat_abs t.1)) p)) v.series.low;
  keepable = absolute-whole f;
  same = λ k. absolute-coef f k;
}

pub absolute-step : (out a : List (CodeKey × ℤ)) (i : ℕ) (c : ℤ) → i < length a → c ≡ kept Saturating (pos (nat_abs (at a i).1))
    → sum_of (out ++ ((at a i).0, c) ∷ []) ++ absolute_sum (sum_of (drop (i + 1) a)) ≡ sum_of out ++ absolute_sum (sum_of (drop i a))
absolute-step out a i c h e = sum_of-push out ((at a i).0, c) _ ∙ ap (λ r. sum_of out ++ r) (rw e (sym (ap absolute_sum (sum_of-drop a i h))))

-- ---- masses

pub mass-step : (n m : ℕ) (a : List (CodeKey × ℤ)) (i : ℕ) → i < length a → Every (λ t. degree t.0 ≤ n) (sum_of a)
    → min (min (m + nat_abs (at a i).1) (2 ^ 126 + 1) + mass_to n (sum_of (drop (i + 1) a))) (2 ^ 126 + 1) ≡ min (m + mass_to n (sum_of (drop i a))) (2 ^ 126 + 1)
mass-step n m a i h l = rw (sum_of-drop a i h, le-leb (degree (key_of (at a i).0)) n low) (omega arith)
  where
    low : degree (key_of (at a i).0) ≤ n
    low = Every-at (λ t. degree t.0 ≤ n) a i h l

-- Sums and powers of what is left of a list without its constant term.
use Rattle.std.proofs.Common.{◌≡◌, ◌≢◌, ℕ, zero, suc, ◌<◌, ◌≤◌, ◌^◌, refl, sym, ap, ◌∙◌, Bool, true, false, cond, not, [], ◌∷◌, ◌++◌, arith}
use Rattle.std.specs.Prelude.{ℤ, pos, negsuc, ◌<ℤ◌, neg_ℤ, ◌*ℤ◌, ◌≤ℤ◌, nat_le, nat_abs, filter, IsTrue}
use Rattle.std.proofs.lemmas.Int.{ints, unsigned_abs-mul}
use Rattle.scattering.specs.Collections.{Every, EveryPair}
use Rattle.scattering.specs.Series.{Key, Term, Sum, IsSeries, degree, key_eq, key_mul, key_before, term_mul, coef, cut, mul, pow, power, powers_to, unit, rest, absolute, minus, inverse, geometric, mass_to}
use Rattle.scattering.proofs.Lists.{pairs-filter, Every-append, Every-filter}
use Rattle.scattering.proofs.Pairing.{coef-append}
use Rattle.scattering.proofs.Coefficients.{mass-absolute}
use Rattle.trunc_series.specs.declared.arithmetic.Arithmetic.{Arithmetic}
use Rattle.trunc_series.specs.declared.arithmetic.Arithmetic.TheVariants.{Wrapping}
use Rattle.trunc_series.specs.Arithmetic.{kept, IsKeepable, limit}
use Rattle.trunc_series.proofs.Kept.{kept-same_left, kept-same_right}
use Rattle.trunc_series.specs.Shown.{IsValid, majorant_power}
use Rattle.trunc_series.specs.Capped.{IsMajorant}
use Rattle.trunc_series.specs.Reduced.{IsKeptAs, GrowsSlowly}
use Rattle.trunc_series.proofs.Rows.{row_sum}
use Rattle.trunc_series.proofs.Merging.{whole}
use Rattle.trunc_series.proofs.Coefficients.{abs-coef, keepable-coef}
use Rattle.trunc_series.proofs.Exact.{Made, exact, own}
use Rattle.trunc_series.proofs.Congruence.{left-kept, mul-comm}
use Rattle.trunc_series.proofs.PowerLaws.{pow-low, pow-keepable}
use Rattle.trunc_series.proofs.Kept.{keepable-one}

pub majorant-rest : (n : ℕ) (f : Sum) → IsMajorant n f → IsMajorant n (rest f)
majorant-rest n f m = record {
  order = m.order;
  series = record {
    rises = pairs-filter _ (λ t. not (key_eq t.0 unit)) f m.series.rises;
    nonzero = Every-filter _ (λ t. not (key_eq t.0 unit)) f m.series.nonzero;
    low = Every-filter _ (λ t. not (key_eq t.0 unit)) f m.series.low;
  };
  range = Every-filter _ (λ t. not (key_eq t.0 unit)) f m.range;
}

pub absolute-positive : (f : Sum) → Every (λ t. (pos 0 ≤ℤ t.1) × (t.1 ≤ℤ limit)) f → absolute f ≡ f
absolute-positive [] h = refl
absolute-positive (t ∷ f) h =
    let l = h.0.0 in
    let c : pos (nat_abs t.1) ≡ t.1 = omega (arith, ints) in
    let r = absolute-positive f h.1 in
    λ i. (t.0, c i) ∷ r i

pub tame-filter : (p : Term → Bool) (f : Sum) → Every (λ t. GrowsSlowly t.0) f → Every (λ t. GrowsSlowly t.0) (filter p f)
tame-filter p f h = Every-filter (λ t. GrowsSlowly t.0) p f h

-- ---- absolute values of products

absolute-append : (f g : Sum) → absolute (f ++ g) ≡ absolute f ++ absolute g
absolute-append [] g = refl
absolute-append (t ∷ f) g = ap (λ r. (t.0, pos (nat_abs t.1)) ∷ r) (absolute-append f g)

absolute-row : (n : ℕ) (t : Term) (g : Sum) → absolute (cut n (row_sum t g)) ≡ cut n (row_sum (t.0, pos (nat_abs t.1)) (absolute g))
absolute-row n t [] = refl
absolute-row n t (u ∷ g) = go (nat_le (degree (key_mul t.0 u.0)) n) (absolute-row n t g)
  where
    abs : pos (nat_abs (t.1 *ℤ u.1)) ≡ pos (nat_abs t.1) *ℤ pos (nat_abs u.1)
    abs = ap pos (unsigned_abs-mul t.1 u.1)

    go : (b : Bool) → absolute (cut n (row_sum t g)) ≡ cut n (row_sum (t.0, pos (nat_abs t.1)) (absolute g))
        → absolute (cond b (term_mul t u ∷ cut n (row_sum t g)) (cut n (row_sum t g))) ≡ cond b ((key_mul t.0 u.0, pos (nat_abs t.1) *ℤ pos (nat_abs u.1)) ∷ cut n (row_sum (t.0, pos (nat_abs t.1)) (absolute g))) (cut n (row_sum (t.0, pos (nat_abs t.1)) (absolute g)))
    go true e = λ i. (key_mul t.0 u.0, abs i) ∷ e i
    go false e = e

absolute-mul : (n : ℕ) (f g : Sum) → absolute (mul n f g) ≡ mul n (absolute f) (absolute g)
absolute-mul n [] g = refl
absolute-mul n (t ∷ f) g = absolute-append (cut n (row_sum t g)) (mul n f g) ∙ rw (absolute-row n t g, absolute-mul n f g) refl

absolute-pow : (n : ℕ) (f : Sum) (i : ℕ) → absolute (pow n f i) ≡ pow n (absolute f) i
absolute-pow n f zero = refl
absolute-pow n f (suc i) = absolute-mul n f (pow n f i) ∙ ap (mul n (absolute f)) (absolute-pow n f i)

absolute-powers : (n : ℕ) (f : Sum) (i : ℕ) → absolute (powers_to n f i) ≡ powers_to n (absolute f) i
absolute-powers n f zero = refl
absolute-powers n f (suc i) = absolute-append (powers_to n f i) (pow n f (suc i)) ∙ rw (absolute-powers n f i, absolute-pow n f (suc i)) refl

absolute-minus : (f : Sum) → absolute (minus f) ≡ absolute f
absolute-minus [] = refl
absolute-minus (t ∷ f) =
    let c : pos (nat_abs (neg_ℤ t.1)) ≡ pos (nat_abs t.1) = omega (arith, ints) in
    let r = absolute-minus f in
    λ i. (t.0, c i) ∷ r i

absolute-inverse : (n : ℕ) (f : Sum) → absolute (inverse n f) ≡ geometric n f
absolute-inverse n f = absolute-powers n (minus (rest f)) n ∙ ap (λ g. powers_to n g n) (absolute-minus (rest f))

pub mass-pow : (n : ℕ) (f : Sum) (i : ℕ) → mass_to n (pow n f i) ≡ mass_to n (pow n (absolute f) i)
mass-pow n f i = sym (mass-absolute n (pow n f i)) ∙ ap (mass_to n) (absolute-pow n f i)

pub mass-inverse : (n : ℕ) (f : Sum) (i : ℕ) → mass_to n (pow n (inverse n f) i) ≡ mass_to n (pow n (geometric n f) i)
mass-inverse n f i = mass-pow n (inverse n f) i ∙ ap (λ g. mass_to n (pow n g i)) (absolute-inverse n f)

-- ---- opposite coefficients

minus-every : (P Q : Term → Type 0) (f : Sum) → ((t : Term) → P t → Q (t.0, neg_ℤ t.1)) → Every P f → Every Q (minus f)
minus-every P Q [] i h = tt
minus-every P Q (t ∷ f) i h = (i t h.0, minus-every P Q f i h.1)

minus-rises : (f : Sum) → EveryPair (λ t u. IsTrue (key_before t.0 u.0)) f → EveryPair (λ t u. IsTrue (key_before t.0 u.0)) (minus f)
minus-rises [] h = tt
minus-rises (t ∷ f) h = (minus-every (λ u. IsTrue (key_before t.0 u.0)) (λ u. IsTrue (key_before t.0 u.0)) f (λ u b. b) h.0, minus-rises f h.1)

neg-nonzero : (c : ℤ) → c ≢ pos 0 → neg_ℤ c ≢ pos 0
neg-nonzero c n e = n (omega (arith, ints))

pub rest-small : (n : ℕ) (f : Sum) → IsValid n f → Every (λ t. nat_abs t.1 < 2 ^ 127) (rest f)
rest-small n f v = Every-filter (λ t. nat_abs t.1 < 2 ^ 127) (λ t. not (key_eq t.0 unit)) f v.small

pub minus-own : (n : ℕ) (f : Sum) → IsValid n f → IsKeptAs Wrapping n (minus (rest f)) (minus (rest f))
minus-own n f v = own n (minus (rest f)) series (minus-every (λ t. nat_abs t.1 < 2 ^ 127) (λ t. nat_abs t.1 < 2 ^ 127) (rest f) (λ t i. let e : nat_abs (neg_ℤ t.1) ≡ nat_abs t.1 = omega (arith, ints) in rw e i) (rest-small n f v))
  where
    series : IsSeries n (minus (rest f))
    series = record {
      rises = minus-rises (rest f) (pairs-filter _ (λ t. not (key_eq t.0 unit)) f v.series.rises);
      nonzero = minus-every (λ t. t.1 ≢ pos 0) (λ t. t.1 ≢ pos 0) (rest f) (λ t i. neg-nonzero t.1 i) (Every-filter (λ t. t.1 ≢ pos 0) (λ t. not (key_eq t.0 unit)) f v.series.nonzero);
      low = minus-every (λ t. degree t.0 ≤ n) (λ t. degree t.0 ≤ n) (rest f) (λ t i. i) (Every-filter (λ t. degree t.0 ≤ n) (λ t. not (key_eq t.0 unit)) f v.series.low);
    }

pub minus-tame : (f : Sum) → Every (λ t. GrowsSlowly t.0) f → Every (λ t. GrowsSlowly t.0) (minus (rest f))
minus-tame f h = minus-every (λ t. GrowsSlowly t.0) (λ t. GrowsSlowly t.0) (rest f) (λ t i. i) (tame-filter (λ t. not (key_eq t.0 unit)) f h)

-- ---- powers of a list that stands for a sum

pub own-reduced : (rule : Arithmetic) (n : ℕ) (a g : Sum) → IsKeptAs rule n a g → IsKeptAs rule n a a
own-reduced rule n a g h = record { series = h.series; keeps = h.keeps; keepable = whole rule a h.keeps; same = λ k. refl }

pub powers-keepable : (rule : Arithmetic) (n : ℕ) (f : Sum) → Every (λ t. IsKeepable rule t.1) f → (i : ℕ) → Every (λ t. IsKeepable rule t.1) (powers_to n f i)
powers-keepable rule n f k zero = (keepable-one rule, tt)
powers-keepable rule n f k (suc i) = Every-append (λ t. IsKeepable rule t.1) (powers_to n f i) (pow n f (suc i)) (powers-keepable rule n f k i) (pow-keepable rule n f k (suc i))

module _ (rule : Arithmetic) (n : ℕ) (a g : Sum) (h : IsKeptAs rule n a g) where
  pow-same : (i : ℕ) (k : Key) → kept rule (coef (pow n a i) k) ≡ kept rule (coef (pow n g i) k)
  pow-same zero k = refl
  pow-same (suc i) k =
      let ka = whole rule a h.keeps in
      let pa = pow-keepable rule n a ka i in
      let pg = pow-keepable rule n g h.keepable i in
      left-kept rule n a g (pow n a i) k ka h.keepable pa h.same
      ∙ ap (kept rule) (mul-comm n g (pow n a i) k)
      ∙ left-kept rule n (pow n a i) (pow n g i) g k pa pg h.keepable (pow-same i)
      ∙ ap (kept rule) (mul-comm n (pow n g i) g k)

  pub pow-reduced : (i : ℕ) (p : Sum) → IsKeptAs rule n p (pow n a i) → IsKeptAs rule n p (pow n g i)
  pow-reduced i p r = record { series = r.series; keeps = r.keeps; keepable = pow-keepable rule n g h.keepable i; same = λ k. r.same k ∙ pow-same i k }

  powers-same : (i : ℕ) (k : Key) → kept rule (coef (powers_to n a i) k) ≡ kept rule (coef (powers_to n g i) k)
  powers-same zero k = refl
  powers-same (suc i) k =
      let ka = whole rule a h.keeps in
      let sa = keepable-coef rule (powers_to n a i) k (powers-keepable rule n a ka i) in
      let sg = keepable-coef rule (powers_to n g i) k (powers-keepable rule n g h.keepable i) in
      let pa = keepable-coef rule (pow n a (suc i)) k (pow-keepable rule n a ka (suc i)) in
      let pg = keepable-coef rule (pow n g (suc i)) k (pow-keepable rule n g h.keepable (suc i)) in
      ap (kept rule) (coef-append (powers_to n a i) (pow n a (suc i)) k)
      ∙ kept-same_left rule (coef (powers_to n a i) k) (coef (powers_to n g i) k) (coef (pow n a (suc i)) k) sa sg pa (powers-same i k)
      ∙ kept-same_right rule (coef (powers_to n g i) k) (coef (pow n a (suc i)) k) (coef (pow n g (suc i)) k) sg pa pg (pow-same (suc i) k)
      ∙ ap (kept rule) (sym (coef-append (powers_to n g i) (pow n g (suc i)) k))

  pub powers-reduced : (i : ℕ) (p : Sum) → IsKeptAs rule n p (powers_to n a i) → IsKeptAs rule n p (powers_to n g i)
  powers-reduced i p r = record { series = r.series; keeps = r.keeps; keepable = powers-keepable rule n g h.keepable i; same = λ k. r.same k ∙ powers-same i k }

pub rest-valid : (n : ℕ) (f : Sum) → IsValid n f → IsValid n (rest f)
rest-valid n f v = record {
  order = v.order;
  series = record {
    rises = pairs-filter _ (λ t. not (key_eq t.0 unit)) f v.series.rises;
    nonzero = Every-filter _ (λ t. not (key_eq t.0 unit)) f v.series.nonzero;
    low = Every-filter _ (λ t. not (key_eq t.0 unit)) f v.series.low;
  };
  small = rest-small n f v;
}

-- ---- powers of a series

pub made-power : (n : ℕ) (f r : Sum) → n ≤ 24 → (z : ℤ) → mass_to n (majorant_power n f z) ≤ 2 ^ 126 → IsKeptAs Wrapping n r (power n f z) → Made n r (power n f z)
made-power n f r o (pos i) m h = exact n r (pow n f i) o h (λ k. omega (arith, abs-coef n (pow n f i) k (pow-low n f i), mass-pow n f i, m))
made-power n f r o (negsuc i) m h = exact n r (pow n (inverse n f) (suc i)) o h (λ k. omega (arith, abs-coef n (pow n (inverse n f) (suc i)) k (pow-low n (inverse n f) (suc i)), mass-inverse n f (suc i), m))

-- by the sign of the exponent
pub power-positive : (n : ℕ) (f : Sum) (z : ℤ) → pos 0 ≤ℤ z → pow n f (nat_abs z) ≡ power n f z
power-positive n f (pos i) h = refl
power-positive n f (negsuc i) h = absurd (omega (arith, ints))

pub power-negative : (n : ℕ) (f : Sum) (z : ℤ) → z <ℤ pos 0 → pow n (inverse n f) (nat_abs z) ≡ power n f z
power-negative n f (pos i) h = absurd (omega (arith, ints))
power-negative n f (negsuc i) h = refl

-- What is kept modulo 2^128 is exact where the true coefficients are below 2^127.
use Rattle.std.proofs.Common.{◌≡◌, ◌≢◌, ◌+◌, ◌++◌, subst, cond, Bool, true, false, ℕ, ◌<◌, ◌≤◌, ◌^◌, refl, sym, ap, ◌∙◌, arith, List, [], ◌∷◌}
use Rattle.std.specs.Prelude.{ℤ, pos, nat_abs, IsTrue, nat_le, filter}
use Rattle.std.specs.Int.{int_wrap}
use Rattle.std.proofs.lemmas.Int.{int_wrap_fits, fits_signed_from_abs}
use mir.Syntax.{w128}
use Rattle.scattering.specs.Collections.{Every, EveryPair}
use Rattle.scattering.specs.Series.{Key, Term, Sum, IsSeries, Same, coef, degree, cut, mass_to, key_before}
use Rattle.scattering.proofs.Lists.{Every-implies}
use Rattle.scattering.proofs.Coefficients.{low-cut}
use Rattle.trunc_series.specs.declared.key.Key.{Key as CodeKey}
use Rattle.trunc_series.specs.declared.arithmetic.Arithmetic.TheVariants.{Wrapping}
use Rattle.trunc_series.specs.Shown.{key_of, term_of, sum_of, IsValid, IsTerm}
use Rattle.trunc_series.specs.Arithmetic.{kept, IsKeepable}
use Rattle.trunc_series.specs.Reduced.{IsKeptAs}
use Rattle.trunc_series.proofs.Coefficients.{apart-rising, apart-distinct, coef-has, has-coef, abs-sum}

pub wrap-small : (c : ℤ) → nat_abs c < 2 ^ 127 → int_wrap w128 c ≡ c
wrap-small c h = int_wrap_fits w128 c (fits_signed_from_abs w128 c h)

-- a series stands for itself
pub own : (n : ℕ) (f : Sum) → IsSeries n f → Every (λ t. nat_abs t.1 < 2 ^ 127) f → IsKeptAs Wrapping n f f
own n f s h = record {
  series = s;
  keeps = Every-implies (λ (t : Term). nat_abs t.1 < 2 ^ 127) (λ t. (kept Wrapping t.1 ≡ t.1) × IsKeepable Wrapping t.1) f (λ t i. (wrap-small t.1 i, tt)) h;
  keepable = Every-implies (λ (t : Term). nat_abs t.1 < 2 ^ 127) (λ t. IsKeepable Wrapping t.1) f (λ t i. tt) h;
  same = λ k. refl;
}

pub exact-same : (n : ℕ) (r f : Sum) → IsKeptAs Wrapping n r f → ((k : Key) → nat_abs (coef f k) < 2 ^ 127) → Same r f
exact-same n r f h small k =
    sym (coef-has (λ c. int_wrap w128 c ≡ c) r (wrap-small (pos 0) (omega arith)) (apart-rising r h.series.rises) (Every-implies (λ (t : Term). (kept Wrapping t.1 ≡ t.1) × IsKeepable Wrapping t.1) (λ t. int_wrap w128 t.1 ≡ t.1) r (λ t i. i.0) h.keeps) k)
    ∙ h.same k ∙ wrap-small (coef f k) (small k)

pub exact-valid : (n : ℕ) (r f : Sum) → n ≤ 24 → IsKeptAs Wrapping n r f → ((k : Key) → nat_abs (coef f k) < 2 ^ 127) → IsValid n r
exact-valid n r f o h small = record {
  order = o;
  series = h.series;
  small = has-coef (λ c. nat_abs c < 2 ^ 127) r (omega arith) (apart-rising r h.series.rises) (λ k. let e = exact-same n r f h small k in rw e (small k));
}

-- ---- what the operations make

pub exact : (n : ℕ) (r f : Sum) → n ≤ 24 → IsKeptAs Wrapping n r f → ((k : Key) → nat_abs (coef f k) < 2 ^ 127) → IsValid n r × Same r f
exact n r f o h small = (exact-valid n r f o h small, exact-same n r f h small)

abbrev pub Made : ℕ → Sum → Sum → Type 0
Made n r f = IsValid n r × Same r f

pub made-sum : (n m : ℕ) (a b r : Sum) → IsValid n a → IsValid m b → m ≡ n → mass_to n a + mass_to m b ≤ 2 ^ 126
    → ((l : ℕ) (f g : Sum) → IsKeptAs Wrapping l a f → IsKeptAs Wrapping l b g → IsKeptAs Wrapping l r (f ++ g)) → Made n r (a ++ b)
made-sum n m a b r v w e mass h =
    let w' : IsValid n b = subst (λ (k : ℕ). IsValid k b) e w in
    let mass' : mass_to n a + mass_to n b ≤ 2 ^ 126 = subst (λ (k : ℕ). mass_to n a + mass_to k b ≤ 2 ^ 126) e mass in
    exact n r (a ++ b) v.order (h n a b (own n a v.series v.small) (own n b w'.series w'.small)) (λ k. omega (arith, abs-sum n a b k v.series.low w'.series.low))

pub made-terms : (n : ℕ) (r f : Sum) → n ≤ 24 → EveryPair (λ t u. t.0 ≢ u.0) f → Every (IsTerm n) f → IsKeptAs Wrapping n r f → Made n r f
made-terms n r f o d e h =
    exact n r f o h (λ k. coef-has (λ c. nat_abs c < 2 ^ 127) f (omega arith) (apart-distinct f d) (Every-implies (IsTerm n) (λ t. nat_abs t.1 < 2 ^ 127) f (λ t i. i.1) e) k)

pub made-rising : (n : ℕ) (f : Sum) → n ≤ 24 → EveryPair (λ t u. IsTrue (key_before t.0 u.0)) f → Every (IsTerm n) f → Made n f f
made-rising n f o r e = (
  record {
    order = o;
    series = record { rises = r; nonzero = Every-implies (IsTerm n) (λ t. t.1 ≢ pos 0) f (λ t i. i.0) e; low = Every-implies (IsTerm n) (λ t. degree t.0 ≤ n) f (λ t i. i.2) e };
    small = Every-implies (IsTerm n) (λ t. nat_abs t.1 < 2 ^ 127) f (λ t i. i.1) e;
  },
  λ k. refl,
)

-- ---- the terms of low degree

Every-cut : (P : Term → Type 0) (n : ℕ) (f : Sum) → Every P f → Every P (cut n f)
Every-cut P n [] h = tt
Every-cut P n (t ∷ f) h = go (nat_le (degree t.0) n) (Every-cut P n f h.1)
  where
    go : (b : Bool) → Every P (cut n f) → Every P (cond b (t ∷ cut n f) (cut n f))
    go true i = (h.0, i)
    go false i = i

rises-cut : (n : ℕ) (f : Sum) → EveryPair (λ t u. IsTrue (key_before t.0 u.0)) f → EveryPair (λ t u. IsTrue (key_before t.0 u.0)) (cut n f)
rises-cut n [] h = tt
rises-cut n (t ∷ f) h = go (nat_le (degree t.0) n) (rises-cut n f h.1)
  where
    go : (b : Bool) → EveryPair (λ t u. IsTrue (key_before t.0 u.0)) (cut n f) → EveryPair (λ t u. IsTrue (key_before t.0 u.0)) (cond b (t ∷ cut n f) (cut n f))
    go true i = (Every-cut (λ u. IsTrue (key_before t.0 u.0)) n f h.0, i)
    go false i = i

pub made-cut : (n m : ℕ) (f : Sum) → IsValid m f → n ≤ m → Made n (cut n f) (cut n f)
made-cut n m f v l = (
  record {
    order = let o = v.order in omega arith;
    series = record { rises = rises-cut n f v.series.rises; nonzero = Every-cut (λ t. t.1 ≢ pos 0) n f v.series.nonzero; low = low-cut n f };
    small = Every-cut (λ t. nat_abs t.1 < 2 ^ 127) n f v.small;
  },
  λ k. refl,
)

pub sum_of-filter : (n : ℕ) (a : List (CodeKey × ℤ)) → sum_of (filter (λ t. nat_le (degree (key_of t.0)) n) a) ≡ cut n (sum_of a)
sum_of-filter n [] = refl
sum_of-filter n (t ∷ a) = go (nat_le (degree (key_of t.0)) n) (sum_of-filter n a)
  where
    go : (b : Bool) → sum_of (filter (λ t. nat_le (degree (key_of t.0)) n) a) ≡ cut n (sum_of a)
        → sum_of (cond b (t ∷ filter (λ t. nat_le (degree (key_of t.0)) n) a) (filter (λ t. nat_le (degree (key_of t.0)) n) a)) ≡ cond b (term_of t ∷ cut n (sum_of a)) (cut n (sum_of a))
    go true i = ap (λ r. term_of t ∷ r) i
    go false i = i

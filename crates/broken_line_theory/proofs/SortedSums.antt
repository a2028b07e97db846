-- A series for any finite sum: terms are put in one after another.
use Rattle.std.proofs.Common.{◌≡◌, ◌≢◌, ℕ, refl, sym, ap, ◌∙◌, ◌≤◌, ◌⊎◌, inl, inr, arith, Bool, true, false, [], ◌∷◌, cond}
use Rattle.std.specs.Prelude.{ℤ, pos, ◌+ℤ◌, IsTrue}
use Rattle.std.proofs.lemmas.Int.{ints}
use Rattle.scattering.specs.Collections.{Every}
use Rattle.scattering.specs.Series.{Key, Term, Sum, key_eq, key_before, coef, coef_at, degree, IsSeries}
use Rattle.scattering.proofs.Lists.{Every-implies}
use Rattle.scattering.proofs.KeyOrder.{key_before-trans}
use Rattle.sum_algebra.proofs.Integers.{zero-or-not}
use Rattle.plane_theory.proofs.TotalOrder.{Compared, key-total}

abbrev AreAfter : Key → Sum → Type 0
AreAfter k f = Every (λ u. IsTrue (key_before k u.0)) f

-- b is f with the term t put in
record Inserted (n : ℕ) (t : Term) (f : Sum) : Type 0 where
  b : Sum
  series : IsSeries n b
  coefs : (x : Key) → coef b x ≡ coef_at x t +ℤ coef f x
  after : (k : Key) → key_before k t.0 ≡ true → AreAfter k f → AreAfter k b

all-after : (k l : Key) (f : Sum) → key_before k l ≡ true → AreAfter l f → AreAfter k f
all-after k l f h a = Every-implies (λ u. IsTrue (key_before l u.0)) (λ u. IsTrue (key_before k u.0)) f (λ u j. key_before-trans k l u.0 h j) a

tail-series : (n : ℕ) (u : Term) (f : Sum) → IsSeries n (u ∷ f) → IsSeries n f
tail-series n u f s = record { rises = s.rises.1; nonzero = s.nonzero.1; low = s.low.1 }

swapped : (a b c : ℤ) → a +ℤ (b +ℤ c) ≡ b +ℤ (a +ℤ c)
swapped a b c = omega (arith, ints)

-- two terms of one key
like : (k : Key) (a b c : ℤ) (x : Key) → cond (key_eq k x) (a +ℤ b) (pos 0) +ℤ c ≡ cond (key_eq k x) a (pos 0) +ℤ (cond (key_eq k x) b (pos 0) +ℤ c)
like k a b c x = go (key_eq k x)
  where
    go : (d : Bool) → cond d (a +ℤ b) (pos 0) +ℤ c ≡ cond d a (pos 0) +ℤ (cond d b (pos 0) +ℤ c)
    go true = omega (arith, ints)
    go false = omega (arith, ints)

nothing-at : (k : Key) (c : ℤ) (x : Key) → cond (key_eq k x) (pos 0) (pos 0) +ℤ c ≡ c
nothing-at k c x = go (key_eq k x)
  where
    go : (d : Bool) → cond d (pos 0) (pos 0) +ℤ c ≡ c
    go true = omega (arith, ints)
    go false = omega (arith, ints)

insert : (n : ℕ) (t : Term) (f : Sum) → t.1 ≢ pos 0 → degree t.0 ≤ n → IsSeries n f → Inserted n t f
insert n t [] z l s = record {
  b = t ∷ [];
  series = record { rises = (tt, tt); nonzero = (z, tt); low = (l, tt) };
  coefs = λ x. refl;
  after = λ k h a. (h, tt);
}
insert n t (u ∷ f) z l s = go (insert n t f z l (tail-series n u f s)) (key-total t.0 u.0)
  where
    first : key_before t.0 u.0 ≡ true → Inserted n t (u ∷ f)
    first h = record {
      b = t ∷ u ∷ f;
      series = record { rises = ((h, all-after t.0 u.0 f h s.rises.0), s.rises); nonzero = (z, s.nonzero); low = (l, s.low) };
      coefs = λ x. refl;
      after = λ k h a. (h, a);
    }

    further : Inserted n t f → key_before u.0 t.0 ≡ true → Inserted n t (u ∷ f)
    further r h = record {
      b = u ∷ r.b;
      series = record { rises = (r.after u.0 h s.rises.0, r.series.rises); nonzero = (s.nonzero.0, r.series.nonzero); low = (s.low.0, r.series.low) };
      coefs = λ x. ap (λ c. coef_at x u +ℤ c) (r.coefs x) ∙ swapped (coef_at x u) (coef_at x t) (coef f x);
      after = λ k g a. (a.0, r.after k g a.1);
    }

    added : t.0 ≡ u.0 → (t.1 +ℤ u.1 ≡ pos 0) ⊎ (t.1 +ℤ u.1 ≢ pos 0) → Inserted n t (u ∷ f)
    added e (inl v) = record {
      b = f;
      series = tail-series n u f s;
      coefs = λ x.
          sym (nothing-at u.0 (coef f x) x) ∙ ap (λ c. cond (key_eq u.0 x) c (pos 0) +ℤ coef f x) (sym v)
          ∙ like u.0 t.1 u.1 (coef f x) x ∙ ap (λ k. cond (key_eq k x) t.1 (pos 0) +ℤ coef (u ∷ f) x) (sym e);
      after = λ k h a. a.1;
    }
    added e (inr v) = record {
      b = (u.0, t.1 +ℤ u.1) ∷ f;
      series = record { rises = s.rises; nonzero = (v, s.nonzero.1); low = s.low };
      coefs = λ x. like u.0 t.1 u.1 (coef f x) x ∙ ap (λ k. cond (key_eq k x) t.1 (pos 0) +ℤ coef (u ∷ f) x) (sym e);
      after = λ k h a. a;
    }

    go : Inserted n t f → Compared (key_before t.0 u.0) (key_before u.0 t.0) (t.0 ≡ u.0) → Inserted n t (u ∷ f)
    go r (inl h) = first h
    go r (inr (inl h)) = further r h
    go r (inr (inr e)) = added e (zero-or-not (t.1 +ℤ u.1))

-- the series that has the coefficients of a sum
pub series-of : (n : ℕ) (f : Sum) → Every (λ t. degree t.0 ≤ n) f → (b : Sum) × IsSeries n b × ((x : Key) → coef b x ≡ coef f x)
series-of n [] l = ([], record { rises = tt; nonzero = tt; low = tt }, λ x. refl)
series-of n (t ∷ f) l = go (series-of n f l.1) (zero-or-not t.1)
  where
    none : (d : Bool) (a c : ℤ) → a ≡ pos 0 → c ≡ cond d a (pos 0) +ℤ c
    none true a c e = omega (arith, ints, e)
    none false a c e = omega (arith, ints)

    go : ((b : Sum) × IsSeries n b × ((x : Key) → coef b x ≡ coef f x)) → (t.1 ≡ pos 0) ⊎ (t.1 ≢ pos 0) → (b : Sum) × IsSeries n b × ((x : Key) → coef b x ≡ coef (t ∷ f) x)
    go r (inl e) = (r.0, r.1, λ x. r.2 x ∙ none (key_eq t.0 x) t.1 (coef f x) e)
    go r (inr z) = let i = insert n t r.0 z l.0 r.1 in (i.b, i.series, λ x. i.coefs x ∙ ap (λ c. coef_at x t +ℤ c) (r.2 x))

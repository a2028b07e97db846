-- A term added to a wall function.
use Rattle.std.proofs.Common.{◌≡◌, ◌≢◌, ℕ, refl, subst, sym, ◌∙◌, ap, [], ◌∷◌, Bool, true, false, cond, not, ◌≤◌, arith, inl, inr, ◌⊎◌}
use Rattle.std.specs.Prelude.{ℤ, pos, ◌+ℤ◌}
use Rattle.std.proofs.lemmas.Int.{ints}
use Rattle.sum_algebra.proofs.Ring.{nought, ring}
use Rattle.sum_algebra.proofs.IntegerRing.{ints_ring, ◌:+◌, X}
use Rattle.sum_algebra.proofs.Integers.{zero-or-not}
use Rattle.scattering.specs.Collections.{In}
use Rattle.scattering.specs.Series.{Key, Sum, Exp, Term, degree, rest, one, unit, coef, coef_at, key_eq, key_before, IsMultiple, IsWallFunction}
use Rattle.scattering.proofs.Lists.{Every-from_In, Every-at, filter-from, filter-keeps, not-out, Every-implies}
use Rattle.scattering.proofs.Keys.{key_eq-same, key_eq-refl, key_eq-apart}
use Rattle.scattering.proofs.Coefficients.{coef-none, coef-rest}
use Rattle.scattering.proofs.KeyOrder.{key_before-trans}
use Rattle.plane_theory.proofs.TotalOrder.{key-total}
use Rattle.correction_theory.proofs.Insertion.{total, Joined, Inserted, insert}

pub rest-at-unit : (f : Sum) → coef (rest f) unit ≡ pos 0
rest-at-unit f = coef-none (rest f) unit (Every-from_In _ (rest f) (λ t i. not-out (key_eq t.0 unit) (filter-from (λ (t : Term). not (key_eq t.0 unit)) f t i).1))

-- ---- terms in the order of keys

abbrev GoodTerm : ℕ → Exp → Term → Type 0
GoodTerm n d t = (t.1 ≢ pos 0) × (degree t.0 ≤ n) × ((t.0 ≡ unit) ⊎ ((1 ≤ degree t.0) × IsMultiple d t.0.exp))

abbrev key_of : Term → Key
key_of t = t.0

total-is : (n : ℕ) (d : Exp) (x : Key) (f : Sum) → total key_of key_before (GoodTerm n d) coef_at x f ≡ coef f x
total-is n d x [] = refl
total-is n d x (t ∷ f) = ap (λ c. coef_at x t +ℤ c) (total-is n d x f)

at-both : (b : Bool) (v w : ℤ) → cond b (v +ℤ w) (pos 0) +ℤ pos 0 ≡ cond b v (pos 0) +ℤ cond b w (pos 0)
at-both true v w = ring ints_ring ((v +ℤ w) ∷ []) (X :+ nought) X refl
at-both false v w = refl

at-none : (b : Bool) (v w : ℤ) → v +ℤ w ≡ pos 0 → pos 0 ≡ cond b v (pos 0) +ℤ cond b w (pos 0)
at-none true v w e = sym e
at-none false v w e = refl

-- two terms of one key
join-terms : (n : ℕ) (d : Exp) (t : Term) → GoodTerm n d t → (u : Term) → GoodTerm n d u → t.0 ≡ u.0 → Joined key_of key_before (GoodTerm n d) coef_at t u
join-terms n d t gt u gu e = go (zero-or-not (t.1 +ℤ u.1))
  where
    there : (x : Key) → cond (key_eq u.0 x) t.1 (pos 0) +ℤ coef_at x u ≡ coef_at x t +ℤ coef_at x u
    there x = ap (λ (k : Key). cond (key_eq k x) t.1 (pos 0) +ℤ coef_at x u) (sym e)

    go : (t.1 +ℤ u.1 ≡ pos 0) ⊎ (t.1 +ℤ u.1 ≢ pos 0) → Joined key_of key_before (GoodTerm n d) coef_at t u
    go (inl z) = record { items = []; good = tt; ordered = tt; same = tt; sums = λ x. at-none (key_eq u.0 x) t.1 u.1 z ∙ there x }
    go (inr z) = record {
      items = (u.0, t.1 +ℤ u.1) ∷ [];
      good = ((z, gu.1, gu.2), tt);
      ordered = (tt, tt);
      same = (refl, tt);
      sums = λ x. at-both (key_eq u.0 x) t.1 u.1 ∙ there x;
    }

-- ---- a term more

pub record Added (n : ℕ) (d : Exp) (f : Sum) (t : Term) : Type 0 where
  pub function : Sum
  pub is : IsWallFunction n d function
  pub terms : (x : Key) → coef (rest function) x ≡ coef_at x t +ℤ coef (rest f) x

pub add-term : (n : ℕ) (d : Exp) (f : Sum) (t : Term) → IsWallFunction n d f → t.1 ≢ pos 0 → 1 ≤ degree t.0 → degree t.0 ≤ n → IsMultiple d t.0.exp → Added n d f t
add-term n d f t w nonzero high low multiple = record {
  function = r.items;
  is = record {
    series = record { rises = r.ordered; nonzero = Every-implies _ _ r.items (λ u g. g.0) r.good; low = Every-implies _ _ r.items (λ u g. g.1) r.good };
    constant = whole unit ∙ ap (λ c. c +ℤ coef f unit) (apart unit at-unit) ∙ ap (λ c. pos 0 +ℤ c) w.constant;
    others = Every-from_In _ (rest r.items) (λ u i.
        let j = filter-from (λ (t : Term). not (key_eq t.0 unit)) r.items u i in
        other u (not-out (key_eq u.0 unit) j.1) (Every-at (GoodTerm n d) r.items u r.good j.0).2);
  };
  terms = terms;
}
  where
    good : (u : Term) → In u f → GoodTerm n d u
    good u i = (Every-at _ f u w.series.nonzero i, Every-at _ f u w.series.low i, which (key_eq u.0 unit) refl)
      where
        which : (b : Bool) → key_eq u.0 unit ≡ b → (u.0 ≡ unit) ⊎ ((1 ≤ degree u.0) × IsMultiple d u.0.exp)
        which true e = inl (key_eq-same u.0 unit e)
        which false e = inr (Every-at _ (rest f) u w.others (filter-keeps (λ (t : Term). not (key_eq t.0 unit)) f u i (ap not e)))

    other : (u : Term) → key_eq u.0 unit ≡ false → (u.0 ≡ unit) ⊎ ((1 ≤ degree u.0) × IsMultiple d u.0.exp) → (1 ≤ degree u.0) × IsMultiple d u.0.exp
    other u e (inl q) = let s : key_eq u.0 unit ≡ true = subst (λ (k : Key). key_eq u.0 k ≡ true) q (key_eq-refl u.0) in absurd (cc)
    other u e (inr h) = h

    r : Inserted key_of key_before (GoodTerm n d) coef_at t f
    r =
        insert key_of key_before (GoodTerm n d) coef_at
        (λ a b c _ _ _ p q. key_before-trans a.0 b.0 c.0 p q) t (nonzero, low, inr (high, multiple)) (λ u _. key-total t.0 u.0) (join-terms n d t (nonzero, low, inr (high, multiple)))
        f (Every-from_In (GoodTerm n d) f good) w.series.rises

    whole : (x : Key) → coef r.items x ≡ coef_at x t +ℤ coef f x
    whole x = sym (total-is n d x r.items) ∙ r.sums x ∙ ap (λ c. coef_at x t +ℤ c) (total-is n d x f)

    at-unit : key_eq t.0 unit ≡ false
    at-unit = key_eq-apart t unit (λ e. let q : degree t.0 ≡ 0 = e in omega (arith, q, high))

    apart : (x : Key) → key_eq t.0 x ≡ false → coef_at x t ≡ pos 0
    apart x e = rw e refl

    terms : (x : Key) → coef (rest r.items) x ≡ coef_at x t +ℤ coef (rest f) x
    terms x = go (key_eq x unit) refl
      where
        go : (b : Bool) → key_eq x unit ≡ b → coef (rest r.items) x ≡ coef_at x t +ℤ coef (rest f) x
        go true e =
            ap (λ (k : Key). coef (rest r.items) k) (key_eq-same x unit e) ∙ rest-at-unit r.items
            ∙ sym (ap (λ (k : Key). coef_at k t +ℤ coef (rest f) k) (key_eq-same x unit e) ∙ ap (λ c. coef_at unit t +ℤ c) (rest-at-unit f) ∙ ap (λ c. c +ℤ pos 0) (apart unit at-unit))
        go false e = coef-rest r.items x e ∙ whole x ∙ ap (λ c. coef_at x t +ℤ c) (sym (coef-rest f x e))

-- the function 1
pub one-is : (n : ℕ) (d : Exp) → IsWallFunction n d one
one-is n d = record { series = record { rises = (tt, tt); nonzero = (λ e. apart e, tt); low = (omega arith, tt) }; constant = refl; others = tt }
  where
    apart : pos 1 ≡ pos 0 → ⊥
    apart e = omega (arith, ints, e)

-- Wall functions with more terms, and read at a higher order.
use Rattle.std.proofs.Common.{◌≡◌, ◌≢◌, ℕ, ◌+◌, ◌≤◌, refl, sym, subst, ap, ◌∙◌, Bool, true, false, cond, not, [], ◌∷◌, ◌++◌, arith, inl}
use Rattle.std.specs.Prelude.{pos, ◌+ℤ◌, nat_abs, nat_le, IsTrue}
use Rattle.std.specs.List.{list_any}
use Rattle.scattering.specs.Collections.{In, Every, EveryPair}
use Rattle.scattering.specs.Series.{Exp, Key, Term, Sum, degree, unit, one, coef, rest, key_eq, key_before, mass_to, IsMultiple, IsWallFunction}
use Rattle.scattering.proofs.Lists.{Every-from_In, Every-at, Every-implies, Every-append, Every-filter, filter-from, filter-keeps, not-out, pairs-append, pairs-filter}
use Rattle.scattering.proofs.Keys.{key_eq-same, key_eq-refl, key_eq-apart}
use Rattle.scattering.proofs.DistinctKeys.{rising-distinct}
use Rattle.scattering.specs.Wall.{Outgoing}
use Rattle.scattering.proofs.Coefficients.{coef-none, coef-rest}
use Rattle.scattering.proofs.Pairing.{coef-append, skip-zero}
use Rattle.scattering.proofs.Determined.{coef-own, coef-find}
use Rattle.correction_theory.proofs.MergedTerms.{rest-at-unit}
use Rattle.correction_theory.proofs.MergedDiagram.{live-by}
use Rattle.trunc_series.specs.Shown.{Seen, IsSeriesOf}
use Rattle.trunc_series.proofs.Coefficients.{apart-rising, add-zero}
use Rattle.trunc_series.proofs.Mass.{mass-least}
use Rattle.trunc_series.proofs.Products.{mass-append}
use Rattle.scatter_diagram.specs.Proper.{IsTame}

abbrev pub IsOther : Exp → Term → Type 0
IsOther d t = (1 ≤ degree t.0) × IsMultiple d t.0.exp

-- ---- the constant term

other-apart : (t : Term) → 1 ≤ degree t.0 → key_eq t.0 unit ≡ false
other-apart t h = key_eq-apart t unit (λ e. let q : degree t.0 ≡ 0 = e in omega (arith, q, h))

-- a wall function is 1 and its other terms
split-coef : (f : Sum) → coef f unit ≡ pos 1 → (k : Key) → coef f k ≡ coef (one ++ rest f) k
split-coef f c k = go (key_eq k unit) refl
  where
    other : (k : Key) → key_eq k unit ≡ false → key_eq unit k ≡ false
    other k e = swap (key_eq unit k) refl
      where
        swap : (b : Bool) → key_eq unit k ≡ b → key_eq unit k ≡ false
        swap true q = let s : key_eq k unit ≡ true = subst (λ (w : Key). key_eq w unit ≡ true) (key_eq-same unit k q) (key_eq-refl unit) in absurd (cc)
        swap false q = q

    go : (b : Bool) → key_eq k unit ≡ b → coef f k ≡ cond (key_eq unit k) (pos 1) (pos 0) +ℤ coef (rest f) k
    go true e = subst (λ (w : Key). coef f w ≡ cond (key_eq unit w) (pos 1) (pos 0) +ℤ coef (rest f) w) (sym (key_eq-same k unit e)) (c ∙ sym (ap (λ x. pos 1 +ℤ x) (rest-at-unit f)))
    go false e = rw (other k e) (sym (coef-rest f k e) ∙ sym (skip-zero (coef (rest f) k)))

rest-apart : (f : Sum) → Every (λ t. key_eq t.0 unit ≡ false) (rest f)
rest-apart f = Every-from_In _ (rest f) (λ t i. not-out (key_eq t.0 unit) (filter-from (λ (t : Term). not (key_eq t.0 unit)) f t i).1)

pub mass-one : (n : ℕ) (f : Sum) → mass_to n (one ++ f) ≡ 1 + mass_to n f
mass-one n f = rw (low n) refl
  where
    low : (n : ℕ) → nat_le (degree unit) n ≡ true
    low n = grind arith

pub mass-split : (n : ℕ) (f : Sum) → EveryPair (λ t u. IsTrue (key_before t.0 u.0)) f → coef f unit ≡ pos 1 → mass_to n f ≡ 1 + mass_to n (rest f)
mass-split n f r c =
    let a = mass-least n f (one ++ rest f) (apart-rising f r) (split-coef f c) in
    let b = mass-least n (one ++ rest f) f (rest-apart f, apart-rising (rest f) (pairs-filter _ _ f r)) (λ k. sym (split-coef f c k)) in
    let e = mass-one n (rest f) in
    omega (arith, a, b, e)

-- ---- masses

-- of terms of degree m at most
pub mass-higher : (m n : ℕ) (f : Sum) → m ≤ n → Every (λ t. degree t.0 ≤ m) f → mass_to n f ≡ mass_to m f
mass-higher m n [] l h = refl
mass-higher m n (t ∷ f) l h = rw (low (degree t.0) n (omega (arith, l, h.0)), low (degree t.0) m h.0) (ap (λ x. nat_abs t.1 + x) (mass-higher m n f l h.1))
  where
    low : (d k : ℕ) → d ≤ k → nat_le d k ≡ true
    low d k h = grind arith

-- ---- read at a higher order

pub function-higher : (m n : ℕ) (d : Exp) (f : Sum) → m ≤ n → IsWallFunction m d f → IsWallFunction n d f
function-higher m n d f l w = record {
  series = record { rises = w.series.rises; nonzero = w.series.nonzero; low = Every-implies (λ t. degree t.0 ≤ m) (λ t. degree t.0 ≤ n) f (λ t h. omega (arith, h, l)) w.series.low };
  constant = w.constant;
  others = w.others;
}

-- ---- with more terms

module _ (m n : ℕ) (d : Exp) (f g : Sum) (w : IsWallFunction m d f) (l : m ≤ n) (o : Every (IsOther d) g) where
  -- f and g have no key in common
  pub distinct-both : EveryPair (λ t u. t.0 ≢ u.0) g → Every (λ t. Every (λ u. t.0 ≢ u.0) g) (rest f) → EveryPair (λ t u. t.0 ≢ u.0) (f ++ g)
  distinct-both dg h = pairs-append _ f g (rising-distinct f w.series.rises) dg (Every-from_In _ f (λ t i. at t i (key_eq t.0 unit) refl))
    where
      not-unit : (k : Key) → k ≡ unit → Every (λ u. k ≢ u.0) g
      not-unit k e = Every-implies (IsOther d) (λ u. k ≢ u.0) g (λ u q s. let z : 0 ≡ degree u.0 = ap degree (sym e ∙ s) in omega (arith, z, q.0)) o

      at : (t : Term) → In t f → (b : Bool) → key_eq t.0 unit ≡ b → Every (λ u. t.0 ≢ u.0) g
      at t i true e = not-unit t.0 (key_eq-same t.0 unit e)
      at t i false e = Every-at _ (rest f) t h (filter-keeps (λ (t : Term). not (key_eq t.0 unit)) f t i (ap not e))

  module _ (s : Seen) (h : IsSeriesOf s n (f ++ g)) where
    -- what each key of both has
    from-both : (P : Key → Type 0) → Every (λ t. P t.0) f → Every (λ t. P t.0) g → Every (λ t. P t.0) s.terms
    from-both P a b = Every-from_In _ s.terms (λ t i. at t (coef-find (f ++ g) t.0 (λ z. Every-at (λ (t : Term). t.1 ≢ pos 0) s.terms t h.series.nonzero i (sym (coef-own s.terms h.series.rises t i) ∙ h.same t.0 ∙ z))))
      where
        at : (t : Term) → (u : Term) × In u (f ++ g) × (u.0 ≡ t.0) → P t.0
        at t u = subst P u.2 (Every-at (λ (u : Term). P u.0) (f ++ g) u.0 (Every-append _ f g a b) u.1)

    coef-unit : coef g unit ≡ pos 0
    coef-unit = coef-none g unit (Every-implies (IsOther d) (λ t. key_eq t.0 unit ≡ false) g (λ t q. other-apart t q.0) o)

    pub more-terms : (k : Key) → coef (rest s.terms) k ≡ coef (rest f) k +ℤ coef g k
    more-terms k = go (key_eq k unit) refl
      where
        go : (b : Bool) → key_eq k unit ≡ b → coef (rest s.terms) k ≡ coef (rest f) k +ℤ coef g k
        go true e = subst (λ (x : Key). coef (rest s.terms) x ≡ coef (rest f) x +ℤ coef g x) (sym (key_eq-same k unit e)) (rw (rest-at-unit s.terms, rest-at-unit f, coef-unit) refl)
        go false e = coef-rest s.terms k e ∙ h.same k ∙ coef-append f g k ∙ ap (λ x. x +ℤ coef g k) (sym (coef-rest f k e))

    abbrev IsOtherKey : Key → Type 0
    IsOtherKey k = key_eq k unit ≡ false → (1 ≤ degree k) × IsMultiple d k.exp

    other-keys : Every (λ t. IsOtherKey t.0) s.terms
    other-keys =
        from-both IsOtherKey
        (Every-from_In _ f (λ t i e. Every-at (IsOther d) (rest f) t w.others (filter-keeps (λ (t : Term). not (key_eq t.0 unit)) f t i (ap not e))))
        (Every-implies (IsOther d) (λ t. IsOtherKey t.0) g (λ t q e. q) o)

    pub more-function : IsWallFunction n d s.terms
    more-function = record {
      series = h.series;
      constant = h.same unit ∙ coef-append f g unit ∙ rw (w.constant, coef-unit) refl;
      others = Every-from_In _ (rest s.terms) (λ t i.
          let j = filter-from (λ (t : Term). not (key_eq t.0 unit)) s.terms t i in
          Every-at (λ (t : Term). IsOtherKey t.0) s.terms t other-keys j.0 (not-out (key_eq t.0 unit) j.1));
    }

    pub more-load : mass_to n (rest s.terms) ≤ mass_to n (rest f) + mass_to n g
    more-load =
        let a = mass-least n (rest s.terms) (rest f ++ g) (apart-rising (rest s.terms) (pairs-filter _ _ s.terms h.series.rises)) (λ k. more-terms k ∙ sym (coef-append (rest f) g k)) in
        let b = mass-append n (rest f) g in
        omega (arith, a, b)

    pub more-mass : mass_to n s.terms ≤ 1 + (mass_to n (rest f) + mass_to n g)
    more-mass = let e = mass-split n s.terms h.series.rises more-function.constant in omega (arith, e, more-load)

    pub more-tame : Every IsTame f → Every IsTame g → Every IsTame s.terms
    more-tame a b = from-both (λ k. IsTame (k, pos 0)) a b

    -- where the keys of g are none of f
    pub more-live : Every (λ t. Every (λ u. t.0 ≢ u.0) g) (rest f) → IsTrue (list_any (λ (t : Term). true) (rest f)) → IsTrue (list_any (λ (t : Term). true) (rest s.terms))
    more-live a v = let t = first-term (rest f) v in at t.0 t.1
      where
        first-term : (f : Sum) → IsTrue (list_any (λ (t : Term). true) f) → (t : Term) × In t f
        first-term [] h = absurd (cc)
        first-term (t ∷ f) h = (t, inl refl)

        unlike : (k l : Key) → k ≢ l → key_eq l k ≡ false
        unlike k l n = go (key_eq l k) refl
          where
            go : (b : Bool) → key_eq l k ≡ b → key_eq l k ≡ false
            go true e = absurd (n (sym (key_eq-same l k e)))
            go false e = e

        at : (t : Term) → In t (rest f) → IsTrue (list_any (λ (t : Term). true) (rest s.terms))
        at t i =
            let c : coef (rest s.terms) t.0 ≡ t.1 +ℤ pos 0 = more-terms t.0 ∙ rw (coef-own (rest f) (pairs-filter _ _ f w.series.rises) t i, coef-none g t.0 (Every-implies (λ u. t.0 ≢ u.0) (λ u. key_eq u.0 t.0 ≡ false) g (λ u q. unlike t.0 u.0 q) (Every-at _ (rest f) t a i))) refl in
            live-by (record { kind = Outgoing; at = record { x = pos 0; y = pos 0; w = pos 0 }; dir = d; function = s.terms }) t.0 (λ z. Every-at (λ (t : Term). t.1 ≢ pos 0) (rest f) t (Every-filter _ _ f w.series.nonzero) i (sym (add-zero t.1) ∙ sym c ∙ z))

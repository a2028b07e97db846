-- A series that stands for |f| in one variable can take the place of the wall function f in majorants.
use Rattle.std.proofs.Common.{◌≡◌, ◌≢◌, ℕ, zero, suc, ◌+◌, ◌<◌, ◌≤◌, ◌^◌, refl, sym, subst, ap, ◌∙◌, Bool, true, false, cond, not, List, [], ◌∷◌, ◌++◌, length, take, arith}
use Rattle.std.specs.Prelude.{ℤ, pos, ◌+ℤ◌, ◌≤ℤ◌, nat_abs, nat_le}
use Rattle.std.proofs.lemmas.Int.{ints}
use Rattle.std.proofs.lemmas.List.{map_more, map-append}
use native.Mathlib.Decide.{dec_le}
use Rattle.scattering.specs.Collections.{Every}
use Rattle.scattering.specs.Series.{Exp, Key, Term, Sum, Same, degree, det, origin, unit, key_eq, coef, mul, pow, powers_to, rest, absolute, geometric, mass_to, IsMultiple, IsWallFunction}
use Rattle.scattering.specs.LocalProduct.{cross_majorant}
use Rattle.scattering.proofs.Keys.{key_eq-same}
use Rattle.scattering.proofs.Lists.{Every-implies}
use Rattle.scattering.proofs.Pairing.{coef-without}
use Rattle.scattering.proofs.DistinctKeys.{series-distinct}
use Rattle.scattering.proofs.Coefficients.{coef-above, mass-absolute, rest-absolute}
use Rattle.trunc_series.specs.Shown.{Seen, IsSeriesOf, HasNearTerms, IsValid, IsTerm, key_of, term_of, sum_of}
use Rattle.trunc_series.specs.Reduced.{IsKeptAs}
use Rattle.trunc_series.specs.declared.key.Key.{Key as CodeKey}
use Rattle.trunc_series.proofs.Terms.{at}
use Rattle.trunc_series.proofs.Exact.{exact-valid, exact-same}
use Rattle.plane_geom.specs.Shown.{vector_of}
use Rattle.scatter_diagram.specs.declared.wall.Wall.{Wall as CodeWall}
use Rattle.trunc_series.specs.declared.arithmetic.Arithmetic.TheVariants.{Saturating, Wrapping}
use Rattle.trunc_series.proofs.Coefficients.{apart-rising, has-coef, keepable-coef}
use Rattle.trunc_series.proofs.RingLaws.{addition-keeps, multiplication-keeps, powers-keep}
use Rattle.weight_theory.specs.Laws.{IsNonnegative}
use Rattle.weight_theory.proofs.Readings.{from_Bounds}
use Rattle.weight_theory.proofs.Bounds.{bounds-itself, absolute-nonnegative}
use Rattle.weight_theory.proofs.Masses.{coef-absolute, coefficient-is-below}
use Rattle.local_product.specs.OneVariable.{one_variable, in_one_variable}
use Rattle.local_product.proofs.Exponents.{AreAround, keys-from, series-around, around-near, absolute-around}
use Rattle.local_product.proofs.OneVariable.{HasOthers, first-other, stays-unit, same-degree, absolute-one_variable, majorant-one_variable, mass-one_variable, around-one_variable, nonnegative-one_variable}

-- ---- absolute values

absolute-itself : (f : Sum) → IsNonnegative f → absolute f ≡ f
absolute-itself [] h = refl
absolute-itself (t ∷ f) h = let e = same t.1 h.0 in let r = absolute-itself f h.1 in λ i. (t.0, e i) ∷ r i
  where
    same : (c : ℤ) → pos 0 ≤ℤ c → pos (nat_abs c) ≡ c
    same c l = omega (arith, ints, l)

absolute-others : (f : Sum) → HasOthers f → HasOthers (absolute f)
absolute-others f h = subst (Every (λ (t : Term). 1 ≤ degree t.0)) (sym (rest-absolute f)) (each (rest f) h)
  where
    each : (g : Sum) → Every (λ (t : Term). 1 ≤ degree t.0) g → Every (λ (t : Term). 1 ≤ degree t.0) (absolute g)
    each [] q = tt
    each (t ∷ g) q = (q.0, each g q.1)

-- ---- the coefficient at 1, and the others

unit-one_variable : (f : Sum) → HasOthers f → coef (in_one_variable f) unit ≡ coef f unit
unit-one_variable [] h = refl
unit-one_variable (t ∷ f) h = let o = first-other t f h in λ i. cond (stays-unit t.0 o.0 i) t.1 (pos 0) +ℤ unit-one_variable f o.1 i

unit-split : (k : ℕ) (f : Sum) → nat_abs (coef f unit) + mass_to k (rest f) ≤ mass_to k f
unit-split k [] = omega arith
unit-split k (t ∷ f) = go (key_eq t.0 unit) refl (unit-split k f)
  where
    low : nat_le 0 k ≡ true
    low = grind arith

    go : (b : Bool) → key_eq t.0 unit ≡ b → nat_abs (coef f unit) + mass_to k (rest f) ≤ mass_to k f
        → nat_abs (cond b t.1 (pos 0) +ℤ coef f unit) + mass_to k (cond (not b) (t ∷ rest f) (rest f)) ≤ mass_to k (t ∷ f)
    go true e h = rw (ap (λ (x : Key). nat_le (degree x) k) (key_eq-same t.0 unit e) ∙ low) (omega (arith, ints, h))
    go false e h = more (nat_le (degree t.0) k)
      where
        more : (c : Bool) → nat_abs (pos 0 +ℤ coef f unit) + ((elim c [ true ↦ nat_abs t.1 | false ↦ 0 ]) + mass_to k (rest f)) ≤ (elim c [ true ↦ nat_abs t.1 | false ↦ 0 ]) + mass_to k f
        more true = omega (arith, ints, h)
        more false = omega (arith, ints, h)

others-of : (Q : Term → Type 0) (f : Sum) → Every Q (rest f) → Every (λ t. key_eq t.0 unit ≡ false → Q t) f
others-of Q [] h = tt
others-of Q (t ∷ f) h = go (key_eq t.0 unit) refl h (others-of Q f)
  where
    go : (b : Bool) → key_eq t.0 unit ≡ b → Every Q (cond (not b) (t ∷ rest f) (rest f)) → (Every Q (rest f) → Every (λ t. key_eq t.0 unit ≡ false → Q t) f) → Every (λ t. key_eq t.0 unit ≡ false → Q t) (t ∷ f)
    go true e q i = ((λ n. absurd (cc)), i q)
    go false e q i = ((λ n. q.0), i q.1)

of-others : (Q : Term → Type 0) (f : Sum) → Every (λ t. key_eq t.0 unit ≡ false → Q t) f → Every Q (rest f)
of-others Q [] h = tt
of-others Q (t ∷ f) h = go (key_eq t.0 unit) refl (of-others Q f h.1)
  where
    go : (b : Bool) → key_eq t.0 unit ≡ b → Every Q (rest f) → Every Q (cond (not b) (t ∷ rest f) (rest f))
    go true e q = q
    go false e q = (h.0 e, q)

-- ---- the function in one variable

module _ (k : ℕ) (d : Exp) (f : Sum) (w : IsWallFunction k d f) where
  pub function-others : HasOthers f
  function-others = Every-implies (λ t. (1 ≤ degree t.0) × IsMultiple d t.0.exp) (λ t. 1 ≤ degree t.0) (rest f) (λ t h. h.0) w.others

  abbrev bound : Sum
  bound = in_one_variable (absolute f)

  bound-nonnegative : IsNonnegative bound
  bound-nonnegative = nonnegative-one_variable (absolute f) (absolute-nonnegative k f)

  bound-low : Every (λ t. degree t.0 ≤ k) bound
  bound-low = go f w.series.low
    where
      go : (g : Sum) → Every (λ t. degree t.0 ≤ k) g → Every (λ t. degree t.0 ≤ k) (in_one_variable (absolute g))
      go [] h = tt
      go (t ∷ g) h = (let p = h.0 in let q = same-degree t.0 in omega (arith, p, q), go g h.1)

  unit-absolute : coef (absolute f) unit ≡ pos 1
  unit-absolute = coef-absolute f (series-distinct k f w.series) unit ∙ ap (λ c. pos (nat_abs c)) w.constant

  bound-unit : coef bound unit ≡ pos 1
  bound-unit = unit-one_variable (absolute f) (absolute-others f function-others) ∙ unit-absolute

  bound-mass : mass_to k bound ≡ mass_to k f
  bound-mass = mass-one_variable k (absolute f) ∙ mass-absolute k f

  rest-nonnegative : IsNonnegative (rest bound)
  rest-nonnegative = of-others (λ t. pos 0 ≤ℤ t.1) bound (Every-implies (λ (t : Term). pos 0 ≤ℤ t.1) (λ t. key_eq t.0 unit ≡ false → pos 0 ≤ℤ t.1) bound (λ t h n. h) bound-nonnegative)

  -- where the mass is at most 2^127, no coefficient reaches that
  pub bound-small : mass_to k f ≤ 2 ^ 127 → (x : Key) → nat_abs (coef bound x) < 2 ^ 127
  bound-small m x = go (key_eq unit x) refl (dec_le (degree x) k)
    where
      go : (b : Bool) → key_eq unit x ≡ b → Dec (degree x ≤ k) → nat_abs (coef bound x) < 2 ^ 127
      go true e l = subst (λ (y : Key). nat_abs (coef bound y) < 2 ^ 127) (key_eq-same unit x e) (rw bound-unit (omega arith))
      go false e (yes l) =
          let c : coef (rest bound) x ≡ coef bound x = coef-without unit x bound ∙ ap (λ b. cond b (pos 0) (coef bound x)) e in
          let a : nat_abs (coef (rest bound) x) ≤ mass_to k (rest bound) = coefficient-is-below k (rest bound) (rest bound) x l (from_Bounds k (rest bound) (rest bound) (bounds-itself k (rest bound) rest-nonnegative)) in
          let s = unit-split k bound in
          rw (← c) (omega (arith, a, ap nat_abs bound-unit, s, bound-mass, m))
      go false e (no l) = rw (coef-above k bound x bound-low (omega arith)) (omega arith)

  module _ (s : Seen) (is : IsSeriesOf s k bound) where
    pub one_variable-function : IsWallFunction k d s.terms
    one_variable-function = record {
      series = is.series;
      constant = is.same unit ∙ bound-unit;
      others =
          of-others (λ t. (1 ≤ degree t.0) × IsMultiple d t.0.exp) s.terms
          (keys-from (λ x. key_eq x unit ≡ false → (1 ≤ degree x) × IsMultiple d x.exp) s.terms bound (k, is.series) (λ x e. is.same x ∙ e) (each f (others-of (λ t. (1 ≤ degree t.0) × IsMultiple d t.0.exp) f w.others) function-others));
    }
      where
        each : (g : Sum) → Every (λ t. key_eq t.0 unit ≡ false → (1 ≤ degree t.0) × IsMultiple d t.0.exp) g → HasOthers g → Every (λ t. key_eq t.0 unit ≡ false → (1 ≤ degree t.0) × IsMultiple d t.0.exp) (in_one_variable (absolute g))
        each [] h o = tt
        each (t ∷ g) h o =
            let q = first-other t g o in
            ((λ n. let r = h.0 (sym (stays-unit t.0 q.0) ∙ n) in let l = r.0 in let e = same-degree t.0 in (omega (arith, l, e), r.1)), each g h.1 q.1)

    pub one_variable-near : k ≤ 24 → AreAround origin f → HasNearTerms s.terms
    one_variable-near l a = around-near k origin s.terms l (omega arith, omega arith) (series-around k origin s bound is (around-one_variable origin (absolute f) (absolute-around f a))) is.series.low

    series-nonnegative : IsNonnegative s.terms
    series-nonnegative = has-coef (λ c. pos 0 ≤ℤ c) s.terms (omega (arith, ints)) (apart-rising s.terms is.series.rises) (λ x. rw (is.same x) (keepable-coef Saturating bound x bound-nonnegative))

    same-rest : Same (absolute (rest s.terms)) (absolute (rest (in_one_variable f)))
    same-rest x =
        ap (λ g. coef g x) (sym (rest-absolute s.terms) ∙ ap rest (absolute-itself s.terms series-nonnegative))
        ∙ coef-without unit x s.terms
        ∙ ap (λ c. cond (key_eq unit x) (pos 0) c) (is.same x)
        ∙ sym (coef-without unit x bound)
        ∙ ap (λ g. coef g x) (ap rest (sym (absolute-one_variable f)) ∙ rest-absolute (in_one_variable f))

    module _ (n : ℕ) where
      same-geometric : Same (geometric n s.terms) (geometric n (in_one_variable f))
      same-geometric = powers n
        where
          powers : (i : ℕ) → Same (powers_to n (absolute (rest s.terms)) i) (powers_to n (absolute (rest (in_one_variable f))) i)
          powers zero = λ x. refl
          powers (suc i) = addition-keeps (powers_to n (absolute (rest s.terms)) i) (powers_to n (absolute (rest (in_one_variable f))) i) (pow n (absolute (rest s.terms)) (suc i)) (pow n (absolute (rest (in_one_variable f))) (suc i)) (powers i) (powers-keep n (absolute (rest s.terms)) (absolute (rest (in_one_variable f))) (suc i) same-rest)

      same-majorant : (g : Sum) → Same (cross_majorant n d s.terms g) (cross_majorant n d (in_one_variable f) g)
      same-majorant [] x = refl
      same-majorant (t ∷ g) x =
          addition-keeps (mul n (t ∷ []) (pow n (geometric n s.terms) (nat_abs (det d t.0.exp)))) (mul n (t ∷ []) (pow n (geometric n (in_one_variable f)) (nat_abs (det d t.0.exp)))) (cross_majorant n d s.terms g) (cross_majorant n d (in_one_variable f) g)
          (multiplication-keeps n (t ∷ []) (t ∷ []) (pow n (geometric n s.terms) (nat_abs (det d t.0.exp))) (pow n (geometric n (in_one_variable f)) (nat_abs (det d t.0.exp))) (λ y. refl) (powers-keep n (geometric n s.terms) (geometric n (in_one_variable f)) (nat_abs (det d t.0.exp)) same-geometric))
          (same-majorant g) x

      -- a majorant in one variable after one crossing more
      pub one_variable-crossed : (G : Sum) → Same (cross_majorant n d s.terms (in_one_variable G)) (in_one_variable (cross_majorant n d f G))
      one_variable-crossed G x = same-majorant (in_one_variable G) x ∙ ap (λ u. coef u x) (majorant-one_variable n d f G function-others)

-- ---- the terms of the program

pub bound-terms : (k : ℕ) (f : Sum) → IsValid k f → Every (IsTerm k) (in_one_variable (absolute f))
bound-terms k f v = go f v.series.nonzero v.small v.series.low
  where
    nonzero : (c : ℤ) → c ≢ pos 0 → pos (nat_abs c) ≢ pos 0
    nonzero c n e = n (none c e)
      where
        none : (c : ℤ) → pos (nat_abs c) ≡ pos 0 → c ≡ pos 0
        none c e = omega (arith, ints, e)

    small : (c : ℤ) → nat_abs c < 2 ^ 127 → nat_abs (pos (nat_abs c)) < 2 ^ 127
    small c l = omega (arith, ints, l)

    go : (g : Sum) → Every (λ t. t.1 ≢ pos 0) g → Every (λ t. nat_abs t.1 < 2 ^ 127) g → Every (λ t. degree t.0 ≤ k) g → Every (IsTerm k) (in_one_variable (absolute g))
    go [] a b c = tt
    go (t ∷ g) a b c = ((nonzero t.1 a.0, small t.1 b.0, let p = c.0 in let q = same-degree t.0 in omega (arith, p, q)), go g a.1 b.1 c.1)

pub terms-more : (a out : List (CodeKey × ℤ)) (i : ℕ) (l : CodeKey) (c : ℤ) → i < length a → sum_of out ≡ in_one_variable (absolute (sum_of (take i a))) → key_of l ≡ one_variable (key_of (at a i).0) → c ≡ pos (nat_abs (at a i).1)
    → sum_of (out ++ (l, c) ∷ []) ≡ in_one_variable (absolute (sum_of (take (i + 1) a)))
terms-more a out i l c h s p q =
    map-append term_of out ((l, c) ∷ [])
    ∙ (λ j. s j ++ (p j, q j) ∷ [])
    ∙ sym (ap (λ f. in_one_variable (absolute f)) (map_more term_of a i _ h) ∙ ap in_one_variable (map-append (λ (t : Term). (t.0, pos (nat_abs t.1))) (sum_of (take i a)) (term_of (at a i) ∷ []))
    ∙ map-append (λ (t : Term). (one_variable t.0, t.1)) (absolute (sum_of (take i a))) (absolute (term_of (at a i) ∷ [])))

module _ (w : CodeWall) (r : Sum) (h : IsKeptAs Wrapping w.function.order r (in_one_variable (absolute w.function.terms))) where
  small-sum : (x : Key) → nat_abs (coef (in_one_variable (absolute w.function.terms)) x) < 2 ^ 127
  small-sum = bound-small w.function.order (vector_of w.dir) w.function.terms w.proper.function w.proper.mass

  pub function-valid : w.function.order ≤ 24 → IsValid w.function.order r
  function-valid o = exact-valid w.function.order r (in_one_variable (absolute w.function.terms)) o h small-sum

  pub function-series : IsSeriesOf (record { order = w.function.order; terms = r }) w.function.order (in_one_variable (absolute w.function.terms))
  function-series = record { order = refl; series = h.series; same = exact-same w.function.order r (in_one_variable (absolute w.function.terms)) h small-sum }

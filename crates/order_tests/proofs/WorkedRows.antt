-- The tests for worked examples say what they should.
use Rattle.std.proofs.Common.{◌≡◌, ◌≢◌, ℕ, zero, suc, ◌+◌, ◌*◌, ◌%◌, ◌≤◌, ◌<◌, ◌^◌, refl, sym, subst, ap, ◌∙◌, true, not, List, [], ◌∷◌, ◌++◌, length, arith}
use Rattle.std.specs.Prelude.{ℤ, pos, ◌*ℤ◌, ◌≤ℤ◌, int_le, nat_abs, nat_le, nat_lt, ◌==◌, IsTrue}
use Rattle.std.specs.Int.{IsGcd}
use Rattle.std.specs.List.{list_all, sum_by}
use Rattle.std.proofs.lemmas.Int.{ints}
use Rattle.std.proofs.lemmas.List.Sums.{sum_by-cons}
use Rattle.std.proofs.lemmas.Nat.Gcd.{IsGcd-from_zero, IsGcd-from_mod, same_from_IsGcd}
use Rattle.scattering.specs.Collections.{Every, EveryPair}
use Rattle.scattering.specs.Series.{Exp, Key, int_eq, exp_eq, key_before, degree, origin, mass_to}
use Rattle.scattering.specs.Plane.{Point, IsPoint, point_before}
use Rattle.scattering.specs.Correction.{Ratio, Lie, Corrections, IsWhole}
use Rattle.scattering.proofs.Keys.{int_eq-same, exp_eq-refl}
use Rattle.scattering.proofs.KeyOrder.{key_before-irrefl}
use Rattle.scattering.proofs.Lists.{and-left, and-right, Every-at, Every-implies, Every-append, pairs-append, or-first, map-append, all-every}
use Rattle.scattering.proofs.Tests.{nat_le-yes, nat_eq-same}
use Rattle.frac_128.proofs.Lowest.{cancel}
use Rattle.sample_walls.proofs.LowFunctions.{nonzero}
use Rattle.sample_walls.proofs.OnAxis.{on-axis}
use Rattle.plane_geom.specs.declared.Point.{Point as CodePoint}
use Rattle.plane_geom.specs.Shown.{point_of}
use Rattle.vertex_lie.specs.Shown.{IsElementOf}
use Rattle.vertex_lie.proofs.UniqueElement.{elements-unique}
use Rattle.weight_theory.specs.Laws.{IsWholeValue, AreWhole}
use Rattle.limits.specs.Limits.{exponent_per_degree, largest_weight}
use Rattle.scattering.specs.Wall.{Wall}
use Rattle.ray_merge.proofs.NextOrder.{stays-within}
use Rattle.ray_merge.specs.Additions.{IsTameKey, IsAddable, IsTameElement, IsLight, corrections_of}
use Rattle.order_tests.specs.Rows.{common, has_key_of, whole_of, is_worked_term, keys_rise, is_worked, HasSmallValues, AreFit}

common-is : (steps a b : ℕ) → b ≤ steps → IsGcd a b (common steps a b)
common-is zero a b l = IsGcd-from_zero a b (omega (arith, l))
common-is (suc steps) a zero l = IsGcd-from_zero a zero refl
common-is (suc steps) a (suc b) l = IsGcd-from_mod a (suc b) _ (common-is steps (suc b) (a % suc b) (let r : a % suc b < suc b = omega arith in omega (arith, l, r)))

-- ---- terms

moves : (u : Exp) → not (exp_eq u origin) ≡ true → u ≢ origin
moves u h e = let s : exp_eq u origin ≡ true = subst (λ z. exp_eq u z ≡ true) e (exp_eq-refl u) in absurd (cc)

record HasKey (n : ℕ) (k : Key) : Type 0 where
  degree : degree k ≡ n
  exponent : k.exp ≢ origin
  tame : IsTameKey n k

has-key : (n : ℕ) (k : Key) → has_key_of n k ≡ true → HasKey n k
has-key n k h =
    let a = and-right (degree k == n) _ h in
    let b = and-right (not (exp_eq k.exp origin)) _ a in
    record {
      degree = nat_eq-same (degree k) n (and-left (degree k == n) _ h);
      exponent = moves k.exp (and-left (not (exp_eq k.exp origin)) _ a);
      tame = (nat_le-yes _ _ (and-left (nat_le (nat_abs k.exp.a) (exponent_per_degree * n)) _ b), nat_le-yes _ _ (and-right (nat_le (nat_abs k.exp.a) (exponent_per_degree * n)) _ b));
    }

-- ---- terms of corrections

record IsWorked (n : ℕ) (t : Key × Ratio) : Type 0 where
  key : HasKey n t.0
  nonzero : t.1.num ≢ pos 0
  below : pos 1 ≤ℤ t.1.den
  small : nat_abs (whole_of t) ≤ 2 ^ 40
  is-whole : whole_of t *ℤ t.1.den ≡ t.1.num *ℤ pos (common (nat_abs t.0.exp.b) (nat_abs t.0.exp.a) (nat_abs t.0.exp.b))

positive : (x : ℤ) → int_le (pos 1) x ≡ true → pos 1 ≤ℤ x
positive x e = omega (arith, ints, e)

worked-term : (n : ℕ) (t : Key × Ratio) → is_worked_term n t ≡ true → IsWorked n t
worked-term n t h =
    let a = and-right (has_key_of n t.0) _ h in
    let b = and-right (not (int_eq t.1.num (pos 0))) _ a in
    let c = and-right (int_le (pos 1) t.1.den) _ b in
    record {
      key = has-key n t.0 (and-left (has_key_of n t.0) _ h);
      nonzero = nonzero t.1.num (and-left (not (int_eq t.1.num (pos 0))) _ a);
      below = positive t.1.den (and-left (int_le (pos 1) t.1.den) _ b);
      small = nat_le-yes _ _ (and-left (nat_le (nat_abs (whole_of t)) (2 ^ 40)) _ c);
      is-whole = int_eq-same _ _ (and-right (nat_le (nat_abs (whole_of t)) (2 ^ 40)) _ c);
    }

same-common : (t : Key × Ratio) (g : ℕ) → IsGcd (nat_abs t.0.exp.a) (nat_abs t.0.exp.b) g → common (nat_abs t.0.exp.b) (nat_abs t.0.exp.a) (nat_abs t.0.exp.b) ≡ g
same-common t g h = same_from_IsGcd (nat_abs t.0.exp.a) (nat_abs t.0.exp.b) _ g (common-is (nat_abs t.0.exp.b) (nat_abs t.0.exp.a) (nat_abs t.0.exp.b) (omega arith)) h

whole-term : (n : ℕ) (t : Key × Ratio) → IsWorked n t → IsWhole t
whole-term n t w g h = (whole_of t, w.is-whole ∙ ap (λ k. t.1.num *ℤ pos k) (same-common t g h))

value-is : (n : ℕ) (t : Key × Ratio) (v : ℤ) → IsWorked n t → IsWholeValue t v → v ≡ whole_of t
value-is n t v w x = cancel v (whole_of t) t.1.den w.below (x.2 ∙ ap (λ k. t.1.num *ℤ pos k) (sym (same-common t x.0 x.1)) ∙ sym w.is-whole)

values-below : (n : ℕ) (h : Lie) (vs : List ℤ) → Every (IsWorked n) h → AreWhole h vs → sum_by nat_abs vs ≤ length h * 2 ^ 40
values-below n [] [] w a = omega arith
values-below n [] (v ∷ vs) w a = absurd a
values-below n (t ∷ h) [] w a = absurd a
values-below n (t ∷ h) (v ∷ vs) w a =
    let r = values-below n h vs w.1 a.1 in
    let s = sum_by-cons nat_abs v vs in
    let e : nat_abs v ≡ nat_abs (whole_of t) = ap nat_abs (value-is n t v w.0 a.0) in
    let b = w.0.small in
    omega (arith, r, s, e, b)

rising : (h : Lie) → keys_rise h ≡ true → EveryPair (λ t u. IsTrue (key_before t.0 u.0)) h
rising [] e = tt
rising (t ∷ h) e = (all-every (λ u. key_before t.0 u.0) (λ u. IsTrue (key_before t.0 u.0)) h (λ u q. q) (and-left (list_all (λ u. key_before t.0 u.0) h) _ e), rising h (and-right (list_all (λ u. key_before t.0 u.0) h) _ e))

distinct : (h : Lie) → EveryPair (λ t u. IsTrue (key_before t.0 u.0)) h → EveryPair (λ t u. t.0 ≢ u.0) h
distinct [] r = tt
distinct (t ∷ h) r = (Every-implies _ (λ u. t.0 ≢ u.0) h (λ u b. apart t.0 u.0 b) r.0, distinct h r.1)
  where
    apart : (k l : Key) → IsTrue (key_before k l) → k ≢ l
    apart k l b e = let i = key_before-irrefl l in let s : key_before l l ≡ true = subst (λ (x : Key). key_before x l ≡ true) e b in absurd (cc)

-- ---- corrections

pub worked-distinct : (n : ℕ) (h : Lie) → IsTrue (is_worked n h) → EveryPair (λ t u. t.0 ≢ u.0) h
worked-distinct n h w = distinct h (rising h (and-left (keys_rise h) _ w))

each : (n : ℕ) (h : Lie) → IsTrue (is_worked n h) → Every (IsWorked n) h
each n h w = all-every (is_worked_term n) (IsWorked n) h (worked-term n) (and-left (list_all (is_worked_term n) h) _ (and-right (keys_rise h) _ w))

pub worked-exponents : (n : ℕ) (h : Lie) → IsTrue (is_worked n h) → Every (λ t. t.0.exp ≢ origin) h
worked-exponents n h w = Every-implies (IsWorked n) _ h (λ t x. x.key.exponent) (each n h w)

pub worked-nonzero : (n : ℕ) (h : Lie) → IsTrue (is_worked n h) → Every (λ t. t.1.num ≢ pos 0) h
worked-nonzero n h w = Every-implies (IsWorked n) _ h (λ t x. x.nonzero) (each n h w)

pub worked-addable : (n : ℕ) (h : Lie) → IsTrue (is_worked n h) → IsAddable n h
worked-addable n h w = record {
  distinct = worked-distinct n h w;
  degrees = Every-implies (IsWorked n) _ h (λ t x. (x.key.degree, x.key.exponent)) (each n h w);
  whole = Every-implies (IsWorked n) IsWhole h (λ t x. whole-term n t x) (each n h w);
}

pub worked-tame : (n : ℕ) (h : Lie) → IsTrue (is_worked n h) → IsTameElement n h
worked-tame n h w = Every-implies (IsWorked n) (λ t. IsTameKey n t.0) h (λ t x. x.key.tame) (each n h w)

pub worked-light : (n : ℕ) (h : Lie) → IsTrue (is_worked n h) → IsLight h
worked-light n h w = Every-implies (IsWorked n) (λ t. (v : ℤ) → IsWholeValue t v → nat_abs v ≤ largest_weight) h (λ t x v y. let e : nat_abs v ≡ nat_abs (whole_of t) = ap nat_abs (value-is n t v x y) in let b = x.small in omega (arith, e, b)) (each n h w)

pub worked-values : (n : ℕ) (h : Lie) → IsTrue (is_worked n h) → HasSmallValues h
worked-values n h w vs a =
    let b = values-below n h vs (each n h w) a in
    let l = nat_le-yes (length h) 1024 (and-right (list_all (is_worked_term n) h) _ (and-right (keys_rise h) _ w)) in
    omega (arith, b, l)

-- ---- the element of terms that rise

pub element-is : (n : ℕ) (h g : Lie) → IsElementOf h g → IsTrue (is_worked n g) → h ≡ g
element-is n h g e w = elements-unique h g e.element.rises (rising g (and-left (keys_rise g) _ w)) e.element.nonzero (worked-nonzero n g w) e.same

-- ---- corrections along a row

abbrev IsBelow : ℕ → Point × Lie → Type 0
IsBelow x c = (m : ℕ) × (m < x) × (c.0 ≡ record { x = pos m; y = pos 0; w = pos 1 })

pub record IsRow (n : ℕ) (x : ℕ) (cs : Corrections) : Type 0 where
  pub fit : AreFit n cs
  pub below : Every (IsBelow x) cs

pub no-row : (n : ℕ) → IsRow n 0 []
no-row n = record { fit = record { mergeable = record { points = tt; sorted = tt; distinct = tt; degrees = tt; whole = tt }; tame = tt; light = tt; within = λ rays l. tt }; below = tt }

pub longer-row : (n x : ℕ) (cs : Corrections) (p : Point) (h : Lie) → IsRow n x cs → p ≡ record { x = pos x; y = pos 0; w = pos 1 } → IsAddable n h → IsTameElement n h → IsLight h → HasSmallValues h → IsRow n (x + 1) (cs ++ (p, h) ∷ [])
longer-row n x cs p h r e a t l v = record {
  fit = record {
    mergeable = record {
      points = Every-append _ cs ((p, h) ∷ []) r.fit.mergeable.points (subst IsPoint (sym e) (on-axis x), tt);
      sorted = pairs-append _ cs ((p, h) ∷ []) r.fit.mergeable.sorted (tt, tt) (Every-implies _ (λ c. Every {A = Point × Lie} (λ d. IsTrue (point_before c.0 d.0)) ((p, h) ∷ [])) cs (λ c b. (before c b, tt)) r.below);
      distinct = Every-append _ cs ((p, h) ∷ []) r.fit.mergeable.distinct (a.distinct, tt);
      degrees = Every-append _ cs ((p, h) ∷ []) r.fit.mergeable.degrees (a.degrees, tt);
      whole = Every-append _ cs ((p, h) ∷ []) r.fit.mergeable.whole (a.whole, tt);
    };
    tame = Every-append _ cs ((p, h) ∷ []) r.fit.tame (t, tt);
    light = Every-append _ cs ((p, h) ∷ []) r.fit.light (l, tt);
    within = λ rays m. Every-append _ cs ((p, h) ∷ []) (r.fit.within rays m) (stays-within n p h rays a.degrees v (λ s i at. Every-at (λ (s : Wall). mass_to n s.function ≤ largest_weight) rays s m i), tt);
  };
  below = Every-append (IsBelow (x + 1)) cs ((p, h) ∷ []) (Every-implies (IsBelow x) (IsBelow (x + 1)) cs (λ c b. (b.0, let q = b.1 in omega (arith, q), b.2)) r.below) ((x, omega arith, e), tt);
}
  where
    less : (m : ℕ) → m < x → IsTrue (point_before (record { x = pos m; y = pos 0; w = pos 1 }) (record { x = pos x; y = pos 0; w = pos 1 }))
    less m l = or-first (nat_lt (m * 1) (x * 1)) _ (lower (m * 1) (x * 1) (omega (arith, l)))
      where
        lower : (y z : ℕ) → y < z → nat_lt y z ≡ true
        lower y z h = grind arith

    before : (c : Point × Lie) → IsBelow x c → IsTrue (point_before c.0 p)
    before c b = subst (λ (q : Point). IsTrue (point_before c.0 q)) (sym e) (subst (λ (q : Point). IsTrue (point_before q (record { x = pos x; y = pos 0; w = pos 1 }))) (sym b.2) (less b.0 b.1))

pub corrections-push : (cs : List (CodePoint × Lie)) (c : CodePoint × Lie) → corrections_of (cs ++ c ∷ []) ≡ corrections_of cs ++ (point_of c.0, c.1) ∷ []
corrections-push cs c = map-append (λ (b : CodePoint × Lie). (point_of b.0, b.1)) cs (c ∷ [])

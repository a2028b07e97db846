-- The bends at points, point by point.
use Rattle.std.proofs.Common.{◌≡◌, ◌≢◌, ℕ, zero, suc, ◌+◌, ◌<◌, ◌≤◌, ◌^◌, length, get_or, take, refl, sym, ap, subst, ◌∙◌, Bool, true, false, List, [], ◌∷◌, ◌++◌, map, min, ◌⊎◌, inl, inr, arith}
use Rattle.std.specs.Prelude.{ℤ, pos, ◌≤ℤ◌, ◌&&◌, nat_le, IsTrue, IsFalse, filter, Option, Some, None}
use Rattle.std.specs.Option.{option_or}
use Rattle.std.specs.Int.{int_min}
use Rattle.std.proofs.lemmas.Int.{ints, clamps}
use Rattle.scattering.specs.Collections.{In, Every, EveryPair, Distinct}
use Rattle.scattering.specs.Series.{Exp, Key, Term, Sum, degree, coef, key_before, mass_to}
use Rattle.scattering.specs.Plane.{Point, point_before, point_eq}
use Rattle.scattering.specs.Wall.{Wall}
use Rattle.scattering.specs.ActivePoint.{is_special}
use Rattle.scattering.specs.BrokenLine.{Bend, bend_majorant}
use Rattle.scattering.specs.Tail.{bend_before}
use Rattle.scattering.proofs.Lists.{Every-append, Every-implies, Every-from_In, Every-images, Every-at, pairs-append, pairs-filter, In-append, In-left, In-right, In-mapped, filter-from, filter-keeps, map-append, or-out, or-first, or-second, and-in, and-right}
use Rattle.scattering.proofs.Keys.{point_eq-refl}
use Rattle.scattering.proofs.KeyOrder.{key_before-irrefl}
use Rattle.scattering.proofs.DistinctKeys.{rising-own}
use Rattle.scattering.proofs.Determined.{coef-find}
use Rattle.scattering.proofs.Tests.{nat_le-yes, nat_le-is}
use Rattle.plane_theory.proofs.PointOrder.{before-irrefl}
use Rattle.std.proofs.lemmas.List.{take_more}
use Rattle.plane_geom.specs.declared.Point.{Point as CodePoint}
use Rattle.plane_geom.specs.Shown.{point_of}
use Rattle.joint_finder.specs.Joints.{points_of}
use Rattle.trunc_series.specs.declared.arithmetic.Arithmetic.TheVariants.{Saturating}
use Rattle.trunc_series.specs.Shown.{Seen}
use Rattle.trunc_series.specs.Arithmetic.{limit}
use Rattle.trunc_series.specs.Capped.{IsMajorantOf}
use Rattle.trunc_series.proofs.Coefficients.{keepable-coef}
use Rattle.bend_finder.specs.Ahead.{IsToldAs}
use Rattle.bend_finder.specs.Bends.{told_mass, told_bends, IsTurn, AreBends, IsFirstSpecial}
use Rattle.bend_finder.proofs.PowerMajorants.{bend-keepable, told-mass}

-- ---- the order of bends

pub bend_before-irrefl : (c : Bend) → IsTrue (bend_before c c) → ⊥
bend_before-irrefl c h = go (or-out (point_before c.at c.at) (point_eq c.at c.at && key_before c.key c.key) h)
  where
    go : (point_before c.at c.at ≡ true) ⊎ ((point_eq c.at c.at && key_before c.key c.key) ≡ true) → ⊥
    go (inl e) = before-irrefl c.at e
    go (inr e) = let a = and-right (point_eq c.at c.at) (key_before c.key c.key) e in let b = key_before-irrefl c.key in cc

pub sorted-distinct : (bs : List (Bend × ℕ)) → EveryPair (λ c d. IsTrue (bend_before c.0 d.0)) bs → Distinct (map (λ b. b.0) bs)
sorted-distinct [] h = tt
sorted-distinct (b ∷ bs) h = (Every-images (λ c. b.0 ≢ c) (λ (d : Bend × ℕ). d.0) bs (Every-implies _ (λ d. b.0 ≢ d.0) bs (λ d k e. bend_before-irrefl d.0 (subst (λ (c : Bend). IsTrue (bend_before c d.0)) e k)) h.0), sorted-distinct bs h.1)

-- ---- the bends at one point

abbrev bend_at : Point → Sum → Term → Bend × ℕ
bend_at q f t = (record { at = q; key = t.0 }, told_mass (degree t.0) f)

abbrev others : Sum → Sum
others f = filter (λ t. nat_le 1 (degree t.0)) f

capped-zero : (c : ℤ) → c ≡ pos 0 → int_min c limit ≡ pos 0
capped-zero c e = omega (arith, ints, clamps, e)

zero-capped : (c : ℤ) → pos 0 ≤ℤ c → int_min c limit ≡ pos 0 → c ≡ pos 0
zero-capped c l e = omega (arith, ints, clamps, l, e)

told-as : (x y : ℕ) → x ≡ min y (2 ^ 126 + 1) → IsToldAs y x
told-as x y e = go (nat_le y (2 ^ 126)) refl
  where
    go : (b : Bool) → nat_le y (2 ^ 126) ≡ b → IsToldAs y x
    go true h = inl (let l = nat_le-yes y (2 ^ 126) h in omega (arith, e, l))
    go false h = inr (let l = above y h in (l, omega (arith, e, l)))
      where
        above : (y : ℕ) → nat_le y (2 ^ 126) ≡ false → 2 ^ 126 < y
        above y h = grind arith

module _ (n : ℕ) (ls : List Wall) (x : Exp) (q : Point) (plain : IsFalse (is_special ls q)) (m : Seen) (h : IsMajorantOf m n (bend_majorant n ls q x)) where
  own : (t : Term) → In t m.terms → coef m.terms t.0 ≡ t.1
  own t i = Every-at (λ t. coef m.terms t.0 ≡ t.1) m.terms t (rising-own m.terms h.series.rises) i

  turn-of : (t : Term) → In t (others m.terms) → IsTurn n ls x (record { at = q; key = t.0 })
  turn-of t i =
      let o = filter-from (λ t. nat_le 1 (degree t.0)) m.terms t i in
      record {
        some = nat_le-yes 1 (degree t.0) o.1;
        most = Every-at (λ t. degree t.0 ≤ n) m.terms t h.series.low o.0;
        plain = plain;
        key = λ z. Every-at (λ t. t.1 ≢ pos 0) m.terms t h.series.nonzero o.0 (sym (own t o.0) ∙ h.capped t.0 ∙ capped-zero (coef (bend_majorant n ls q x) t.0) z);
      }

  term-of : (c : Bend) → c.at ≡ q → IsTurn n ls x c → In c (map (λ (b : Bend × ℕ). b.0) (told_bends q m.terms))
  term-of c e k =
      let positive : pos 0 ≤ℤ coef (bend_majorant n ls q x) c.key = keepable-coef Saturating (bend_majorant n ls q x) c.key (bend-keepable n ls q x) in
      let some : coef (bend_majorant n ls q x) c.key ≢ pos 0 = subst (λ (r : Point). coef (bend_majorant n ls r x) c.key ≢ pos 0) e k.key in
      let t = coef-find m.terms c.key (λ z. some (zero-capped (coef (bend_majorant n ls q x) c.key) positive (sym (h.capped c.key) ∙ z))) in
      let i : In t.0 (others m.terms) = filter-keeps (λ t. nat_le 1 (degree t.0)) m.terms t.0 t.1 (nat_le-is 1 (degree t.0.0) (let l = k.some in let d = ap degree t.2 in omega (arith, l, d))) in
      let s : c ≡ (bend_at q m.terms t.0).0 = λ i. record { at = e i; key = sym t.2 i } in
      subst (λ (d : Bend). In d (map (λ (b : Bend × ℕ). b.0) (told_bends q m.terms))) (sym s) (In-mapped (λ (b : Bend × ℕ). b.0) (told_bends q m.terms) (bend_at q m.terms t.0) (In-mapped (bend_at q m.terms) (others m.terms) t.0 i))

  told-of : (t : Term) → In t (others m.terms) → IsToldAs (mass_to (degree t.0) (bend_majorant n ls q x)) (told_mass (degree t.0) m.terms)
  told-of t i =
      let l = (turn-of t i).most in
      told-as (told_mass (degree t.0) m.terms) (mass_to (degree t.0) (bend_majorant n ls q x)) (told-mass n (degree t.0) m (bend_majorant n ls q x) l (bend-keepable n ls q x) h)

  sorted-of : EveryPair (λ c d. IsTrue (bend_before c.0 d.0)) (told_bends q m.terms)
  sorted-of = go (others m.terms) (pairs-filter _ (λ t. nat_le 1 (degree t.0)) m.terms h.series.rises)
    where
      after : (k l : Key) → IsTrue (key_before k l) → IsTrue (bend_before (record { at = q; key = k }) (record { at = q; key = l }))
      after k l e = or-second (point_before q q) (point_eq q q && key_before k l) (and-in (point_eq q q) (key_before k l) (point_eq-refl q) e)

      go : (f : Sum) → EveryPair (λ t u. IsTrue (key_before t.0 u.0)) f → EveryPair (λ c d. IsTrue (bend_before c.0 d.0)) (map (bend_at q m.terms) f)
      go [] r = tt
      go (t ∷ f) r = (Every-images (λ (d : Bend × ℕ). IsTrue (bend_before (bend_at q m.terms t).0 d.0)) (bend_at q m.terms) f (Every-implies _ (λ u. IsTrue (bend_before (bend_at q m.terms t).0 (bend_at q m.terms u).0)) f (λ u e. after t.0 u.0 e) r.0), go f r.1)

  -- ---- after those at the points before
  pub bends-more : (qs : List Point) (bs : List (Bend × ℕ)) → Every (λ r. IsTrue (point_before r q)) qs → AreBends n ls x qs bs → AreBends n ls x (qs ++ q ∷ []) (bs ++ told_bends q m.terms)
  bends-more qs bs before k = record {
    each = Every-append (λ c. In c.0.at (qs ++ q ∷ []) × IsTurn n ls x c.0) bs (told_bends q m.terms)
        (Every-implies _ (λ c. In c.0.at (qs ++ q ∷ []) × IsTurn n ls x c.0) bs (λ c o. (In-left qs (q ∷ []) c.0.at o.0, o.1)) k.each)
        (Every-images (λ c. In c.0.at (qs ++ q ∷ []) × IsTurn n ls x c.0) (bend_at q m.terms) (others m.terms) (Every-from_In _ (others m.terms) (λ t i. (In-right qs (q ∷ []) q (inl refl), turn-of t i))));
    all = λ c i o. subst (In c) (sym joined) (all c o (In-append qs (q ∷ []) c.at i));
    told = Every-append (λ c. IsToldAs (mass_to (degree c.0.key) (bend_majorant n ls c.0.at x)) c.1) bs (told_bends q m.terms) k.told
        (Every-images (λ c. IsToldAs (mass_to (degree c.0.key) (bend_majorant n ls c.0.at x)) c.1) (bend_at q m.terms) (others m.terms) (Every-from_In _ (others m.terms) (λ t i. told-of t i)));
    sorted = pairs-append (λ c d. IsTrue (bend_before c.0 d.0)) bs (told_bends q m.terms) k.sorted sorted-of
        (Every-implies _ (λ c. Every (λ d. IsTrue (bend_before c.0 d.0)) (told_bends q m.terms)) bs (λ c o. Every-images (λ d. IsTrue (bend_before c.0 d.0)) (bend_at q m.terms) (others m.terms) (Every-from_In _ (others m.terms) (λ t i. earlier c.0 t.0 o.0))) k.each);
  }
    where
      joined : map (λ (b : Bend × ℕ). b.0) (bs ++ told_bends q m.terms) ≡ map (λ (b : Bend × ℕ). b.0) bs ++ map (λ (b : Bend × ℕ). b.0) (told_bends q m.terms)
      joined = map-append (λ (b : Bend × ℕ). b.0) bs (told_bends q m.terms)

      all : (c : Bend) → IsTurn n ls x c → In c.at qs ⊎ In c.at (q ∷ []) → In c (map (λ (b : Bend × ℕ). b.0) bs ++ map (λ (b : Bend × ℕ). b.0) (told_bends q m.terms))
      all c o (inl i) = In-left _ _ c (k.all c i o)
      all c o (inr (inl e)) = In-right (map (λ (b : Bend × ℕ). b.0) bs) (map (λ (b : Bend × ℕ). b.0) (told_bends q m.terms)) c (term-of c e o)
      all c o (inr (inr f)) = absurd f

      earlier : (c : Bend) (l : Key) → In c.at qs → IsTrue (bend_before c (record { at = q; key = l }))
      earlier c l i = or-first (point_before c.at q) (point_eq c.at q && key_before c.key l) (Every-at (λ r. IsTrue (point_before r q)) qs c.at before i)

pub no-bends : (n : ℕ) (ls : List Wall) (x : Exp) → AreBends n ls x [] []
no-bends n ls x = record { each = tt; all = λ c i t. absurd i; told = tt; sorted = tt }

pub bends-along : (n : ℕ) (ls : List Wall) (x : Exp) (qs rs : List Point) (bs cs : List (Bend × ℕ)) → rs ≡ qs → cs ≡ bs → AreBends n ls x qs bs → AreBends n ls x rs cs
bends-along n ls x qs rs bs cs e f h = subst (λ (us : List Point). AreBends n ls x us cs) (sym e) (subst (AreBends n ls x qs) (sym f) h)

-- where no degree is left, no point has one
-- no bend is at one point more
pub turnless-more : (n : ℕ) (ls : List Wall) (x : Exp) (qs : List Point) (q : Point) (bs : List (Bend × ℕ)) → ((c : Bend) → c.at ≡ q → IsTurn n ls x c → ⊥) → AreBends n ls x qs bs → AreBends n ls x (qs ++ q ∷ []) bs
turnless-more n ls x qs q bs none k = record {
  each = Every-implies _ (λ c. In c.0.at (qs ++ q ∷ []) × IsTurn n ls x c.0) bs (λ c o. (In-left qs (q ∷ []) c.0.at o.0, o.1)) k.each;
  all = λ c i o. all c o (In-append qs (q ∷ []) c.at i);
  told = k.told;
  sorted = k.sorted;
}
  where
    all : (c : Bend) → IsTurn n ls x c → In c.at qs ⊎ In c.at (q ∷ []) → In c (map (λ (b : Bend × ℕ). b.0) bs)
    all c o (inl i) = k.all c i o
    all c o (inr (inl e)) = absurd (none c e o)
    all c o (inr (inr f)) = absurd f

pub special-none : (n : ℕ) (ls : List Wall) (x : Exp) (qs : List Point) (q : Point) (bs : List (Bend × ℕ)) → is_special ls q ≡ true → AreBends n ls x qs bs → AreBends n ls x (qs ++ q ∷ []) bs
special-none n ls x qs q bs s k = turnless-more n ls x qs q bs none k
  where
    none : (c : Bend) → c.at ≡ q → IsTurn n ls x c → ⊥
    none c e o = let p = o.plain in let f : is_special ls c.at ≡ true = subst (λ (r : Point). is_special ls r ≡ true) (sym e) s in absurd (cc)

-- ---- a list of points, one after another

pub points-more : (ps : List CodePoint) (i : ℕ) (q : CodePoint) → i < length ps → q ≡ get_or ps i q → points_of (take (i + 1) ps) ≡ points_of (take i ps) ++ point_of q ∷ []
points-more ps i q l e = ap points_of (take_more ps i q l) ∙ map-append point_of (take i ps) (get_or ps i q ∷ []) ∙ ap (λ (r : CodePoint). points_of (take i ps) ++ point_of r ∷ []) (sym e)

-- in sorted points, those before a place come before its point
pub points-before : (ps : List CodePoint) (i : ℕ) (q : CodePoint) → i < length ps → q ≡ get_or ps i q → EveryPair (λ p q. IsTrue (point_before p q)) (points_of ps) → Every (λ r. IsTrue (point_before r (point_of q))) (points_of (take i ps))
points-before [] i q l e h = absurd (omega (arith, l))
points-before (p ∷ ps) zero q l e h = tt
points-before (p ∷ ps) (suc i) q l e h = (first ps i (omega (arith, l)) e h.0, points-before ps i q (omega (arith, l)) e h.1)
  where
    first : (ps : List CodePoint) (i : ℕ) → i < length ps → q ≡ get_or ps i q → Every (λ q. IsTrue (point_before (point_of p) q)) (points_of ps) → IsTrue (point_before (point_of p) (point_of q))
    first [] i l e h = absurd (omega (arith, l))
    first (r ∷ ps) zero l e h = subst (λ (s : CodePoint). IsTrue (point_before (point_of p) (point_of s))) (sym e) h.0
    first (r ∷ ps) (suc i) l e h = first ps i (omega (arith, l)) e h.1

-- ---- the first that is special, where one point more is looked at

module _ (ls : List Wall) (before after : List CodePoint) (r : CodePoint) (e : points_of after ≡ points_of before ++ point_of r ∷ []) where
  either : (q : Point) → In q (points_of after) → In q (points_of before) ⊎ (q ≡ point_of r)
  either q i = go (In-append (points_of before) (point_of r ∷ []) q (subst (In q) e i))
    where
      go : In q (points_of before) ⊎ In q (point_of r ∷ []) → In q (points_of before) ⊎ (q ≡ point_of r)
      go (inl j) = inl j
      go (inr (inl k)) = inr k
      go (inr (inr f)) = absurd f

  old : (q : Point) → In q (points_of before) → In q (points_of after)
  old q i = subst (In q) (sym e) (In-left (points_of before) (point_of r ∷ []) q i)

  new : In (point_of r) (points_of after)
  new = subst (In (point_of r)) (sym e) (In-right (points_of before) (point_of r ∷ []) (point_of r) (inl refl))

  -- that isn't special
  pub first-plain : is_special ls (point_of r) ≡ false → (o : Option CodePoint) → IsFirstSpecial ls before o → IsFirstSpecial ls after o
  first-plain s None h = λ q i. go q (either q i)
    where
      go : (q : Point) → In q (points_of before) ⊎ (q ≡ point_of r) → is_special ls q ≡ false
      go q (inl j) = h q j
      go q (inr k) = subst (λ (p : Point). is_special ls p ≡ false) (sym k) s
  first-plain s (Some t) h = ((old (point_of t) h.0.0, h.0.1), λ q o. go q o.1 (either q o.0))
    where
      go : (q : Point) → is_special ls q ≡ true → In q (points_of before) ⊎ (q ≡ point_of r) → (q ≡ point_of t) ⊎ IsTrue (point_before (point_of t) q)
      go q u (inl j) = h.1 q (j, u)
      go q u (inr k) = let f : is_special ls q ≡ false = subst (λ (p : Point). is_special ls p ≡ false) (sym k) s in absurd (cc)

  -- that is
  module _ (s : is_special ls (point_of r) ≡ true) where
    first-one : IsFirstSpecial ls before None → IsFirstSpecial ls after (Some r)
    first-one h = ((new, s), λ q o. go q o.1 (either q o.0))
      where
        go : (q : Point) → is_special ls q ≡ true → In q (points_of before) ⊎ (q ≡ point_of r) → (q ≡ point_of r) ⊎ IsTrue (point_before (point_of r) q)
        go q u (inl j) = let f = h q j in absurd (cc)
        go q u (inr k) = inl k

    first-later : Every (λ q. IsTrue (point_before q (point_of r))) (points_of before) → (t : CodePoint) → IsFirstSpecial ls before (Some t) → IsFirstSpecial ls after (Some t)
    first-later b t h = ((old (point_of t) h.0.0, h.0.1), λ q o. go q o.1 (either q o.0))
      where
        go : (q : Point) → is_special ls q ≡ true → In q (points_of before) ⊎ (q ≡ point_of r) → (q ≡ point_of t) ⊎ IsTrue (point_before (point_of t) q)
        go q u (inl j) = h.1 q (j, u)
        go q u (inr k) = inr (subst (λ (p : Point). IsTrue (point_before (point_of t) p)) (sym k) (Every-at (λ q. IsTrue (point_before q (point_of r))) (points_of before) (point_of t) b h.0.0))

    pub first-special : Every (λ q. IsTrue (point_before q (point_of r))) (points_of before) → (o : Option CodePoint) → IsFirstSpecial ls before o → IsFirstSpecial ls after (option_or o (Some r))
    first-special b None h = first-one h
    first-special b (Some t) h = first-later b t h

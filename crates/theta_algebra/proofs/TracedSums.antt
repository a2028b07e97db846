-- The sum of the values of the lines of complete tails, tail by tail, and the theta that it is.
use Rattle.std.proofs.Common.{◌≡◌, ℕ, refl, sym, ap, subst, ◌∙◌, ◌+◌, ◌<◌, ◌≤◌, ◌^◌, ◌⊎◌, inl, inr, arith, Bool, true, false, List, [], ◌∷◌, ◌++◌, map, take, length, get_or, to_z, of_z, int_eq as test_eq}
use Rattle.std.specs.Prelude.{ℤ, ◌+ℤ◌, nat_abs, None, not, ◌&&◌}
use Rattle.std.proofs.lemmas.Int.{ints}
use Rattle.std.proofs.lemmas.Bool.Decides.{Decides-int_eq}
use Rattle.std.proofs.lemmas.List.{take_more}
use mir.Syntax.{w128}
use Rattle.limits.specs.Limits.{highest_order, largest_weight}
use Rattle.scattering.specs.Collections.{In, Every}
use Rattle.scattering.specs.Series.{Exp, Key, Term, Sum, IsSeries, Same, origin, int_eq, exp_eq, coef, degree}
use Rattle.scattering.specs.Plane.{Point, IsPoint}
use Rattle.scattering.specs.Wall.{Wall, IsWall}
use Rattle.scattering.specs.Tail.{Tail, IsTail, is_complete}
use Rattle.scattering.specs.Theta.{IsAskFault}
use Rattle.scattering.proofs.Keys.{int_eq-same, int_eq-refl}
use Rattle.scattering.proofs.Lists.{bool_iff, not-out, map-append, Every-append, Every-left, Every-right, Every-implies, Every-place}
use Rattle.scattering.proofs.Pairing.{coef-append}
use Rattle.trunc_series.specs.declared.arithmetic.Arithmetic.TheVariants.{Wrapping}
use Rattle.trunc_series.specs.Arithmetic.{kept, IsKeepable}
use Rattle.trunc_series.specs.Shown.{Seen, IsSeriesOf, IsValid}
use Rattle.trunc_series.specs.Reduced.{IsKeptAs}
use Rattle.trunc_series.specs.Sums.{StandsFor, IsSortedFor}
use Rattle.trunc_series.proofs.Exact.{exact}
use Rattle.trunc_series.proofs.TermLists.{stands-trans, stands-every}
use Rattle.broken_line_theory.proofs.ThetaOfRoots.{values-append}
use Rattle.broken_line_theory.proofs.ThetaOfTails.{theta-of-tails}
use Rattle.broken_line_theory.proofs.ThetaSums.{line-value, values-low, values-small}
use Rattle.broken_line_theory.proofs.TracedThetas.{theta-same}
use Rattle.scatter_diagram.specs.Proper.{AreTameWalls}
use Rattle.bend_finder.specs.Ahead.{SeenFinder}
use Rattle.broken_lines.specs.declared.tail.Tail.{Tail as CodeTail}
use Rattle.broken_lines.specs.declared.tail.Traced.{Traced}
use Rattle.broken_lines.specs.Traced.{SeenTail, seen_tail, seen_tails, plain, plain_tails, IsTold, AreAllTails, AreTails}
use Rattle.theta_algebra.specs.LineValues.{line_term, line_sum, traced_sum, IsAsked, IsLightTail, AreLightTails, AreFound}
use Rattle.theta_algebra.specs.Thetas.{IsThetaOf}
use Rattle.theta_algebra.proofs.LightTails.{as-is, value-small, tail-bends, light-tails}

-- ---- whether a tail is complete, as the program tests it

same-test : (x y : ℤ) → test_eq x y ≡ int_eq x y
same-test x y = bool_iff (test_eq x y) (int_eq x y) (λ e. subst (λ (z : ℤ). int_eq x z ≡ true) ((Decides-int_eq x y).0 e) (int_eq-refl x)) (λ e. (Decides-int_eq x y).1 (int_eq-same x y e))

abbrev goes_from : SeenTail → Exp → Bool
goes_from t m = test_eq t.last.a m.a && test_eq t.last.b m.b

goes-from : (t : SeenTail) (m : Exp) → IsTold t → goes_from t m ≡ is_complete m (plain t)
goes-from t m h = rw (same-test t.last.a m.a, same-test t.last.b m.b) (ap (λ (x : Exp). exp_eq x m) h.1)

pub is-incomplete : (t : SeenTail) (m : Exp) → IsTold t → not (goes_from t m) ≡ true → is_complete m (plain t) ≡ false
is-incomplete t m h e = sym (goes-from t m h) ∙ not-out (goes_from t m) e

pub is-whole : (t : SeenTail) (m : Exp) → IsTold t → not (goes_from t m) ≡ false → is_complete m (plain t) ≡ true
is-whole t m h e = sym (goes-from t m h) ∙ out (goes_from t m) e
  where
    out : (b : Bool) → not b ≡ false → b ≡ true
    out true e = refl
    out false e = absurd (cc)

-- ---- one tail

pub sum-none : (ws : List Wall) (b : ℕ) (m : Exp) (t : Tail) → is_complete m t ≡ false → line_sum ws b m (t ∷ []) ≡ []
sum-none ws b m t e = rw e refl

pub sum-one : (ws : List Wall) (b : ℕ) (m : Exp) (t : SeenTail) → IsLightTail ws b m t → is_complete m (plain t) ≡ true → line_sum ws b m (plain t ∷ []) ≡ line_term ws b (plain t) ∷ []
sum-one ws b m t h e = rw e (ap (λ (u : Term). u ∷ []) (line-value ws b h.walls.0 m h.tail.0 h.walls.1 (plain t) h.tail.1 e))

-- a term as the program adds it
pub sum-term : (ws : List Wall) (b : ℕ) (m : Exp) (t : SeenTail) (u : Term) (f : Sum) → IsLightTail ws b m t → is_complete m (plain t) ≡ true → u ≡ line_term ws b (plain t)
    → ((u.0, to_z w128 (of_z w128 u.1)) ∷ f) ≡ line_sum ws b m (plain t ∷ []) ++ f
sum-term ws b m t u f h c e =
    ap (λ (v : Term). v ∷ f) own ∙ ap (λ (g : Sum). g ++ f) (sym (sum-one ws b m t h c))
  where
    exactly : to_z w128 (of_z w128 u.1) ≡ (line_term ws b (plain t)).1
    exactly =
        let v = ap (λ (w : Term). w.1) e in
        ap (λ (x : ℤ). to_z w128 (of_z w128 x)) v ∙ as-is (line_term ws b (plain t)).1 (value-small ws b t.root t.bends (tail-bends ws b m t h))

    own : (u.0, to_z w128 (of_z w128 u.1)) ≡ line_term ws b (plain t)
    own = λ i. ((ap (λ (w : Term). w.0) e) i, exactly i)

-- ---- one tail more

stands-swap : (f a c : Sum) → StandsFor Wrapping f (a ++ c) → StandsFor Wrapping f (c ++ a)
stands-swap f a c s = record {
  values = s.values;
  keepable = Every-append (λ (t : Term). IsKeepable Wrapping t.1) c a (Every-right (λ (t : Term). IsKeepable Wrapping t.1) a c s.keepable) (Every-left (λ (t : Term). IsKeepable Wrapping t.1) a c s.keepable);
  same = λ k. s.same k ∙ ap (kept Wrapping) (coef-append a c k ∙ turned (coef a k) (coef c k) ∙ sym (coef-append c a k));
  keys = Every-implies (λ (t : Term). In t.0 (map (λ u. u.0) (a ++ c))) (λ t. In t.0 (map (λ u. u.0) (c ++ a))) f (λ t i. over t.0 a i) s.keys;
}
  where
    turned : (x y : ℤ) → x +ℤ y ≡ y +ℤ x
    turned x y = omega (arith, ints)

    right : (x : Key) (d e : Sum) → In x (map (λ u. u.0) e) → In x (map (λ u. u.0) (d ++ e))
    right x [] e i = i
    right x (t ∷ d) e i = inr (right x d e i)

    left : (x : Key) (d e : Sum) → In x (map (λ u. u.0) d) → In x (map (λ u. u.0) (d ++ e))
    left x [] e i = absurd i
    left x (t ∷ d) e (inl p) = inl p
    left x (t ∷ d) e (inr i) = inr (left x d e i)

    parted : (x : Key) (d : Sum) → In x (map (λ u. u.0) (d ++ c)) → In x (map (λ u. u.0) d) ⊎ In x (map (λ u. u.0) c)
    parted x [] i = inr i
    parted x (t ∷ d) (inl p) = inl (inl p)
    parted x (t ∷ d) (inr i) = go (parted x d i)
      where
        go : In x (map (λ u. u.0) d) ⊎ In x (map (λ u. u.0) c) → In x (map (λ u. u.0) (t ∷ d)) ⊎ In x (map (λ u. u.0) c)
        go (inl j) = inl (inr j)
        go (inr j) = inr j

    over : (x : Key) (d : Sum) → In x (map (λ u. u.0) (d ++ c)) → In x (map (λ u. u.0) (c ++ d))
    over x d i = go (parted x d i)
      where
        go : In x (map (λ u. u.0) d) ⊎ In x (map (λ u. u.0) c) → In x (map (λ u. u.0) (c ++ d))
        go (inl j) = right x c d j
        go (inr j) = left x c d j

module _ (ws : List Wall) (b k : ℕ) (m : Exp) (q : Point) (walls : Every (IsWall k) ws) where
  sum-append : (ts us : List CodeTail) → traced_sum ws b m (ts ++ us) ≡ traced_sum ws b m ts ++ traced_sum ws b m us
  sum-append ts us =
      ap (λ (vs : List SeenTail). line_sum ws b m (plain_tails vs)) (map-append seen_tail ts us)
      ∙ ap (line_sum ws b m) (map-append plain (seen_tails ts) (seen_tails us))
      ∙ values-append ws b k m q walls (plain_tails (seen_tails ts)) (plain_tails (seen_tails us))

  pub sum-more : (ts : List CodeTail) (i : ℕ) (t : CodeTail) (f g : Sum) → i < length ts → t ≡ get_or ts i t → StandsFor Wrapping f (traced_sum ws b m (take i ts))
      → StandsFor Wrapping g (line_sum ws b m (plain (seen_tail t) ∷ []) ++ f) → StandsFor Wrapping g (traced_sum ws b m (take (i + 1) ts))
  sum-more ts i t f g l e s s' =
      subst (StandsFor Wrapping g)
      (sym (ap (traced_sum ws b m) (take_more ts i t l ∙ ap (λ (u : CodeTail). take i ts ++ u ∷ []) (sym e)) ∙ sum-append (take i ts) (t ∷ [])))
      (stands-swap g (traced_sum ws b m (t ∷ [])) (traced_sum ws b m (take i ts))
      (stands-trans Wrapping f g (traced_sum ws b m (take i ts)) (line_sum ws b m (plain (seen_tail t) ∷ [])) s s'))

  -- ---- all tails

  pub sum-low : (ts : List CodeTail) → Every (IsTail ws b m q) (plain_tails (seen_tails ts)) → Every (λ t. degree t.0 ≤ b) (traced_sum ws b m ts)
  sum-low ts h = values-low ws b k m q walls (plain_tails (seen_tails ts)) h

  pub sum-small : (ts : List CodeTail) (w : ℕ) → AreAllTails ws b m q (seen_tails ts) w → (x : Key) → nat_abs (coef (traced_sum ws b m ts) x) ≤ largest_weight
  sum-small ts w h x = below (values-small ws b k m q walls (plain_tails (seen_tails ts)) x h.lists.each) h.weight h.light
    where
      below : {i j w l : ℕ} → i ≤ j → j ≡ w → w ≤ l → i ≤ l
      below p e g = omega (arith, p, e, g)

-- the sum with the tail at a place, for the tracer that was asked before
pub sum-step : (f g : SeenFinder) (m : Exp) (ts : List CodeTail) (i : ℕ) (t : CodeTail) (old new : Sum) → g ≡ f → AreLightTails f.walls f.limit m ts → i < length ts → t ≡ get_or ts i t
    → StandsFor Wrapping old (traced_sum f.walls f.limit m (take i ts)) → StandsFor Wrapping new (line_sum g.walls g.limit m (plain (seen_tail t) ∷ []) ++ old)
    → StandsFor Wrapping new (traced_sum f.walls f.limit m (take (i + 1) ts))
sum-step f g m ts i t old new e h l p s s' =
    let a = Every-place (λ u. IsLightTail f.walls f.limit m (seen_tail u)) ts i t l p h in
    sum-more f.walls f.limit a.walls.0 m a.tail.0 a.walls.1 ts i t old new l p s
    (subst (λ (k : SeenFinder). StandsFor Wrapping new (line_sum k.walls k.limit m (plain (seen_tail t) ∷ []) ++ old)) e s')

-- ---- the series

pub exact-sum : (n : ℕ) (g f r : Sum) → n ≤ highest_order → Every (λ t. degree t.0 ≤ n) g → ((x : Key) → nat_abs (coef g x) ≤ largest_weight)
    → StandsFor Wrapping f g → IsSortedFor Wrapping r f → IsValid n r × Same r g
exact-sum n g f r o low small s sorted = exact n r g o kept-as (λ x. most (small x))
  where
    k : IsKeptAs Wrapping n r f
    k = sorted n (stands-every Wrapping (λ x. degree x ≤ n) f g s low)

    kept-as : IsKeptAs Wrapping n r g
    kept-as = record { series = k.series; keeps = k.keeps; keepable = s.keepable; same = λ x. k.same x ∙ s.same x }

    most : {i : ℕ} → i ≤ largest_weight → i < 2 ^ 127
    most h = omega (arith, h)

-- ---- the theta

pub theta-of-sum : (ws : List Wall) (b k : ℕ) (m : Exp) (q : Point) (ts : List CodeTail) (w : ℕ) (s : Seen) → Every (IsWall k) ws → IsPoint q → IsAskFault ws b m q None
    → exp_eq m origin ≡ false → AreAllTails ws b m q (seen_tails ts) w → IsSeriesOf s b (traced_sum ws b m ts) → IsThetaOf ws b m q s
theta-of-sum ws b k m q ts w s walls point free moves h i =
    (theta-same ws b m q s.terms (traced_sum ws b m ts) i.same (theta-of-tails ws b k m q walls point free (plain_tails (seen_tails ts)) moves h.lists), i.order, i.series)

pub moving-tails : (ws : List Wall) (b : ℕ) (m : Exp) (q : Point) (t : Traced) → exp_eq m origin ≡ false → AreTails ws b m q t → AreAllTails ws b m q (seen_tails t.tails.items) t.weight
moving-tails ws b m q t e h = rw e at h

-- ---- as the program makes it

pub all-light : (ws : List Wall) (b k : ℕ) (m : Exp) (ts : List CodeTail) → b ≤ highest_order → AreTameWalls ws → Every (IsWall k) ws → IsAsked m → AreFound ws b m ts → AreLightTails ws b m ts
all-light ws b k m ts low tame walls asked h = light-tails ws b k m low tame walls asked h.0 ts h.1 h.2

pub made-sum : (ws : List Wall) (b k : ℕ) (m : Exp) (ts : List CodeTail) (sum r : Sum) → b ≤ highest_order → Every (IsWall k) ws → AreFound ws b m ts
    → StandsFor Wrapping sum (traced_sum ws b m ts) → IsSortedFor Wrapping r sum → IsValid b r × Same r (traced_sum ws b m ts)
made-sum ws b k m ts sum r low walls h s sorted =
    exact-sum b (traced_sum ws b m ts) sum r low (sum-low ws b k m h.0 walls ts h.2.lists.each) (sum-small ws b k m h.0 walls ts h.1 h.2) s sorted

pub series-of : (s : Seen) (n b : ℕ) (r g : Sum) → s.order ≡ n → n ≡ b → s.terms ≡ r → IsValid b r × Same r g → IsSeriesOf s b g
series-of s n b r g o e t h = record {
  order = o ∙ e;
  series = subst (IsSeries b) (sym t) h.0.series;
  same = λ x. ap (λ (f : Sum). coef f x) t ∙ h.1 x;
}

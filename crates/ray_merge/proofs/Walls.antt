-- Walls of the program that are read at a higher order, joined, or made of one term.
use Rattle.std.proofs.Common.{◌≡◌, ◌≢◌, ℕ, ◌≤◌, ◌<◌, ◌^◌, refl, sym, subst, ap, ◌∙◌, Bool, true, false, not, List, [], ◌∷◌, ◌++◌, inl, inr, arith}
use Rattle.std.specs.Prelude.{ℤ, pos, ◌+ℤ◌, nat_abs, filter, length, IsTrue}
use Rattle.scattering.specs.Collections.{Every, EveryPair}
use Rattle.scattering.specs.Series.{Exp, Key, Term, Sum, degree, unit, one, coef, rest, key_eq, mass_to, IsSeries, IsMultiple, IsWallFunction}
use Rattle.scattering.specs.Wall.{Wall, Outgoing, is_live}
use Rattle.scattering.specs.Plane.{Point, IsDirection}
use Rattle.scattering.proofs.Coefficients.{coef-none}
use Rattle.scattering.proofs.Lists.{Every-at, Every-from_In, Every-filter, Every-implies, Every-append, pairs-filter, pairs-append}
use Rattle.scattering.proofs.Keys.{key_eq-refl, key_eq-same}
use Rattle.correction_theory.proofs.MergedTerms.{one-is}
use Rattle.correction_theory.proofs.MergedDiagram.{live-by}
use Rattle.trunc_series.specs.Shown.{Seen, IsSeriesOf, IsTerm, IsValid, key_of, term_of, sum_of}
use Rattle.trunc_series.specs.declared.key.Key.{Key as CodeKey}
use Rattle.trunc_series.specs.declared.arithmetic.Arithmetic.TheVariants.{Wrapping}
use Rattle.trunc_series.specs.Reduced.{IsKeptAs}
use Rattle.trunc_series.proofs.Exact.{Made, own, made-terms, made-rising}
use Rattle.trunc_series.proofs.Coefficients.{add-zero}
use Rattle.trunc_series.proofs.Unique.{series-terms}
use Rattle.trunc_series.proofs.Terms.{terms-raised}
use Rattle.plane_geom.specs.Shown.{point_of, vector_of}
use Rattle.plane_geom.specs.declared.Direction.{Direction}
use Rattle.scatter_diagram.specs.declared.wall.Wall.{Wall as CodeWall}
use Rattle.scatter_diagram.specs.Kinds.{kind_of}
use Rattle.scatter_diagram.specs.Proper.{IsProper, IsTame}
use Rattle.scatter_diagram.specs.Shown.{wall_of}
use Rattle.ray_merge.specs.Additions.{IsWithOne, IsRayTerm, IsLightAlong, terms_along}
use Rattle.ray_merge.specs.Rays.{IsJoinable, IsJoined, IsRayOf}
use Rattle.scattering.proofs.DistinctKeys.{rising-distinct}
use Rattle.scattering.proofs.Pairing.{coef-append, skip-zero}
use Rattle.std.proofs.lemmas.Int.{ints}
use Rattle.ray_merge.proofs.Along.{mass_along-all}
use Rattle.ray_merge.proofs.Functions.{IsOther, mass-one, mass-higher, function-higher, distinct-both, more-terms, more-function, more-load, more-mass, more-tame, more-live}

-- what a function of order n has to meet
proper : (d : Direction) (n : ℕ) (s : Seen) → s.order ≡ n → IsWallFunction n (vector_of d) s.terms → mass_to n s.terms ≤ 2 ^ 127 → Every IsTame s.terms → IsProper d s
proper d n s e f m t = record {
  function = subst (λ (k : ℕ). IsWallFunction k (vector_of d) s.terms) (sym e) f;
  mass = subst (λ (k : ℕ). mass_to k s.terms ≤ 2 ^ 127) (sym e) m;
  tame = t;
}

-- the series of a sorted list
pub sorted-series : (s : Seen) (n : ℕ) (f : Sum) → s.order ≡ n → s.terms ≡ f → IsValid n f → IsSeriesOf s n f
sorted-series s n f o t v = record { order = o; series = subst (IsSeries n) (sym t) v.series; same = λ k. ap (λ g. coef g k) t }

-- ---- read at a higher order

pub raised-valid : (m n : ℕ) (f : Sum) → m ≤ n → n ≤ 24 → IsValid m f → IsValid n f
raised-valid m n f l o v = (made-rising n f o v.series.rises (terms-raised m n f l v)).0

pub raised-function : (w : CodeWall) (n : ℕ) (s : Seen) → w.function.order ≤ n → IsSeriesOf s n w.function.terms → IsProper w.dir s × (s.terms ≡ w.function.terms)
raised-function w n s l h = (
  proper w.dir n s h.order (subst (IsWallFunction n (vector_of w.dir)) (sym e) (function-higher w.function.order n (vector_of w.dir) w.function.terms l w.proper.function))
      (rw e (rw (mass-higher w.function.order n w.function.terms l w.proper.function.series.low) w.proper.mass))
      (subst (Every IsTame) (sym e) w.proper.tame),
  e,
)
  where
    e : s.terms ≡ w.function.terms
    e = series-terms s n w.function.order w.function.terms h w.proper.function.series

-- ---- joined

-- the terms but the constant one
pub others-rest : (ts : List (CodeKey × ℤ)) → sum_of (filter (λ t. not (key_eq (key_of t.0) unit)) ts) ≡ rest (sum_of ts)
others-rest [] = refl
others-rest (t ∷ ts) = go (key_eq (key_of t.0) unit) refl (others-rest ts)
  where
    go : (b : Bool) → key_eq (key_of t.0) unit ≡ b → sum_of (filter (λ t. not (key_eq (key_of t.0) unit)) ts) ≡ rest (sum_of ts) → sum_of (filter (λ t. not (key_eq (key_of t.0) unit)) (t ∷ ts)) ≡ rest (sum_of (t ∷ ts))
    go true e h = rw e h
    go false e h = rw e (ap (λ f. term_of t ∷ f) h)

module _ (x y : CodeWall) (n : ℕ) (lx : x.function.order ≤ n) (ly : y.function.order ≤ n) (dir : vector_of x.dir ≡ vector_of y.dir) (j : IsJoinable n (wall_of x) (wall_of y)) where
  others : Every (IsOther (vector_of x.dir)) (rest y.function.terms)
  others = subst (λ (d : Exp). Every (IsOther d) (rest y.function.terms)) (sym dir) y.proper.function.others

  joined-distinct : EveryPair (λ t u. t.0 ≢ u.0) (x.function.terms ++ rest y.function.terms)
  joined-distinct =
      distinct-both x.function.order n (vector_of x.dir) x.function.terms (rest y.function.terms) x.proper.function lx others
      (rising-distinct (rest y.function.terms) (pairs-filter _ _ y.function.terms y.proper.function.series.rises)) j.distinct

  joined-each : IsValid x.function.order x.function.terms → IsValid y.function.order y.function.terms → Every (IsTerm n) (x.function.terms ++ rest y.function.terms)
  joined-each vx vy =
      Every-append (IsTerm n) x.function.terms (rest y.function.terms) (terms-raised x.function.order n x.function.terms lx vx)
      (Every-filter (IsTerm n) _ y.function.terms (terms-raised y.function.order n y.function.terms ly vy))

  -- what the merge of both lists is
  pub joined-made : (r : Sum) → n ≤ 24 → IsValid x.function.order x.function.terms → IsValid y.function.order y.function.terms
      → ((m : ℕ) (f g : Sum) → IsKeptAs Wrapping m x.function.terms f → IsKeptAs Wrapping m (rest y.function.terms) g → IsKeptAs Wrapping m r (f ++ g)) → Made n r (x.function.terms ++ rest y.function.terms)
  joined-made r o vx vy h =
      made-terms n r (x.function.terms ++ rest y.function.terms) o joined-distinct (joined-each vx vy)
      (h n x.function.terms (rest y.function.terms) (own n x.function.terms (series x.function.order x.function.terms lx vx.series) vx.small)
      (own n (rest y.function.terms) (others-series (series y.function.order y.function.terms ly vy.series)) (Every-filter (λ t. nat_abs t.1 < 2 ^ 127) _ y.function.terms vy.small)))
    where
      series : (m : ℕ) (f : Sum) → m ≤ n → IsSeries m f → IsSeries n f
      series m f l s = record { rises = s.rises; nonzero = s.nonzero; low = Every-implies (λ t. degree t.0 ≤ m) (λ t. degree t.0 ≤ n) f (λ t q. omega (arith, q, l)) s.low }

      others-series : IsSeries n y.function.terms → IsSeries n (rest y.function.terms)
      others-series s = record { rises = pairs-filter _ _ y.function.terms s.rises; nonzero = Every-filter _ _ y.function.terms s.nonzero; low = Every-filter _ _ y.function.terms s.low }

  pub joined-series : (s : Seen) (r : Sum) → IsSeriesOf s n r → Made n r (x.function.terms ++ rest y.function.terms) → IsSeriesOf s n (x.function.terms ++ rest y.function.terms)
  joined-series s r h m = record { order = h.order; series = h.series; same = λ k. h.same k ∙ m.1 k }

  module _ (s : Seen) (h : IsSeriesOf s n (x.function.terms ++ rest y.function.terms)) where
    pub joined-proper : IsProper x.dir s
    joined-proper =
        proper x.dir n s h.order
        (more-function x.function.order n (vector_of x.dir) x.function.terms (rest y.function.terms) x.proper.function lx others s h)
        (let m = more-mass x.function.order n (vector_of x.dir) x.function.terms (rest y.function.terms) x.proper.function lx others s h in let b = j.light in omega (arith, m, b))
        (more-tame x.function.order n (vector_of x.dir) x.function.terms (rest y.function.terms) x.proper.function lx others s h x.proper.tame (Every-filter IsTame _ y.function.terms y.proper.tame))

    pub joined-wall : IsJoined n (wall_of x) (wall_of y) (record { kind = kind_of x.kind; at = point_of x.at; dir = vector_of x.dir; function = s.terms })
    joined-wall = record {
      kind = refl;
      at = refl;
      dir = refl;
      terms = more-terms x.function.order n (vector_of x.dir) x.function.terms (rest y.function.terms) x.proper.function lx others s h;
      live = λ v. more-live x.function.order n (vector_of x.dir) x.function.terms (rest y.function.terms) x.proper.function lx others s h j.distinct v;
    }

-- ---- of terms along one direction

-- the coefficient at the first of distinct keys
first-coef : (t : Term) (f : Sum) → EveryPair (λ t u. t.0 ≢ u.0) (t ∷ f) → coef (t ∷ f) t.0 ≡ t.1
first-coef t f d = rw (key_eq-refl t.0, coef-none f t.0 (Every-implies (λ (u : Term). t.0 ≢ u.0) (λ u. key_eq u.0 t.0 ≡ false) f (λ u q. unlike u q) d.0)) (add-zero t.1)
  where
    unlike : (u : Term) → t.0 ≢ u.0 → key_eq u.0 t.0 ≡ false
    unlike u q = go (key_eq u.0 t.0) refl
      where
        go : (b : Bool) → key_eq u.0 t.0 ≡ b → key_eq u.0 t.0 ≡ false
        go true e = absurd (q (sym (key_eq-same u.0 t.0 e)))
        go false e = e

live-of : (n : ℕ) (w : Wall) (f : Sum) → 0 < length f → EveryPair (λ t u. t.0 ≢ u.0) f → Every (IsRayTerm n) f → ((k : Key) → coef (rest w.function) k ≡ coef f k) → IsTrue (is_live w)
live-of n w [] l d h e = absurd (omega (arith, l))
live-of n w (t ∷ f) l d h e = live-by w t.0 (λ z. h.0.nonzero (sym (first-coef t f d) ∙ sym (e t.0) ∙ z))

module _ (n : ℕ) (d : Direction) (f : Sum) (some : 1 ≤ n) (h : Every (IsRayTerm n) f) (multiples : Every (λ t. IsMultiple (vector_of d) t.0.exp) f) (distinct : EveryPair (λ t u. t.0 ≢ u.0) f) where
  themselves : Every (IsOther (vector_of d)) f
  themselves = Every-from_In _ f (λ t i. (let e = (Every-at (IsRayTerm n) f t h i).degree in omega (arith, e, some), Every-at (λ (t : Term). IsMultiple (vector_of d) t.0.exp) f t multiples i))

  low : n ≤ n
  low = omega arith

  pub along-distinct : EveryPair (λ t u. t.0 ≢ u.0) (one ++ f)
  along-distinct = distinct-both n n (vector_of d) one f (one-is n (vector_of d)) low themselves distinct tt

  pub along-each : Every (IsTerm n) (one ++ f)
  along-each = ((one-not_zero, lit, omega arith), Every-implies (IsRayTerm n) (IsTerm n) f (λ t h. (h.nonzero, (let s = h.small in omega (arith, s)), let e = h.degree in omega (arith, e))) h)
    where
      one-not_zero : pos 1 ≢ pos 0
      one-not_zero e = absurd (cc)

      lit : 1 < 2 ^ 127
      lit = omega arith

  module _ (s : Seen) (k : IsSeriesOf s n (one ++ f)) where
    pub along-proper : mass_to n f < 2 ^ 127 → IsProper d s
    along-proper light =
        proper d n s k.order
        (more-function n n (vector_of d) one f (one-is n (vector_of d)) low themselves s k)
        (let m = more-mass n n (vector_of d) one f (one-is n (vector_of d)) low themselves s k in omega (arith, m, light))
        (more-tame n n (vector_of d) one f (one-is n (vector_of d)) low themselves s k ((omega arith, omega arith), tt) (Every-implies (IsRayTerm n) IsTame f (λ t h. tame t h) h))
      where
        tame : (t : Term) → IsRayTerm n t → IsTame t
        tame t h = (rw (h.degree) h.tame.0, rw (h.degree) h.tame.1)

    pub along-wall : (p : Point) → 0 < length f → IsRayOf n p f (record { kind = Outgoing; at = p; dir = vector_of d; function = s.terms })
    along-wall p any = record {
      kind = refl;
      at = refl;
      dir = multiples;
      terms = terms;
      load = let m = more-load n n (vector_of d) one f (one-is n (vector_of d)) low themselves s k in omega (arith, m);
      live = live-of n (record { kind = Outgoing; at = p; dir = vector_of d; function = s.terms }) f any distinct h terms;
    }
      where
        terms : (x : Key) → coef (rest s.terms) x ≡ coef f x
        terms x = more-terms n n (vector_of d) one f (one-is n (vector_of d)) low themselves s k x ∙ skip-zero (coef f x)

-- ---- with 1 before or behind

pub with-distinct : (f g : Sum) → IsWithOne f g → EveryPair (λ t u. t.0 ≢ u.0) (one ++ f) → EveryPair (λ t u. t.0 ≢ u.0) g
with-distinct f g (inl e) h = subst (EveryPair (λ (t u : Term). t.0 ≢ u.0)) (sym e) h
with-distinct f g (inr e) h =
    subst (EveryPair (λ (t u : Term). t.0 ≢ u.0)) (sym e)
    (pairs-append (λ (t u : Term). t.0 ≢ u.0) f one h.1 (tt, tt) (Every-implies (λ (u : Term). unit ≢ u.0) (λ u. Every (λ (t : Term). u.0 ≢ t.0) one) f (λ u q. ((λ e. q (sym e)), tt)) h.0))

pub with-each : (P : Term → Type 0) (f g : Sum) → IsWithOne f g → Every P (one ++ f) → Every P g
with-each P f g (inl e) h = subst (Every P) (sym e) h
with-each P f g (inr e) h = subst (Every P) (sym e) (Every-append P f one h.1 (h.0, tt))

pub with-series : (s : Seen) (n : ℕ) (f g : Sum) → IsWithOne f g → IsSeriesOf s n g → IsSeriesOf s n (one ++ f)
with-series s n f g (inl e) h = subst (IsSeriesOf s n) e h
with-series s n f g (inr e) h = record { order = h.order; series = h.series; same = λ k. h.same k ∙ ap (λ x. coef x k) e ∙ coef-append f one k ∙ turned (coef f k) (coef one k) ∙ sym (coef-append one f k) }
  where
    turned : (x y : ℤ) → x +ℤ y ≡ y +ℤ x
    turned x y = omega (arith, ints)

-- what is light along each direction is so along its own
pub light-along : (n : ℕ) (d : Exp) (f : Sum) → IsDirection d → Every (λ t. IsMultiple d t.0.exp) f → IsLightAlong n f → mass_to n f < 2 ^ 127
light-along n d f id m l = let a = l d id in let b = mass-one n (terms_along d f) in let e = mass_along-all n f d id m in omega (arith, a, b, e)

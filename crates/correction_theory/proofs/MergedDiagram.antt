-- A merged diagram exists: the terms of the corrections are added to the rays, one after the other.
use Rattle.std.proofs.Common.{◌≡◌, ◌≢◌, ℕ, refl, subst, sym, ◌∙◌, ap, List, [], ◌∷◌, map, Bool, true, false, cond, ◌≤◌, arith, inl, inr, ◌⊎◌}
use Rattle.std.specs.Prelude.{ℤ, pos, ◌&&◌, ◌+ℤ◌, ◌*ℤ◌, neg_ℤ, IsTrue, nat_abs}
use Rattle.std.specs.Int.{IsGcd}
use Rattle.sum_algebra.proofs.Ring.{minus, nought, ring}
use Rattle.sum_algebra.proofs.Ring as E
use Rattle.sum_algebra.proofs.IntegerRing.{ints_ring, ◌:+◌, ◌:*◌, X, Y, Z}
use Rattle.sum_algebra.proofs.Integers.{zero-or-not}
use Rattle.scattering.specs.Collections.{Every, EveryPair}
use Rattle.scattering.specs.Series.{Key, Sum, Exp, Term, degree, rest, one, coef, coef_at, key_eq, exp_eq, origin, IsMultiple}
use Rattle.scattering.specs.Plane.{Point, IsPoint, IsDirection, point_eq, point_before}
use Rattle.scattering.specs.Wall.{Outgoing, Wall, IsWall, is_live, cut_walls}
use Rattle.scattering.specs.Correction.{Ratio, Lie, ratio_at, ray_coef, Corrections, IsWhole, IsAdded, AreMergeable}
use Rattle.scattering.proofs.Lists.{Every-from_In, Every-at, any-true, Every-implies}
use Rattle.scattering.proofs.Keys.{key_eq-same, key_eq-refl, exp_eq-refl, point_eq-same}
use Rattle.scattering.proofs.Coefficients.{coef-none, dead-coef}
use Rattle.scattering.proofs.Determined.{coef-find}
use Rattle.plane_theory.proofs.Directions.{Multiple, as_multiple, same-direction, positive-not, direction-not_origin, scale-not_origin}
use Rattle.plane_theory.proofs.PointOrder.{before-irrefl}
use Rattle.plane_theory.proofs.TotalOrder.{Place, place_before, place-total, place-trans}
use Rattle.correction_theory.proofs.Insertion.{total, Joined, Inserted, insert}
use Rattle.correction_theory.proofs.MergedTerms.{Added, add-term, one-is}
use Rattle.correction_theory.specs.Laws.{MergedDiagramExists}

-- ---- rays in their order

abbrev GoodRay : ℕ → Wall → Type 0
GoodRay n r = (r.kind ≡ Outgoing) × IsWall n r × IsTrue (is_live r)

abbrev place_of : Wall → Place
place_of r = (r.at, r.dir)

abbrev ray_count : Point × Exp × Key → Wall → ℤ
ray_count i r = cond (point_eq r.at i.0 && exp_eq r.dir i.1) (coef (rest r.function) i.2) (pos 0)

abbrev InRayOrder : List Wall → Type 0
InRayOrder rays = EveryPair (λ r s. IsTrue (place_before (place_of r) (place_of s))) rays

total-rays : (n : ℕ) (p : Point) (d : Exp) (k : Key) (rays : List Wall) → total place_of place_before (GoodRay n) ray_count (p, d, k) rays ≡ ray_coef rays p d k
total-rays n p d k [] = refl
total-rays n p d k (r ∷ rays) = ap (λ c. ray_count (p, d, k) r +ℤ c) (total-rays n p d k rays)

pub live-by : (w : Wall) (k : Key) → coef (rest w.function) k ≢ pos 0 → IsTrue (is_live w)
live-by w k h = let t = coef-find (rest w.function) k h in any-true (λ (t : Term). true) (rest w.function) t.0 t.1 refl

-- ---- one term

module _ (n : ℕ) (p : Point) (ip : IsPoint p) (d : Exp) (id : IsDirection d) (t : Term) (nonzero : t.1 ≢ pos 0) (high : 1 ≤ degree t.0) (low : degree t.0 ≤ n) (multiple : IsMultiple d t.0.exp) where
  alone : Added n d one t
  alone = add-term n d one t (one-is n d) nonzero high low multiple

  abbrev new_ray : Wall
  new_ray = record { kind = Outgoing; at = p; dir = d; function = alone.function }

  -- its only term is t
  own-terms : (k : Key) → coef (rest alone.function) k ≡ coef_at k t
  own-terms k = alone.terms k ∙ ring ints_ring (coef_at k t ∷ []) (X :+ nought) X refl

  good-new : GoodRay n new_ray
  good-new = (
    refl,
    record { point = ip; direction = id; function = alone.is },
    live-by new_ray t.0 (λ z. nonzero (sym (own-terms t.0 ∙ rw (key_eq-refl t.0) refl) ∙ z)),
  )

  join-ray : (u : Wall) → GoodRay n u → place_of new_ray ≡ place_of u → Joined place_of place_before (GoodRay n) ray_count new_ray u
  join-ray u gu e = go (is_live joined) refl
    where
      more : Added n u.dir u.function t
      more = add-term n u.dir u.function t gu.1.function nonzero high low (subst (λ (c : Exp). IsMultiple c t.0.exp) (ap (λ (q : Place). q.1) e) multiple)

      joined : Wall
      joined = record u { function = more.function }

      -- what both rays have, at the place of the second
      at-place : (i : Point × Exp × Key) → ray_count i new_ray ≡ cond (point_eq u.at i.0 && exp_eq u.dir i.1) (coef_at i.2 t) (pos 0)
      at-place i = ap (λ (q : Place). cond (point_eq q.0 i.0 && exp_eq q.1 i.1) (coef (rest alone.function) i.2) (pos 0)) e ∙ ap (λ c. cond (point_eq u.at i.0 && exp_eq u.dir i.1) c (pos 0)) (own-terms i.2)

      both : (b : Bool) (x y z : ℤ) → z ≡ x +ℤ y → cond b z (pos 0) ≡ cond b x (pos 0) +ℤ cond b y (pos 0)
      both true x y z q = q
      both false x y z q = refl

      sums : (i : Point × Exp × Key) → ray_count i joined ≡ ray_count i new_ray +ℤ ray_count i u
      sums i = both (point_eq u.at i.0 && exp_eq u.dir i.1) (coef_at i.2 t) (coef (rest u.function) i.2) (coef (rest more.function) i.2) (more.terms i.2) ∙ ap (λ c. c +ℤ ray_count i u) (sym (at-place i))

      go : (b : Bool) → is_live joined ≡ b → Joined place_of place_before (GoodRay n) ray_count new_ray u
      go true l = record {
        items = joined ∷ [];
        good = ((gu.0, record { point = gu.1.point; direction = gu.1.direction; function = more.is }, l), tt);
        ordered = (tt, tt);
        same = (refl, tt);
        sums = λ i. ring ints_ring (ray_count i joined ∷ []) (X :+ nought) X refl ∙ sums i;
      }
      go false l = record { items = []; good = tt; ordered = tt; same = tt; sums = λ i. none (point_eq u.at i.0 && exp_eq u.dir i.1) i ∙ sums i }
        where
          none : (b : Bool) (i : Point × Exp × Key) → pos 0 ≡ cond b (coef (rest more.function) i.2) (pos 0)
          none true i = sym (dead-coef (rest more.function) i.2 l)
          none false i = refl

  with-term : (rays : List Wall) → Every (GoodRay n) rays → InRayOrder rays → Inserted place_of place_before (GoodRay n) ray_count new_ray rays
  with-term =
      insert place_of place_before (GoodRay n) ray_count
      (λ r s u a b c x y. place-trans (place_of r) (place_of s) (place_of u) a.1.point b.1.point c.1.point x y)
      new_ray good-new (λ u g. place-total (p, d) (place_of u) ip g.1.point) join-ray

  -- at a place, and at a positive multiple of its direction
  counted : (q : Point) (c : Exp) (k : Key) → IsDirection c → IsMultiple c k.exp → ray_count (q, c, k) new_ray ≡ cond (point_eq p q) (coef_at k t) (pos 0)
  counted q c k ic mk = go (point_eq p q) (exp_eq d c) refl (key_eq t.0 k) refl
    where
      self : (x y : Exp) → x ≡ y → exp_eq x y ≡ true
      self x y e = subst (λ (z : Exp). exp_eq x z ≡ true) e (exp_eq-refl x)

      go : (a b : Bool) → exp_eq d c ≡ b → (s : Bool) → key_eq t.0 k ≡ s → cond (a && b) (coef (rest alone.function) k) (pos 0) ≡ cond a (coef_at k t) (pos 0)
      go false b e s f = refl
      go true true e s f = own-terms k
      go true false e true f =
          let same : d ≡ c = same-direction d c id ic multiple.0 mk.0 multiple.1 mk.1 (sym multiple.2 ∙ ap (λ (x : Key). x.exp) (key_eq-same t.0 k f) ∙ mk.2) in
          let y : exp_eq d c ≡ true = self d c same in absurd (cc)
      go true false e false f = sym (rw f refl)

-- ---- the terms at one point

pub record Rays (n : ℕ) (rays : List Wall) (gain : Point → Exp → Key → ℤ) : Type 0 where
  pub items : List Wall
  pub good : Every (GoodRay n) items
  pub ordered : InRayOrder items
  pub sums : (q : Point) (d : Exp) (k : Key) → IsDirection d → IsMultiple d k.exp → ray_coef items q d k ≡ ray_coef rays q d k +ℤ gain q d k

abbrev IsNewTerm : ℕ → Term → Type 0
IsNewTerm n t = (1 ≤ degree t.0) × (degree t.0 ≤ n) × (t.0.exp ≢ origin)

at-point : (n : ℕ) (p : Point) → IsPoint p → (vs : Sum) → Every (IsNewTerm n) vs → (rays : List Wall) → Every (GoodRay n) rays → InRayOrder rays
    → Rays n rays (λ q d k. cond (point_eq p q) (coef vs k) (pos 0))
at-point n p ip [] hv rays g o = record { items = rays; good = g; ordered = o; sums = λ q d k hd mk. zero (point_eq p q) (ray_coef rays q d k) }
  where
    zero : (b : Bool) (c : ℤ) → c ≡ c +ℤ cond b (pos 0) (pos 0)
    zero true c = ring ints_ring (c ∷ []) X (X :+ nought) refl
    zero false c = ring ints_ring (c ∷ []) X (X :+ nought) refl
at-point n p ip (t ∷ vs) hv rays g o = go (zero-or-not t.1) (at-point n p ip vs hv.1 rays g o)
  where
    m : Multiple t.0.exp
    m = as_multiple t.0.exp hv.0.2

    skipped : (b s : Bool) (c v : ℤ) → c +ℤ cond b v (pos 0) ≡ c +ℤ cond b (cond s (pos 0) (pos 0) +ℤ v) (pos 0)
    skipped true true c v = ring ints_ring (c ∷ v ∷ []) (X :+ Y) (X :+ (nought :+ Y)) refl
    skipped true false c v = ring ints_ring (c ∷ v ∷ []) (X :+ Y) (X :+ (nought :+ Y)) refl
    skipped false s c v = refl

    added : (b : Bool) (c v w : ℤ) → cond b v (pos 0) +ℤ (c +ℤ cond b w (pos 0)) ≡ c +ℤ cond b (v +ℤ w) (pos 0)
    added true c v w = ring ints_ring (c ∷ v ∷ w ∷ []) (Y :+ (X :+ Z)) (X :+ (Y :+ Z)) refl
    added false c v w = ring ints_ring (c ∷ []) (nought :+ (X :+ nought)) (X :+ nought) refl

    go : (t.1 ≡ pos 0) ⊎ (t.1 ≢ pos 0) → Rays n rays (λ q d k. cond (point_eq p q) (coef vs k) (pos 0)) → Rays n rays (λ q d k. cond (point_eq p q) (coef (t ∷ vs) k) (pos 0))
    go (inl z) r = record {
      items = r.items;
      good = r.good;
      ordered = r.ordered;
      sums = λ q d k hd mk. r.sums q d k hd mk ∙ skipped (point_eq p q) (key_eq t.0 k) (ray_coef rays q d k) (coef vs k)
          ∙ ap (λ v. ray_coef rays q d k +ℤ cond (point_eq p q) (cond (key_eq t.0 k) v (pos 0) +ℤ coef vs k) (pos 0)) (sym z);
    }
    go (inr z) r =
        let i = with-term n p ip m.dir m.direction t z hv.0.0 hv.0.1 (pos m.g, m.positive, m.is) r.items r.good r.ordered in
        record {
          items = i.items;
          good = i.good;
          ordered = i.ordered;
          sums = λ q d k hd mk.
              sym (total-rays n q d k i.items) ∙ i.sums (q, d, k)
              ∙ ap (λ c. c +ℤ total place_of place_before (GoodRay n) ray_count (q, d, k) r.items) (counted n p ip m.dir m.direction t z hv.0.0 hv.0.1 (pos m.g, m.positive, m.is) q d k hd mk)
              ∙ ap (λ c. cond (point_eq p q) (coef_at k t) (pos 0) +ℤ c) (total-rays n q d k r.items ∙ r.sums q d k hd mk)
              ∙ added (point_eq p q) (ray_coef rays q d k) (coef_at k t) (coef vs k);
        }

-- ---- the values of a correction

-- v is -g·c
abbrev IsValue : Lie → Key → ℤ → Type 0
IsValue h k v = (g : ℕ) × IsGcd (nat_abs k.exp.a) (nat_abs k.exp.b) g × (v *ℤ (ratio_at h k).den ≡ neg_ℤ (pos g *ℤ (ratio_at h k).num))

keys-in : {B : Type 0} (P : Key → Type 0) (h : List (Key × B)) → Every (λ t. P t.0) h → Every P (map (λ t. t.0) h)
keys-in P [] a = tt
keys-in P (t ∷ h) a = (a.0, keys-in P h a.1)

keys-out : {B : Type 0} (P : Key → Type 0) (h : List (Key × B)) → Every P (map (λ t. t.0) h) → Every (λ t. P t.0) h
keys-out P [] a = tt
keys-out P (t ∷ h) a = (a.0, keys-out P h a.1)

record Values (n : ℕ) (h : Lie) : Type 0 where
  terms : Sum
  keys : map (λ (t : Term). t.0) terms ≡ map (λ (t : Key × Ratio). t.0) h
  values : (k : Key) → k.exp ≢ origin → IsValue h k (coef terms k)

-- what holds of the keys of h holds of those of its values
of-keys : (n : ℕ) (h : Lie) (w : Values n h) (P : Key → Type 0) → Every (λ t. P t.0) h → Every (λ t. P t.0) w.terms
of-keys n h w P a = keys-out P w.terms (subst (Every P) (sym w.keys) (keys-in P h a))

values-of : (n : ℕ) (h : Lie) → EveryPair (λ t u. t.0 ≢ u.0) h → Every (λ t. (degree t.0 ≡ n) × (t.0.exp ≢ origin)) h → Every IsWhole h → Values n h
values-of n [] di de wh = record {
  terms = [];
  keys = refl;
  values = λ k o. let m = as_multiple k.exp o in (m.g, m.gcd, ring ints_ring (pos m.g ∷ []) (nought :* E.unit) (minus (X :* nought)) refl);
}
values-of n (t ∷ h) di de wh =
    let r = values-of n h di.1 de.1 wh.1 in
    record { terms = (t.0, neg_ℤ v.0) ∷ r.terms; keys = ap (λ ks. t.0 ∷ ks) r.keys; values = λ k o. go r k o (key_eq t.0 k) refl }
  where
    m : Multiple t.0.exp
    m = as_multiple t.0.exp de.0.1

    v : (v : ℤ) × (v *ℤ t.1.den ≡ t.1.num *ℤ pos m.g)
    v = wh.0 m.g m.gcd

    unlike : (x y : Key) → x ≢ y → key_eq y x ≡ false
    unlike x y h = go (key_eq y x) refl
      where
        go : (b : Bool) → key_eq y x ≡ b → key_eq y x ≡ false
        go true e = absurd (h (sym (key_eq-same y x e)))
        go false e = e

    negated : (x den num g : ℤ) → x *ℤ den ≡ num *ℤ g → (neg_ℤ x +ℤ pos 0) *ℤ den ≡ neg_ℤ (g *ℤ num)
    negated x den num g e = ring ints_ring (x ∷ den ∷ []) ((minus X :+ nought) :* Y) (minus (X :* Y)) refl ∙ ap neg_ℤ e ∙ ring ints_ring (num ∷ g ∷ []) (minus (X :* Y)) (minus (Y :* X)) refl

    go : (r : Values n h) (k : Key) → k.exp ≢ origin → (b : Bool) → key_eq t.0 k ≡ b → IsValue (t ∷ h) k (cond (key_eq t.0 k) (neg_ℤ v.0) (pos 0) +ℤ coef r.terms k)
    go r k o true e =
        let s : t.0 ≡ k = key_eq-same t.0 k e in
        let none : coef r.terms k ≡ pos 0 = subst (λ (x : Key). coef r.terms x ≡ pos 0) s (coef-none r.terms t.0 (of-keys n h r (λ x. key_eq x t.0 ≡ false) (Every-implies _ _ h (λ u q. unlike t.0 u.0 q) di.0))) in (
          m.g,
          subst (λ (x : Key). IsGcd (nat_abs x.exp.a) (nat_abs x.exp.b) m.g) s m.gcd,
          rw (e, none) (negated v.0 t.1.den t.1.num (pos m.g) v.1),
        )
    go r k o false e = let w = r.values k o in (w.0, w.1, rw e (ap (λ c. c *ℤ (ratio_at h k).den) (ring ints_ring (coef r.terms k ∷ []) (nought :+ X) X refl) ∙ w.2))

-- ---- all points

-- nothing is added at a point that isn't in the list
pub not-listed : (cs : Corrections) (p : Point) (k : Key) (v : ℤ) → Every (λ c. point_eq c.0 p ≡ false) cs → IsAdded cs p k v → v ≡ pos 0
not-listed [] p k v h a = a
not-listed (c ∷ cs) p k v h a = not-listed cs p k v h.1 (rw h.0 at a)

record Merged (n : ℕ) (rays : List Wall) (cs : Corrections) : Type 0 where
  items : List Wall
  good : Every (GoodRay n) items
  ordered : InRayOrder items
  added : (p : Point) (d : Exp) (k : Key) → IsDirection d → IsMultiple d k.exp → (v : ℤ) × IsAdded cs p k v × (ray_coef items p d k ≡ ray_coef rays p d k +ℤ v)

pub not-origin : (d : Exp) → IsDirection d → (m : Exp) → IsMultiple d m → m ≢ origin
not-origin d h m mk e = scale-not_origin mk.0 d (positive-not mk.0 mk.1) (direction-not_origin d h) (sym mk.2 ∙ e)

merge : (n : ℕ) → 1 ≤ n → (rays : List Wall) → Every (GoodRay n) rays → InRayOrder rays → (cs : Corrections) → AreMergeable n cs → Merged n rays cs
merge n le rays g o [] m = record { items = rays; good = g; ordered = o; added = λ p d k hd mk. (pos 0, refl, ring ints_ring (ray_coef rays p d k ∷ []) X (X :+ nought) refl) }
merge n le rays g o (c ∷ cs) m =
    let r = merge n le rays g o cs (record { points = m.points.1; sorted = m.sorted.1; distinct = m.distinct.1; degrees = m.degrees.1; whole = m.whole.1 }) in
    let w = values-of n c.1 m.distinct.0 m.degrees.0 m.whole.0 in
    let s = at-point n c.0 m.points.0 w.terms
    (of-keys n c.1 w (λ k. (1 ≤ degree k) × (degree k ≤ n) × (k.exp ≢ origin)) (Every-implies _ _ c.1 (λ t q. let e = q.0 in (omega (arith, e, le), omega (arith, e), q.1)) m.degrees.0)) r.items r.good r.ordered in
    record { items = s.items; good = s.good; ordered = s.ordered; added = λ p d k hd mk. go r w s p d k hd mk (point_eq c.0 p) refl }
  where
    others : (p : Point) → c.0 ≡ p → Every (λ b. point_eq b.0 p ≡ false) cs
    others p e = Every-implies _ _ cs (λ b l. unlike b.0 (subst (λ (q : Point). IsTrue (point_before q b.0)) e l)) m.sorted.0
      where
        unlike : (q : Point) → IsTrue (point_before p q) → point_eq q p ≡ false
        unlike q l = case (point_eq q p) refl
          where
            case : (b : Bool) → point_eq q p ≡ b → point_eq q p ≡ false
            case true f = absurd (before-irrefl p (subst (λ (x : Point). IsTrue (point_before p x)) (point_eq-same q p f) l))
            case false f = f

    go : (r : Merged n rays cs) (w : Values n c.1) (s : Rays n r.items (λ q d k. cond (point_eq c.0 q) (coef w.terms k) (pos 0)))
        → (p : Point) (d : Exp) (k : Key) → IsDirection d → IsMultiple d k.exp → (b : Bool) → point_eq c.0 p ≡ b
        → (v : ℤ) × IsAdded (c ∷ cs) p k v × (ray_coef s.items p d k ≡ ray_coef rays p d k +ℤ v)
    go r w s p d k hd mk true e =
        let a = r.added p d k hd mk in
        let z : a.0 ≡ pos 0 = not-listed cs p k a.0 (others p (point_eq-same c.0 p e)) a.1 in (
          coef w.terms k,
          rw e (w.values k (not-origin d hd k.exp mk)),
          s.sums p d k hd mk ∙ ap (λ (b : Bool). ray_coef r.items p d k +ℤ cond b (coef w.terms k) (pos 0)) e ∙ ap (λ x. x +ℤ coef w.terms k) (a.2 ∙ ap (λ x. ray_coef rays p d k +ℤ x) z ∙ ring ints_ring (ray_coef rays p d k ∷ []) (X :+ nought) X refl),
        )
    go r w s p d k hd mk false e =
        let a = r.added p d k hd mk in
        (a.0, rw e a.1, s.sums p d k hd mk ∙ ap (λ (b : Bool). ray_coef r.items p d k +ℤ cond b (coef w.terms k) (pos 0)) e ∙ ring ints_ring (ray_coef r.items p d k ∷ []) (X :+ nought) X refl ∙ a.2)

pub merged_diagram_exists : MergedDiagramExists
merged_diagram_exists given n e cs le ho hw hr m = (
  record { initial = cut_walls n given; rays = r.items },
  record {
    initial = refl;
    outgoing = Every-implies _ _ r.items (λ w g. g.0) r.good;
    proper = Every-implies _ _ r.items (λ w g. g.1) r.good;
    reduced = record { live = Every-implies _ _ r.items (λ w g. g.2) r.good; rises = r.ordered };
    added = λ p d k hd g le is. r.added p d k hd (g, le, is);
  },
)
  where
    good : Every (GoodRay n) e.rays
    good = Every-from_In (GoodRay n) e.rays (λ w i. (Every-at _ e.rays w ho i, Every-at _ e.rays w hw i, Every-at _ e.rays w hr.live i))

    r : Merged n e.rays cs
    r = merge n le e.rays good hr.rises cs m

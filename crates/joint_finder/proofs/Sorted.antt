-- Sorted points, each once: their order, and that they are the points that were there.
use Rattle.std.proofs.Common.{◌≡◌, ◌≢◌, refl, sym, ap, subst, ◌∙◌, List, [], ◌∷◌, Bool, true, false, Ordering, Less, Equal, Greater}
use Rattle.std.specs.Prelude.{IsTrue, ◌↔◌}
use Rattle.std.specs.List.{dedup, AllByRecursion}
use Rattle.std.specs.List.Sorted.{IsPermutation, IsSorted, IsStrictlySortedBy}
use Rattle.std.specs.Cmp.{IsEquivalence}
use Rattle.std.specs.Ordering.{eq_by_cmp, is_eq}
use Rattle.std.proofs.lemmas.List.Kept.{IsStrictlySortedBy-dedup, Any-dedup, Contains-from_dedup}
use Rattle.scattering.specs.Collections.{In, Every, EveryPair, Distinct}
use Rattle.scattering.specs.Plane.{Point, point_before, point_eq}
use Rattle.scattering.proofs.Lists.{In-map, In-mapped}
use Rattle.scattering.proofs.Keys.{point_eq-same, point_eq-refl}
use Rattle.plane_theory.proofs.PointOrder.{before-irrefl}
use Rattle.trunc_series.proofs.Terms.{is-less}
use Rattle.plane_geom.specs.declared.Point.{Point as CodePoint}
use Rattle.plane_geom.specs.Shown.{point_of, position_order}
use Rattle.plane_geom.proofs.Ordered.{points-ordered, points-equal}
use Rattle.joint_finder.specs.Joints.{points_of, same_point}
use Rattle.joint_finder.proofs.Lists.{in-at, place-of, In-permutation}

-- ---- equality of points

same-means : (p q : CodePoint) → same_point p q ≡ true → point_of p ≡ point_of q
same-means p q e = point_eq-same (point_of p) (point_of q) e

means-same : (p q : CodePoint) → point_of p ≡ point_of q → same_point p q ≡ true
means-same p q e = subst (λ (r : Point). point_eq (point_of p) r ≡ true) e (point_eq-refl (point_of p))

ties : (p q : CodePoint) → same_point p q ≡ eq_by_cmp position_order p q
ties p q = go (same_point p q) refl
  where
    clause : (position_order p q ≡ Equal) ↔ (point_of p ≡ point_of q)
    clause = points-equal p q (position_order p q) refl

    equal : (o : Ordering) → is_eq o ≡ true → o ≡ Equal
    equal Less e = absurd (cc)
    equal Equal e = refl
    equal Greater e = absurd (cc)

    no-tie : (b : Bool) → is_eq (position_order p q) ≡ b → same_point p q ≡ false → false ≡ b
    no-tie true e f = let t = means-same p q (clause.0 (equal (position_order p q) e)) in absurd (cc)
    no-tie false e f = refl

    go : (b : Bool) → same_point p q ≡ b → same_point p q ≡ is_eq (position_order p q)
    go true e = e ∙ sym (ap is_eq (clause.1 (same-means p q e)))
    go false e = e ∙ no-tie (is_eq (position_order p q)) refl e

same-flip : (p q : CodePoint) → same_point p q ≡ same_point q p
same-flip p q = go (same_point p q) refl (same_point q p) refl
  where
    go : (b : Bool) → same_point p q ≡ b → (c : Bool) → same_point q p ≡ c → same_point p q ≡ same_point q p
    go true e c f = e ∙ sym (means-same q p (sym (same-means p q e)))
    go false e true f = let t = means-same p q (sym (same-means q p f)) in absurd (cc)
    go false e false f = e ∙ sym f

equivalence : IsEquivalence same_point
equivalence = record { refl = λ p. point_eq-refl (point_of p); symm = same-flip; congr = λ p q r e. ap (λ (s : Point). point_eq s (point_of r)) (same-means p q e) }

-- ---- the order

rising : (ps : List CodePoint) → IsStrictlySortedBy position_order ps → EveryPair (λ (p q : Point). IsTrue (point_before p q)) (points_of ps)
unfolding IsStrictlySortedBy
rising [] h = tt
rising (p ∷ ps) h = (first ps h.0, rising ps h.1)
  where
    first : (ps : List CodePoint) → AllByRecursion (λ q. position_order p q ≡ Less) ps → Every (λ (q : Point). IsTrue (point_before (point_of p) q)) (points_of ps)
    first [] h = tt
    first (q ∷ ps) h = (is-less (point_before (point_of p) (point_of q)) (point_before (point_of q) (point_of p)) h.0, first ps h.1)

pub sorted-points : (ps : List CodePoint) → IsSorted position_order ps → EveryPair (λ (p q : Point). IsTrue (point_before p q)) (points_of (dedup same_point ps))
sorted-points ps h = rising (dedup same_point ps) (IsStrictlySortedBy-dedup points-ordered ties ps h)

pub distinct-points : (ps : List Point) → EveryPair (λ (p q : Point). IsTrue (point_before p q)) ps → Distinct ps
distinct-points [] h = tt
distinct-points (p ∷ ps) h = (first ps h.0, distinct-points ps h.1)
  where
    first : (ps : List Point) → Every (λ (q : Point). IsTrue (point_before p q)) ps → Every (λ q. p ≢ q) ps
    first [] h = tt
    first (q ∷ ps) h = (λ e. before-irrefl q (subst (λ (r : Point). IsTrue (point_before r q)) e h.0), first ps h.1)

-- ---- the same points

pub kept-points : (ps qs : List CodePoint) (p : Point) → IsPermutation ps qs → In p (points_of ps) → In p (points_of (dedup same_point qs))
kept-points ps qs p h i =
    let r = In-map point_of ps p i in
    let a = Any-dedup equivalence qs r.0 (place-of qs r.0 (In-permutation ps qs r.0 h r.1)) in
    subst (λ (q : Point). In q (points_of (dedup same_point qs))) (sym (r.2 ∙ same-means r.0 a.1 a.4)) (In-mapped point_of (dedup same_point qs) a.1 (in-at (dedup same_point qs) a.1 (a.0, a.2, a.3)))

pub points-from : (ps qs : List CodePoint) (p : Point) → IsPermutation qs ps → In p (points_of (dedup same_point qs)) → In p (points_of ps)
points-from ps qs p h i =
    let r = In-map point_of (dedup same_point qs) p i in
    let c = Contains-from_dedup same_point qs r.0 (place-of (dedup same_point qs) r.0 r.1) in
    subst (λ (q : Point). In q (points_of ps)) (sym r.2) (In-mapped point_of ps r.0 (In-permutation qs ps r.0 h (in-at qs r.0 c)))

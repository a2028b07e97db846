-- Two lists of rays in order, merged one ray at a time.
--     Merging n a b out r s    out is made of what came before the rests r of a and s of b
use Rattle.std.proofs.Common.{◌≡◌, ℕ, refl, sym, subst, ap, ◌∙◌, Bool, true, false, cond, List, [], ◌∷◌, ◌++◌, append_assoc, append-nil, arith, inl, inr, ◌⊎◌}
use Rattle.std.specs.Prelude.{ℤ, pos, ◌+ℤ◌, ◌&&◌, IsTrue}
use Rattle.std.specs.declared.cmp.Ordering.{Ordering}
use Rattle.std.specs.declared.cmp.Ordering.TheVariants.{Less, Equal, Greater}
use Rattle.std.proofs.lemmas.Int.{ints}
use Rattle.sum_algebra.proofs.Ring.{nought, ring}
use Rattle.sum_algebra.proofs.IntegerRing.{ints_ring, ◌:+◌, X, Y, Z}
use Rattle.scattering.specs.Collections.{Every, EveryPair}
use Rattle.scattering.specs.Series.{Exp, Key, coef, rest, exp_eq}
use Rattle.scattering.specs.Plane.{Point, IsPoint, point_eq}
use Rattle.scattering.specs.Wall.{Outgoing, Wall, is_live}
use Rattle.scattering.specs.Completion.{ray_before}
use Rattle.scattering.specs.Correction.{ray_coef}
use Rattle.scattering.proofs.Lists.{Every-implies, Every-append, Every-left, Every-right, pairs-append}
use Rattle.plane_theory.proofs.TotalOrder.{Place, Compared, place_before, place-trans, place-total}
use Rattle.trunc_series.specs.Fronts.{first_after, second_after}
use Rattle.trunc_series.proofs.Terms.{is-less, is-greater, is-equal}
use Rattle.ray_merge.specs.Rays.{ray_order, IsJoined, IsFirstRay}

abbrev pub place_of : Wall → Place
place_of r = (r.at, r.dir)

abbrev pub Rises : List Wall → Type 0
Rises rays = EveryPair (λ r s. IsTrue (ray_before r s)) rays

abbrev pub IsBefore : Wall → List Wall → Type 0
IsBefore r ss = Every (λ s. IsTrue (ray_before r s)) ss

abbrev pub IsRay : Wall → Type 0
IsRay r = (r.kind ≡ Outgoing) × IsPoint r.at × IsTrue (is_live r)

pub record Merging (n : ℕ) (a b out r s : List Wall) : Type 0 where
  pub rays : Every IsRay out
  pub rests : Every IsRay r × Every IsRay s
  pub first : Rises (out ++ r)
  pub second : Rises (out ++ s)
  pub terms : (p : Point) (d : Exp) (k : Key) → ray_coef out p d k +ℤ (ray_coef r p d k +ℤ ray_coef s p d k) ≡ ray_coef a p d k +ℤ ray_coef b p d k

pub start : (n : ℕ) (a b : List Wall) → Every IsRay a → Every IsRay b → Rises a → Rises b → Merging n a b [] a b
start n a b ga gb ra rb = record {
  rays = tt;
  rests = (ga, gb);
  first = ra;
  second = rb;
  terms = λ p d k. ring ints_ring (ray_coef a p d k ∷ ray_coef b p d k ∷ []) (nought :+ (X :+ Y)) (X :+ Y) refl;
}

pub swapped : (n : ℕ) (a b out r s : List Wall) → Merging n a b out r s → Merging n b a out s r
swapped n a b out r s h = record {
  rays = h.rays;
  rests = (h.rests.1, h.rests.0);
  first = h.second;
  second = h.first;
  terms = λ p d k. swap (ray_coef out p d k) (ray_coef r p d k) (ray_coef s p d k) (ray_coef a p d k) (ray_coef b p d k) (h.terms p d k);
}
  where
    swap : (o r s a b : ℤ) → o +ℤ (r +ℤ s) ≡ a +ℤ b → o +ℤ (s +ℤ r) ≡ b +ℤ a
    swap o r s a b e = omega (arith, ints, e)

pub ray_coef-append : (a b : List Wall) (p : Point) (d : Exp) (k : Key) → ray_coef (a ++ b) p d k ≡ ray_coef a p d k +ℤ ray_coef b p d k
ray_coef-append [] b p d k = ring ints_ring (ray_coef b p d k ∷ []) X (nought :+ X) refl
ray_coef-append (r ∷ a) b p d k =
    let c = cond (point_eq r.at p && exp_eq r.dir d) (coef (rest r.function) k) (pos 0) in
    ap (λ x. c +ℤ x) (ray_coef-append a b p d k) ∙ ring ints_ring (c ∷ ray_coef a p d k ∷ ray_coef b p d k ∷ []) (X :+ (Y :+ Z)) (X :+ Y :+ Z) refl

-- ---- one list in order

first-part : (xs ys : List Wall) → Rises (xs ++ ys) → Rises xs
first-part [] ys h = tt
first-part (x ∷ xs) ys h = (Every-left _ xs ys h.0, first-part xs ys h.1)

second-part : (xs ys : List Wall) → Rises (xs ++ ys) → Rises ys
second-part [] ys h = h
second-part (x ∷ xs) ys h = second-part xs ys h.1

across : (xs ys : List Wall) → Rises (xs ++ ys) → Every (λ x. IsBefore x ys) xs
across [] ys h = tt
across (x ∷ xs) ys h = (Every-right _ xs ys h.0, across xs ys h.1)

-- what is before y is before all after y
pub before-more : (x y : Wall) (ys : List Wall) → IsPoint x.at → IsPoint y.at → Every IsRay ys → ray_before x y ≡ true → IsBefore y ys → IsBefore x ys
before-more x y [] px py g h b = tt
before-more x y (z ∷ ys) px py g h b = (place-trans (place_of x) (place_of y) (place_of z) px py g.0.1 h b.0, before-more x y ys px py g.1 h b.1)

-- x, or a ray with its place, comes after what is before x
put-first : (out r s : List Wall) (x w : Wall) → w.at ≡ x.at → w.dir ≡ x.dir → Rises (out ++ x ∷ r) → Rises (out ++ s) → IsBefore x s → Rises ((out ++ w ∷ []) ++ s)
put-first out r s x w e f h k b = subst Rises (sym (append_assoc out (w ∷ []) s)) (pairs-append _ out (w ∷ s) (first-part out s k) (after, second-part out s k) (both out (across out (x ∷ r) h) (across out s k)))
  where
    same : place_of x ≡ place_of w
    same = λ i. (sym e i, sym f i)

    after : IsBefore w s
    after = subst (λ (q : Place). Every (λ (u : Wall). IsTrue (place_before q (place_of u))) s) same b

    both : (us : List Wall) → Every (λ u. IsBefore u (x ∷ r)) us → Every (λ u. IsBefore u s) us → Every (λ u. IsBefore u (w ∷ s)) us
    both [] a c = tt
    both (u ∷ us) a c = ((subst (λ (q : Place). IsTrue (place_before (place_of u) q)) same a.0.0, c.0), both us a.1 c.1)

-- ---- the first ray of one rest

pub take-first : (n : ℕ) (a b out r s : List Wall) (x : Wall) → Merging n a b out (x ∷ r) s → IsBefore x s → Merging n a b (out ++ x ∷ []) r s
take-first n a b out r s x h before = record {
  rays = Every-append IsRay out (x ∷ []) h.rays (h.rests.0.0, tt);
  rests = (h.rests.0.1, h.rests.1);
  first = subst Rises (sym (append_assoc out (x ∷ []) r)) h.first;
  second = put-first out r s x x refl refl h.first h.second before;
  terms = λ p d k. ap (λ c. c +ℤ (ray_coef r p d k +ℤ ray_coef s p d k)) (ray_coef-append out (x ∷ []) p d k)
      ∙ moved (ray_coef out p d k) (cond (point_eq x.at p && exp_eq x.dir d) (coef (rest x.function) k) (pos 0)) (ray_coef r p d k) (ray_coef s p d k) (ray_coef a p d k +ℤ ray_coef b p d k) (h.terms p d k);
}
  where
    moved : (o c r s t : ℤ) → o +ℤ ((c +ℤ r) +ℤ s) ≡ t → (o +ℤ (c +ℤ pos 0)) +ℤ (r +ℤ s) ≡ t
    moved o c r s t e = omega (arith, ints, e)

-- ---- the first rays of both, in one place

joined-part : (x y w : Wall) (n : ℕ) → IsJoined n x y w → x.at ≡ y.at → x.dir ≡ y.dir → (p : Point) (d : Exp) (k : Key)
    → cond (point_eq w.at p && exp_eq w.dir d) (coef (rest w.function) k) (pos 0) ≡ cond (point_eq x.at p && exp_eq x.dir d) (coef (rest x.function) k) (pos 0) +ℤ cond (point_eq y.at p && exp_eq y.dir d) (coef (rest y.function) k) (pos 0)
joined-part x y w n j e f p d k =
    ap (λ (q : Place). cond (point_eq q.0 p && exp_eq q.1 d) (coef (rest w.function) k) (pos 0)) (λ i. (j.at i, j.dir i))
    ∙ ap (λ c. cond (point_eq x.at p && exp_eq x.dir d) c (pos 0)) (j.terms k)
    ∙ both (point_eq x.at p && exp_eq x.dir d) (coef (rest x.function) k) (coef (rest y.function) k)
    ∙ ap (λ (q : Place). cond (point_eq x.at p && exp_eq x.dir d) (coef (rest x.function) k) (pos 0) +ℤ cond (point_eq q.0 p && exp_eq q.1 d) (coef (rest y.function) k) (pos 0)) (λ i. (e i, f i))
  where
    both : (b : Bool) (u v : ℤ) → cond b (u +ℤ v) (pos 0) ≡ cond b u (pos 0) +ℤ cond b v (pos 0)
    both true u v = refl
    both false u v = refl

pub take-both : (n : ℕ) (a b out r s : List Wall) (x y w : Wall) → Merging n a b out (x ∷ r) (y ∷ s) → x.at ≡ y.at → x.dir ≡ y.dir → IsJoined n x y w → Merging n a b (out ++ w ∷ []) r s
take-both n a b out r s x y w h e f j = record {
  rays = Every-append IsRay out (w ∷ []) h.rays ((j.kind ∙ h.rests.0.0.0, subst IsPoint (sym j.at) h.rests.0.0.1, j.live h.rests.0.0.2), tt);
  rests = (h.rests.0.1, h.rests.1.1);
  first = put-first out r r x w j.at j.dir h.first (without out x r h.first) (second-part out (x ∷ r) h.first).0;
  second = put-first out s s y w (j.at ∙ e) (j.dir ∙ f) h.second (without out y s h.second) (second-part out (y ∷ s) h.second).0;
  terms = λ p d k. ap (λ c. c +ℤ (ray_coef r p d k +ℤ ray_coef s p d k)) (ray_coef-append out (w ∷ []) p d k ∙ ap (λ c. ray_coef out p d k +ℤ (c +ℤ pos 0)) (joined-part x y w n j e f p d k))
      ∙ moved (ray_coef out p d k) (cond (point_eq x.at p && exp_eq x.dir d) (coef (rest x.function) k) (pos 0)) (cond (point_eq y.at p && exp_eq y.dir d) (coef (rest y.function) k) (pos 0))
      (ray_coef r p d k) (ray_coef s p d k) (ray_coef a p d k +ℤ ray_coef b p d k) (h.terms p d k);
}
  where
    without : (out : List Wall) (x : Wall) (r : List Wall) → Rises (out ++ x ∷ r) → Rises (out ++ r)
    without out x r h = pairs-append _ out r (first-part out (x ∷ r) h) (second-part out (x ∷ r) h).1 (Every-implies (λ u. IsBefore u (x ∷ r)) (λ u. IsBefore u r) out (λ u b. b.1) (across out (x ∷ r) h))

    moved : (o c g r s t : ℤ) → o +ℤ ((c +ℤ r) +ℤ (g +ℤ s)) ≡ t → (o +ℤ ((c +ℤ g) +ℤ pos 0)) +ℤ (r +ℤ s) ≡ t
    moved o c g r s t e = omega (arith, ints, e)

-- ---- the steps by how the first rays stand

step-less : (n : ℕ) (a b out r s : List Wall) (x y : Wall) → Merging n a b out (x ∷ r) (y ∷ s) → ray_order x y ≡ Less → Merging n a b (out ++ x ∷ []) r (y ∷ s)
step-less n a b out r s x y h e =
    let l = is-less _ _ e in
    take-first n a b out r (y ∷ s) x h (l, before-more x y s h.rests.0.0.1 h.rests.1.0.1 h.rests.1.1 l (second-part out (y ∷ s) h.second).0)

step-greater : (n : ℕ) (a b out r s : List Wall) (x y : Wall) → Merging n a b out (x ∷ r) (y ∷ s) → ray_order x y ≡ Greater → Merging n a b (out ++ y ∷ []) (x ∷ r) s
step-greater n a b out r s x y h e =
    let l = (is-greater _ _ e).1 in
    swapped n b a (out ++ y ∷ []) s (x ∷ r) (take-first n b a out s (x ∷ r) y (swapped n a b out (x ∷ r) (y ∷ s) h) (l, before-more y x r h.rests.1.0.1 h.rests.0.0.1 h.rests.0.1 l (second-part out (x ∷ r) h.first).0))

-- rays that are equal in the order have one place
pub one-place : (x y : Wall) → IsPoint x.at → IsPoint y.at → ray_order x y ≡ Equal → place_of x ≡ place_of y
one-place x y px py e = go (place-total (place_of x) (place_of y) px py) (is-equal _ _ e)
  where
    go : Compared (ray_before x y) (ray_before y x) (place_of x ≡ place_of y) → (ray_before x y ≡ false) × (ray_before y x ≡ false) → place_of x ≡ place_of y
    go (inl l) n = let z = n.0 in absurd (cc)
    go (inr (inl g)) n = let z = n.1 in absurd (cc)
    go (inr (inr q)) n = q

pub step : (n : ℕ) (a b out r s : List Wall) (x y w : Wall) (o : Ordering) → Merging n a b out (x ∷ r) (y ∷ s) → o ≡ ray_order x y → IsFirstRay n o x y w → Merging n a b (out ++ w ∷ []) (first_after o (x ∷ r)) (second_after o (y ∷ s))
step n a b out r s x y w Less h e f = subst (λ (v : Wall). Merging n a b (out ++ v ∷ []) r (y ∷ s)) (sym f) (step-less n a b out r s x y h (sym e))
step n a b out r s x y w Greater h e f = subst (λ (v : Wall). Merging n a b (out ++ v ∷ []) (x ∷ r) s) (sym f) (step-greater n a b out r s x y h (sym e))
step n a b out r s x y w Equal h e f = let p = one-place x y h.rests.0.0.1 h.rests.1.0.1 (sym e) in take-both n a b out r s x y w h (ap (λ q. q.0) p) (ap (λ q. q.1) p) f

-- ---- the end

pub record Merged (n : ℕ) (a b out : List Wall) : Type 0 where
  pub rays : Every IsRay out
  pub rises : Rises out
  pub terms : (p : Point) (d : Exp) (k : Key) → ray_coef out p d k ≡ ray_coef a p d k +ℤ ray_coef b p d k

end-first : (n : ℕ) (a b out r : List Wall) → Merging n a b out r [] → Merged n a b (out ++ r)
end-first n a b out r h = record {
  rays = Every-append IsRay out r h.rays h.rests.0;
  rises = h.first;
  terms = λ p d k. ray_coef-append out r p d k ∙ none (ray_coef out p d k) (ray_coef r p d k) _ (h.terms p d k);
}
  where
    none : (o r t : ℤ) → o +ℤ (r +ℤ pos 0) ≡ t → o +ℤ r ≡ t
    none o r t e = omega (arith, ints, e)

merged-swapped : (n : ℕ) (a b out : List Wall) → Merged n b a out → Merged n a b out
merged-swapped n a b out h = record {
  rays = h.rays;
  rises = h.rises;
  terms = λ p d k. h.terms p d k ∙ ring ints_ring (ray_coef a p d k ∷ ray_coef b p d k ∷ []) (Y :+ X) (X :+ Y) refl;
}

pub ended : (n : ℕ) (a b out r s : List Wall) → (r ≡ []) ⊎ (s ≡ []) → Merging n a b out r s → Merged n a b ((out ++ r) ++ s)
ended n a b out r s (inl e) h = subst (λ (q : List Wall). Merged n a b (q ++ s)) (sym (ap (λ q. out ++ q) e ∙ append-nil out)) (merged-swapped n a b (out ++ s) (end-first n b a out s (swapped n a b out [] s (subst (λ (q : List Wall). Merging n a b out q s) e h))))
ended n a b out r s (inr e) h = subst (λ (q : List Wall). Merged n a b q) (sym (ap (λ q. (out ++ r) ++ q) e ∙ append-nil (out ++ r))) (end-first n a b out r (subst (λ (q : List Wall). Merging n a b out r q) e h))

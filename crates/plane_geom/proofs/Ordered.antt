-- The orders of points and of angles.
use Rattle.std.proofs.Common.{◌≡◌, refl, sym, ap, ◌∙◌, ◌⊎◌, inl, inr, Bool, true, false, cond, not, arith}
use Rattle.std.specs.Prelude.{ℤ, pos, neg_ℤ, int_lt, ◌&&◌, ◌||◌, ◌↔◌, IsTrue}
use Rattle.std.specs.Ordering.{int_cmp, ordering_reverse}
use Rattle.std.specs.Cmp.{IsTotalOrder}
use Rattle.std.specs.declared.cmp.Ordering.{Ordering}
use Rattle.std.specs.declared.cmp.Ordering.TheVariants.{Less, Equal, Greater}
use Rattle.std.proofs.lemmas.Int.{ints}
use Rattle.scattering.specs.Series.{Exp, int_eq, det}
use Rattle.scattering.specs.Plane.{Point as PlanePoint, IsPoint, IsDirection, point_before, is_upper, turns_before}
use Rattle.plane_theory.proofs.PointOrder.{before-trans, before-irrefl, before-total}
use Rattle.plane_geom.specs.declared.Point.{Point}
use Rattle.plane_geom.specs.declared.Direction.{Direction}
use Rattle.plane_theory.proofs.Angles.{turns-trans, turns-out, turned-irrefl}
use Rattle.plane_theory.proofs.AngleTies.{ties-are-multiples, multiples-equal}
use Rattle.plane_theory.proofs.Directions.{direction-not_origin}
use Rattle.plane_geom.specs.Shown.{vector_of, point_of, turn_order, angle_order, order_of, position_order}
use Rattle.plane_geom.proofs.Meets.{det-back}

-- ---- two numbers, then two more
abbrev pub then_order : ℤ → ℤ → ℤ → ℤ → Ordering
then_order x x' y y' = cond (int_lt x x' || (int_eq x x' && int_lt y y')) Less (cond (int_lt x' x || (int_eq x' x && int_lt y' y)) Greater Equal)

pub first-decides : (x x' y y' : ℤ) → (int_cmp x x' ≡ Equal → ⊥) → int_cmp x x' ≡ then_order x x' y y'
first-decides x x' y y' n = grind (arith, ints)

pub second-decides : (x x' y y' : ℤ) → int_cmp x x' ≡ Equal → int_cmp y y' ≡ then_order x x' y y'
second-decides x x' y y' e = grind (arith, ints)

-- ---- an order from a strict test
module _ {X : Type 0} (IsGood : X → Type 0) (before : X → X → Bool)
    (irrefl : (x : X) → IsGood x → before x x ≡ true → ⊥)
    (trans : (x y z : X) → IsGood x → IsGood y → IsGood z → before x y ≡ true → before y z ≡ true → before x z ≡ true)
    (ties : (x y : X) → IsGood x → IsGood y → before x y ≡ false → before y x ≡ false → x ≡ y) where
  abbrev pub test_order : X → X → Ordering
  test_order x y = cond (before x y) Less (cond (before y x) Greater Equal)

  order-less : (x y : X) → before x y ≡ true → test_order x y ≡ Less
  order-less x y h = ap (λ b. cond b Less (cond (before y x) Greater Equal)) h

  less-order : (x y : X) → test_order x y ≡ Less → before x y ≡ true
  less-order x y h = go (before x y) (before y x) refl h
    where
      go : (b c : Bool) → before x y ≡ b → cond b Less (cond c Greater Equal) ≡ Less → before x y ≡ true
      go true c e h = e
      go false true e h = absurd (cc)
      go false false e h = absurd (cc)

  pub tied-equal : (x y : X) → IsGood x → IsGood y → test_order x y ≡ Equal → x ≡ y
  tied-equal x y i j h = go (before x y) (before y x) refl refl h
    where
      go : (b c : Bool) → before x y ≡ b → before y x ≡ c → cond b Less (cond c Greater Equal) ≡ Equal → x ≡ y
      go true c p q h = absurd (cc)
      go false true p q h = absurd (cc)
      go false false p q h = ties x y i j p q

  pub equal-tied : (x y : X) → IsGood x → x ≡ y → test_order x y ≡ Equal
  equal-tied x y i h = sym (ap (test_order x) h) ∙ go (before x x) refl
    where
      go : (b : Bool) → before x x ≡ b → test_order x x ≡ Equal
      go true p = absurd (irrefl x i p)
      go false p = ap (λ b. cond b Less (cond b Greater Equal)) p

  turned-about : (x y : X) → IsGood x → IsGood y → test_order x y ≡ ordering_reverse (test_order y x)
  turned-about x y i j = go (before x y) (before y x) refl refl
    where
      go : (b c : Bool) → before x y ≡ b → before y x ≡ c → cond b Less (cond c Greater Equal) ≡ ordering_reverse (cond c Less (cond b Greater Equal))
      go true true p q = absurd (irrefl x i (trans x y x i j i p q))
      go true false p q = refl
      go false true p q = refl
      go false false p q = refl

  -- on a type that is seen as such values
  pub seen-total : {K : Type 0} (f : K → X) → ((k : K) → IsGood (f k)) → IsTotalOrder (λ j k. test_order (f j) (f k))
  seen-total f g = record {
    antisymm = λ j k. turned-about (f j) (f k) (g j) (g k);
    trans = λ j k l p q. order-less (f j) (f l) (trans (f j) (f k) (f l) (g j) (g k) (g l) (less-order (f j) (f k) p) (less-order (f k) (f l) q));
    congr = λ j k l p. ap (λ x. test_order x (f l)) (tied-equal (f j) (f k) (g j) (g k) p);
  }

  -- what an answer of this order tells
  pub equal-clause : (x y : X) (r : Ordering) → IsGood x → IsGood y → r ≡ test_order x y → (r ≡ Equal) ↔ (x ≡ y)
  equal-clause x y r i j e = (λ h. tied-equal x y i j (sym e ∙ h), λ h. e ∙ equal-tied x y i h)

-- ---- angles
angle-irrefl : (d : Exp) → IsDirection d → turns_before d d ≡ true → ⊥
angle-irrefl d i h = turned-irrefl d (turns-out d d h)

angle-trans : (d e f : Exp) → IsDirection d → IsDirection e → IsDirection f → turns_before d e ≡ true → turns_before e f ≡ true → turns_before d f ≡ true
angle-trans d e f i j k = turns-trans d e f (direction-not_origin d i) (direction-not_origin e j) (direction-not_origin f k)

angle-ties : (d e : Exp) → IsDirection d → IsDirection e → turns_before d e ≡ false → turns_before e d ≡ false → d ≡ e
angle-ties d e i j p q = multiples-equal d e i j (ties-are-multiples d e (direction-not_origin d i) (direction-not_origin e j) (λ x. cc) (λ x. cc))

pub angles-ordered : IsTotalOrder angle_order
angles-ordered = seen-total IsDirection turns_before angle-irrefl angle-trans angle-ties vector_of (λ d. d.primitive)

pub angles-equal : (d e : Direction) (r : Ordering) → r ≡ angle_order d e → (r ≡ Equal) ↔ (vector_of d ≡ vector_of e)
angles-equal d e r h = equal-clause IsDirection turns_before angle-irrefl angle-trans angle-ties (vector_of d) (vector_of e) r d.primitive e.primitive h

-- two angles by their halves and the sign of a determinant
abbrev goes_first : Bool → Bool → ℤ → Bool
goes_first u v t = (u && not v) || ((not v || u) && (not u || v) && int_lt (pos 0) t)

abbrev order_by : Bool → Bool → ℤ → ℤ → Ordering
order_by u v t s = cond (goes_first u v t) Less (cond (goes_first v u s) Greater Equal)

turned-sign : (t : ℤ) → int_lt (pos 0) (neg_ℤ t) ≡ int_lt t (pos 0)
turned-sign t = grind (arith, ints)

by-sign : (u v b : Bool) → b ≡ u → b ≡ v → (t : ℤ) → order_of t ≡ order_by u v t (neg_ℤ t)
by-sign u v true p q t = rw (← p, ← q, turned-sign t) refl
by-sign u v false p q t = rw (← p, ← q, turned-sign t) refl

-- in one half the sign of the determinant decides
pub one-half : (d e : Exp) (b : Bool) → b ≡ is_upper d → b ≡ is_upper e → (t : ℤ) → t ≡ det d e → order_of t ≡ turn_order d e
one-half d e b p q t k = ap order_of k ∙ by-sign (is_upper d) (is_upper e) b p q (det d e) ∙ ap (λ s. order_by (is_upper d) (is_upper e) (det d e) s) (sym (det-back d e))

upper-less : (u v : Bool) → true ≡ u → false ≡ v → (t s : ℤ) → Less ≡ order_by u v t s
upper-less u v p q t s = rw (← p, ← q) refl

upper-greater : (u v : Bool) → false ≡ u → true ≡ v → (t s : ℤ) → Greater ≡ order_by u v t s
upper-greater u v p q t s = rw (← p, ← q) refl

pub first-upper : (d e : Exp) → true ≡ is_upper d → false ≡ is_upper e → Less ≡ turn_order d e
first-upper d e p q = upper-less (is_upper d) (is_upper e) p q (det d e) (det e d)

pub second-upper : (d e : Exp) → false ≡ is_upper d → true ≡ is_upper e → Greater ≡ turn_order d e
second-upper d e p q = upper-greater (is_upper d) (is_upper e) p q (det d e) (det e d)

-- ---- points
point-irrefl : (p : PlanePoint) → IsPoint p → point_before p p ≡ true → ⊥
point-irrefl p i h = before-irrefl p h

point-trans : (p q r : PlanePoint) → IsPoint p → IsPoint q → IsPoint r → point_before p q ≡ true → point_before q r ≡ true → point_before p r ≡ true
point-trans p q r i j k = before-trans p q r i.below j.below k.below

point-ties : (p q : PlanePoint) → IsPoint p → IsPoint q → point_before p q ≡ false → point_before q p ≡ false → p ≡ q
point-ties p q i j a b = go (before-total p q i j)
  where
    go : (p ≡ q) ⊎ (IsTrue (point_before p q) ⊎ IsTrue (point_before q p)) → p ≡ q
    go (inl e) = e
    go (inr (inl h)) = absurd (cc)
    go (inr (inr h)) = absurd (cc)

pub points-ordered : IsTotalOrder position_order
points-ordered = seen-total IsPoint point_before point-irrefl point-trans point-ties point_of (λ p. p.reduced)

pub points-equal : (p q : Point) (r : Ordering) → r ≡ position_order p q → (r ≡ Equal) ↔ (point_of p ≡ point_of q)
points-equal p q r h = equal-clause IsPoint point_before point-irrefl point-trans point-ties (point_of p) (point_of q) r p.reduced q.reduced h

-- Inserting an element into a list in strict order, where it is joined with the element that has its place.
use Rattle.std.proofs.Common.{◌≡◌, refl, subst, sym, ◌∙◌, ap, List, [], ◌∷◌, ◌++◌, Bool, true, inl, inr}
use Rattle.std.specs.Prelude.{ℤ, pos, ◌+ℤ◌, IsTrue}
use Rattle.sum_algebra.proofs.Ring.{nought, ring}
use Rattle.sum_algebra.proofs.IntegerRing.{ints_ring, ◌:+◌, X, Y, Z}
use Rattle.scattering.specs.Collections.{Every, EveryPair}
use Rattle.scattering.proofs.Lists.{Every-append, pairs-append, Every-implies}
use Rattle.plane_theory.proofs.TotalOrder.{Compared}

-- elements have a place in an order; what they count for, under each name i, is summed
module _ {A K I : Type 0} (place : A → K) (lt : K → K → Bool) (Good : A → Type 0) (count : I → A → ℤ) where
  abbrev pub total : I → List A → ℤ
  total i [] = pos 0
  total i (x ∷ xs) = count i x +ℤ total i xs

  abbrev pub InOrder : List A → Type 0
  InOrder xs = EveryPair (λ x y. IsTrue (lt (place x) (place y))) xs

  pub total-append : (i : I) (xs ys : List A) → total i (xs ++ ys) ≡ total i xs +ℤ total i ys
  total-append i [] ys = ring ints_ring (total i ys ∷ []) X (nought :+ X) refl
  total-append i (x ∷ xs) ys = rw (total-append i xs ys) (ring ints_ring (count i x ∷ total i xs ∷ total i ys ∷ []) (X :+ (Y :+ Z)) (X :+ Y :+ Z) refl)

  -- what two elements of one place become: one element there, or none
  pub record Joined (x u : A) : Type 0 where
    pub items : List A
    pub good : Every Good items
    pub ordered : InOrder items
    pub same : Every (λ z. place z ≡ place u) items
    pub sums : (i : I) → total i items ≡ count i x +ℤ count i u

  pub record Inserted (x : A) (xs : List A) : Type 0 where
    pub items : List A
    pub good : Every Good items
    pub ordered : InOrder items
    pub lower : (s : K) → IsTrue (lt s (place x)) → Every (λ u. IsTrue (lt s (place u))) xs → Every (λ u. IsTrue (lt s (place u))) items
    pub sums : (i : I) → total i items ≡ count i x +ℤ total i xs

  module _ (trans : (x y z : A) → Good x → Good y → Good z → lt (place x) (place y) ≡ true → lt (place y) (place z) ≡ true → lt (place x) (place z) ≡ true)
      (x : A) (gx : Good x) (compare : (u : A) → Good u → Compared (lt (place x) (place u)) (lt (place u) (place x)) (place x ≡ place u))
      (join : (u : A) → Good u → place x ≡ place u → Joined x u) where
    pub insert : (xs : List A) → Every Good xs → InOrder xs → Inserted x xs
    insert [] g o = record { items = x ∷ []; good = (gx, tt); ordered = (tt, tt); lower = λ s l h. (l, tt); sums = λ i. refl }
    insert (u ∷ xs) g o = go (compare u g.0) (insert xs g.1 o.1)
      where
        go : Compared (lt (place x) (place u)) (lt (place u) (place x)) (place x ≡ place u) → Inserted x xs → Inserted x (u ∷ xs)
        go (inl a) r = record {
          items = x ∷ u ∷ xs;
          good = (gx, g);
          ordered = ((a, both xs g.1 o.0), o);
          lower = λ s l h. (l, h);
          sums = λ i. refl;
        }
          where
            both : (ys : List A) → Every Good ys → Every (λ y. IsTrue (lt (place u) (place y))) ys → Every (λ y. IsTrue (lt (place x) (place y))) ys
            both [] h k = tt
            both (y ∷ ys) h k = (trans x u y gx g.0 h.0 a k.0, both ys h.1 k.1)
        go (inr (inl b)) r = record {
          items = u ∷ r.items;
          good = (g.0, r.good);
          ordered = (r.lower (place u) b o.0, r.ordered);
          lower = λ s l h. (h.0, r.lower s l h.1);
          sums = λ i. ap (λ c. count i u +ℤ c) (r.sums i) ∙ ring ints_ring (count i u ∷ count i x ∷ total i xs ∷ []) (X :+ (Y :+ Z)) (Y :+ (X :+ Z)) refl;
        }
        go (inr (inr e)) r =
            let j = join u g.0 e in
            record {
              items = j.items ++ xs;
              good = Every-append Good j.items xs j.good g.1;
              ordered = pairs-append _ j.items xs j.ordered o.1 (Every-implies _ _ j.items (λ z q. subst (λ k. Every (λ y. IsTrue (lt k (place y))) xs) (sym q) o.0) j.same);
              lower = λ s l h. Every-append _ j.items xs (Every-implies _ _ j.items (λ z q. subst (λ k. IsTrue (lt s k)) (sym q) h.0) j.same) h.1;
              sums = λ i. total-append i j.items xs ∙ ap (λ c. c +ℤ total i xs) (j.sums i) ∙ ring ints_ring (count i x ∷ count i u ∷ total i xs ∷ []) (X :+ Y :+ Z) (X :+ (Y :+ Z)) refl;
            }

-- What is left of two lists once the first of their items was taken.
use Rattle.std.proofs.Common.{◌≡◌, ◌≢◌, ◌+◌, ◌<◌, refl, List, [], ◌∷◌, length, map, arith}
use Rattle.std.specs.declared.cmp.Ordering.{Ordering}
use Rattle.std.specs.declared.cmp.Ordering.TheVariants.{Less, Equal, Greater}
use Rattle.scattering.specs.Collections.{Every}
use Rattle.trunc_series.specs.Fronts.{IsFirst, first_after, second_after}

module _ {A : Type 0} where
  pub some-first : (x : A) (a : List A) → IsFirst x a → a ≢ []
  some-first x a f e = let q : [] ≡ x ∷ f.0 = rw e at f.1 in absurd (cc)

  pub first-of : (P : A → Type 0) (x : A) (a : List A) → IsFirst x a → Every P a → P x
  first-of P x a f h = (rw f.1 at h).0

  pub first-has : (P : A → Type 0) (o : Ordering) (a : List A) → Every P a → Every P (first_after o a)
  first-has P Less [] h = tt
  first-has P Less (x ∷ a) h = h.1
  first-has P Equal [] h = tt
  first-has P Equal (x ∷ a) h = h.1
  first-has P Greater a h = h

  pub second-has : (P : A → Type 0) (o : Ordering) (a : List A) → Every P a → Every P (second_after o a)
  second-has P Greater [] h = tt
  second-has P Greater (x ∷ a) h = h.1
  second-has P Equal [] h = tt
  second-has P Equal (x ∷ a) h = h.1
  second-has P Less a h = h

  shorter : (o : Ordering) (x y : A) (a b : List A) → length (first_after o (x ∷ a)) + length (second_after o (y ∷ b)) < length (x ∷ a) + length (y ∷ b)
  shorter Less x y a b = omega arith
  shorter Equal x y a b = omega arith
  shorter Greater x y a b = omega arith

  pub rests-shorter : (o : Ordering) (x y : A) (a b : List A) → IsFirst x a → IsFirst y b → length (first_after o a) + length (second_after o b) < length a + length b
  rests-shorter o x y a b f g = rw (f.1, g.1) (shorter o x y f.0 g.0)

module _ {A B : Type 0} (f : A → B) where
  pub first-map : (o : Ordering) (a : List A) → map f (first_after o a) ≡ first_after o (map f a)
  first-map Less [] = refl
  first-map Less (x ∷ a) = refl
  first-map Equal [] = refl
  first-map Equal (x ∷ a) = refl
  first-map Greater a = refl

  pub second-map : (o : Ordering) (a : List A) → map f (second_after o a) ≡ second_after o (map f a)
  second-map Less a = refl
  second-map Equal [] = refl
  second-map Equal (x ∷ a) = refl
  second-map Greater [] = refl
  second-map Greater (x ∷ a) = refl

  pub map-first : (x : A) (a : List A) → IsFirst x a → IsFirst (f x) (map f a)
  map-first x a h = (map f h.0, rw h.1 refl)

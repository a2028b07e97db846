-- Walls with other functions: what is the same to a degree, and what terms of the highest degree add.
use Rattle.std.proofs.Common.{◌≡◌, ℕ, refl, subst, sym, ◌∙◌, ap, List, [], ◌∷◌, ◌++◌, map, Bool, true, false, ◌≤◌}
use Rattle.std.specs.Prelude.{ℤ, pos, flat_map}
use mathlib.Core.Quot.{mk, sound}
use Rattle.sum_algebra.proofs.IntegerRing.{inverse_unique}
use Rattle.sum_algebra.proofs.Sums as S
use Rattle.sum_algebra.proofs.Sums.{Same, pair, bind, multiple, pair-append, pair-multiple, pair-bind, pair-zero}
use Rattle.sum_algebra.proofs.Quotient.{modulo_ring, exact, Same-mul_right}
use Rattle.sum_algebra.proofs.Powers.{int_power}
use Rattle.sum_algebra.proofs.Support.{inverse, bind-same}
use Rattle.sum_algebra.proofs.Crossing.{mono, list_int_power, class-int_power}
use Rattle.sum_algebra.proofs.CrossingLaws.{anywhere}
use Rattle.sum_algebra.proofs.SmallCrossings.{Same-lower}
use Rattle.scattering.specs.Collections.{Every, put, in_order}
use Rattle.scattering.specs.Series.{Key, Sum, Exp, Term, degree, rest, det, z, monomial, key_mul}
use Rattle.scattering.specs.Series as D
use Rattle.scattering.specs.Plane.{Point, turns_before}
use Rattle.scattering.specs.Wall.{Wall}
use Rattle.scattering.specs.LocalProduct.{Half, along, carry, cross_half, halves, half_walls}
use Rattle.scattering.specs.LocalProduct as P
use Rattle.scattering.proofs.Lists.{Every-in_order, Every-flat_map, map-append}
use Rattle.crossing_theory.proofs.Keys.{keys, turn, crossing, wall-inverse}
use Rattle.crossing_theory.proofs.Translation.{Eq, Eq-refl, Eq-trans, Eq-sym}
use Rattle.crossing_theory.proofs.HalfWalls.{Proper, half, half-respects, as_crossing, sign}
use Rattle.crossing_theory.proofs.Carrying.{halves-of}

abbrev pub refit : (Wall → Sum) → Wall → Wall
refit F w = record w { function = F w }

abbrev pub refit_half : (Wall → Sum) → Half → Half
refit_half F h = record { wall = refit F h.wall; side = h.side }

pub map-map : {A B C : Type 0} (g : B → C) (f : A → B) (xs : List A) → map g (map f xs) ≡ map (λ x. g (f x)) xs
map-map g f [] = refl
map-map g f (x ∷ xs) = ap (λ r. g (f x) ∷ r) (map-map g f xs)

put-map : {A B : Type 0} (f : A → B) (before : A → A → Bool) (before' : B → B → Bool) → ((x y : A) → before' (f x) (f y) ≡ before x y) → (x : A) (ys : List A) → put before' (f x) (map f ys) ≡ map f (put before x ys)
put-map f before before' e x [] = refl
put-map f before before' e x (y ∷ ys) =
    ap (λ b. elim b [ true ↦ f y ∷ put before' (f x) (map f ys) | false ↦ f x ∷ f y ∷ map f ys ]) (e y x)
    ∙ elim (before y x) as (λ b. elim b [ true ↦ f y ∷ put before' (f x) (map f ys) | false ↦ f x ∷ f y ∷ map f ys ] ≡ map f (elim b [ true ↦ y ∷ put before x ys | false ↦ x ∷ y ∷ ys ])) [
      | true ↦ ap (λ r. f y ∷ r) (put-map f before before' e x ys)
      | false ↦ refl
    ]

pub in_order-map : {A B : Type 0} (f : A → B) (before : A → A → Bool) (before' : B → B → Bool) → ((x y : A) → before' (f x) (f y) ≡ before x y) → (xs : List A) → in_order before' (map f xs) ≡ map f (in_order before xs)
in_order-map f before before' e [] = refl
in_order-map f before before' e (x ∷ xs) = ap (put before' (f x)) (in_order-map f before before' e xs) ∙ put-map f before before' e x (in_order before xs)

flat_map-halves : (F : Wall → Sum) (p : Point) (ws : List Wall) → flat_map (halves p) (map (refit F) ws) ≡ map (refit_half F) (flat_map (halves p) ws)
flat_map-halves F p [] = refl
flat_map-halves F p (w ∷ ws) =
    ap (λ r. halves p (refit F w) ++ r) (flat_map-halves F p ws)
    ∙ ap (λ r. r ++ map (refit_half F) (flat_map (halves p) ws)) (sym (map-map (refit_half F) (λ (s : ℤ). half w s) _))
    ∙ sym (map-append (refit_half F) (halves p w) (flat_map (halves p) ws))

abbrev pub before : Half → Half → Bool
before g h = turns_before (along g) (along h)

pub half_walls-refit : (F : Wall → Sum) (p : Point) (ws : List Wall) → half_walls (map (refit F) ws) p ≡ map (refit_half F) (half_walls ws p)
half_walls-refit F p ws = ap (in_order before) (flat_map-halves F p ws) ∙ in_order-map (refit_half F) before before (λ g h. refl) (flat_map (halves p) ws)

-- what holds of each wall holds of each half-wall
pub of_halves : (Q : Wall → Type 0) (p : Point) (ws : List Wall) → Every Q ws → Every (λ h. Q h.wall) (half_walls ws p)
of_halves Q p ws h = Every-in_order (λ h. Q h.wall) before (flat_map (halves p) ws) (Every-flat_map Q (λ h. Q h.wall) (halves p) ws (λ w q. halves-of (λ h. Q h.wall) p w (λ _. q)) h)

-- ---- functions that are the same to degree k, crossed to a degree of at least k

module _ (k k' : ℕ) (le : k ≤ k') (F : Wall → Sum) where
  -- what is needed of a wall
  pub record Fits (w : Wall) : Type 0 where
    pub proper : Proper w
    pub proper' : Proper (refit F w)
    pub same : Eq k w.function (F w)

  module _ (w : Wall) (q : Fits w) (s : ℤ) where
    inv : Eq k (S.mul keys w.function (inverse keys k' w.function)) D.one
    inv = Same-lower keys k k' _ _ le (wall-inverse w.dir s k' w.function q.proper.along)

    inv' : Eq k (S.mul keys (F w) (inverse keys k (F w))) D.one
    inv' = wall-inverse w.dir s k (F w) q.proper'.along

    power-refit : (a : ℤ) → Eq k (list_int_power keys w.function (inverse keys k' w.function) a) (list_int_power keys (F w) (inverse keys k (F w)) a)
    power-refit a =
        exact keys k _ _
        (class-int_power keys k w.function (inverse keys k' w.function) (λ _. pos 0) inv (λ _ _. refl) a
        ∙ ap (λ g. int_power (modulo_ring keys k) (mk w.function) g a) (inverse_unique (modulo_ring keys k) (mk w.function) (mk (inverse keys k' w.function)) (mk (inverse keys k (F w))) (sound inv) (ap (λ f. (modulo_ring keys k).◌⊗◌ f (mk (inverse keys k (F w)))) (sound q.same) ∙ sound inv'))
        ∙ ap (λ f. int_power (modulo_ring keys k) f (mk (inverse keys k (F w))) a) (sound q.same)
        ∙ sym (class-int_power keys k (F w) (inverse keys k (F w)) (λ _. pos 0) inv' (λ _ _. refl) a))

    crossing-refit : (g : Sum) → Eq k (crossing k' w.dir s w.function g) (crossing k w.dir s (F w) g)
    crossing-refit g =
        bind-same keys k (λ _. Unit {0}) g _ _ (anywhere g)
        (λ x _. Same-mul_right keys k (mono keys x) _ _ (power-refit (turn w.dir s x)))

  half-refit : (h : Half) → Fits h.wall → (g : Sum) → Eq k (cross_half k' h g) (cross_half k (refit_half F h) g)
  half-refit h q g =
      Eq-trans k _ _ _ (Same-lower keys k k' _ _ le (as_crossing k' h q.proper g))
      (Eq-trans k _ _ _ (crossing-refit h.wall q (sign h) g)
      (Eq-sym k _ _ (as_crossing k (refit_half F h) q.proper' g)))

  pub carry-refit : (hs : List Half) → Every (λ h. Fits h.wall) hs → (f g : Sum) → Eq k f g → Eq k (carry k' hs f) (carry k (map (refit_half F) hs) g)
  carry-refit [] q f g e = e
  carry-refit (h ∷ hs) q f g e =
      carry-refit hs q.1 _ _
      (Eq-trans k _ _ _ (half-refit h q.0 f) (half-respects k (refit_half F h) q.0.proper' f g e))

  pub image-refit : (ws : List Wall) (p : Point) (m : Exp) → Every Fits ws → Eq k (P.image ws p k' m) (P.image (map (refit F) ws) p k m)
  image-refit ws p m q =
      subst (λ hs. Eq k (P.image ws p k' m) (carry k hs (monomial (z m)))) (sym (half_walls-refit F p ws))
      (carry-refit (half_walls ws p) (of_halves Fits p ws q) _ _ (Eq-refl k _))

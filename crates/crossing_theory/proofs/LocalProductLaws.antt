-- A local product keeps sums, products, the bracket and the terms of exponent (0, 0), and has an inverse.
use Rattle.std.proofs.Common.{◌≡◌, ◌≢◌, ℕ, refl, subst, sym, ◌∙◌, ap, List, [], ◌∷◌, Bool, true, false, ◌<◌, arith}
use Rattle.std.specs.Prelude.{ℤ, pos, ◌*ℤ◌, neg_ℤ}
use Rattle.sum_algebra.proofs.Ring.{var, plus, times, minus, nought, ring}
use Rattle.sum_algebra.proofs.Ring as E
use Rattle.sum_algebra.proofs.IntegerRing.{ints_ring, ◌:+◌, ◌:*◌, ◌:-◌, X, Y, Z}
use Rattle.sum_algebra.proofs.Sums as S
use Rattle.sum_algebra.proofs.Sums.{Same, pair, bind, multiple, pair-append, pair-bind, pair-zero, pair-ext}
use Rattle.sum_algebra.proofs.Quotient.{Same-mul_right}
use Rattle.sum_algebra.proofs.Support.{Supported, Supported-mul, by_every, inverse}
use Rattle.sum_algebra.proofs.Crossing.{mono, list_int_power, image}
use Rattle.sum_algebra.proofs.CrossingLaws.{on_int_power, image-fixed}
use Rattle.sum_algebra.proofs.Bracket.{bracket, pair-bracket}
use Rattle.scattering.specs.Collections.{Every}
use Rattle.scattering.specs.Series.{Key, Sum, Exp, degree, det, key_mul, origin, int_eq}
use Rattle.scattering.specs.LocalProduct.{Half, carry, cross_half}
use Rattle.scattering.proofs.Keys.{int_eq-refl, int_eq-same}
use Rattle.crossing_theory.proofs.Keys.{keys, key_det, Along, turn, crossing, crossing-mul, crossing-bracket, crossing-back, turn-add, turn-along, along-one, along-mul, wall-along, inverse-along}
use Rattle.crossing_theory.proofs.Keys as C
use Rattle.crossing_theory.proofs.Translation.{Eq, Eq-refl, Eq-trans, Eq-sym}
use Rattle.crossing_theory.proofs.HalfWalls.{Proper, half-respects, as_crossing, sign}
use Rattle.crossing_theory.proofs.Carrying.{ProperHalf}

abbrev pub mul : Sum → Sum → Sum
mul f g = S.mul keys f g

abbrev pub brace : Sum → Sum → Sum
brace f g = bracket keys key_det f g

abbrev pub Vanishes : ℕ → (Key → ℤ) → Type 0
Vanishes k φ = (x : Key) → k < degree x → φ x ≡ pos 0

-- a test of the terms of exponent (0, 0)
abbrev pub Central : (Key → ℤ) → Type 0
Central φ = (x : Key) → x.exp ≢ origin → φ x ≡ pos 0

pub record IsAutomorphism (k : ℕ) (θ : Sum → Sum) : Type 0 where
  pub respects : (f g : Sum) → Eq k f g → Eq k (θ f) (θ g)
  pub products : (f g : Sum) → Eq k (θ (mul f g)) (mul (θ f) (θ g))
  pub brackets : (f g : Sum) → Eq k (θ (brace f g)) (brace (θ f) (θ g))
  pub center : (φ : Key → ℤ) → Vanishes k φ → Central φ → (f : Sum) → pair φ (θ f) ≡ pair φ f
  pub onto : (f : Sum) → (g : Sum) × Eq k (θ g) f

pub Eq-mul : (k : ℕ) (f f' g g' : Sum) → Eq k f f' → Eq k g g' → Eq k (mul f g) (mul f' g')
Eq-mul k f f' g g' e h = Eq-trans k _ (mul f' g) _ (S.Same-mul_left keys k f f' g e) (Same-mul_right keys k f' g g' h)

pub Eq-brace : (k : ℕ) (f f' g g' : Sum) → Eq k f f' → Eq k g g' → Eq k (brace f g) (brace f' g')
Eq-brace k f f' g g' e h = record {
  at = λ φ v.
      pair-bracket keys key_det φ f g
      ∙ e.at (λ u. pair (λ v. key_det u v *ℤ φ (key_mul u v)) g)
      (λ u d. pair-ext _ (λ _. pos 0) g (λ w. rw (v (key_mul u w) (let q = keys.deg_mul u w in omega (arith, q, d))) (ring ints_ring (key_det u w ∷ []) (X :* nought) nought refl)) ∙ pair-zero g)
      ∙ pair-ext _ _ f' (λ u. h.at (λ w. key_det u w *ℤ φ (key_mul u w)) (λ w d. rw (v (key_mul u w) (let q = keys.deg_mul u w in omega (arith, q, d))) (ring ints_ring (key_det u w ∷ []) (X :* nought) nought refl)))
      ∙ sym (pair-bracket keys key_det φ f' g');
}

pub identity : (k : ℕ) → IsAutomorphism k (λ f. f)
identity k = record { respects = λ f g e. e; products = λ f g. Eq-refl k _; brackets = λ f g. Eq-refl k _; center = λ φ v c f. refl; onto = λ f. (f, Eq-refl k f) }

pub after : (k : ℕ) (θ η : Sum → Sum) → IsAutomorphism k θ → IsAutomorphism k η → IsAutomorphism k (λ f. η (θ f))
after k θ η a b = record {
  respects = λ f g e. b.respects (θ f) (θ g) (a.respects f g e);
  products = λ f g. Eq-trans k _ (η (mul (θ f) (θ g))) _ (b.respects _ _ (a.products f g)) (b.products (θ f) (θ g));
  brackets = λ f g. Eq-trans k _ (η (brace (θ f) (θ g))) _ (b.respects _ _ (a.brackets f g)) (b.brackets (θ f) (θ g));
  center = λ φ v c f. b.center φ v c (θ f) ∙ a.center φ v c f;
  onto = λ f. let g = b.onto f in let h = a.onto g.0 in (h.0, Eq-trans k _ (η g.0) _ (b.respects _ _ h.1) g.1);
}

-- ---- one crossing

module _ (k : ℕ) (d : Exp) (s : ℤ) (f : Sum) (w : C.Wall d f) where
  powers_along : (a : ℤ) → Supported (Along d) (list_int_power keys f (inverse keys k f) a)
  powers_along a = on_int_power keys (Along d) (along-one d s) (along-mul d s) f (inverse keys k f) (wall-along d s k f w) (inverse-along d s k f w) a

  image-turn : (x : Key) → Supported (λ y. turn d s y ≡ turn d s x) (image keys k f (inverse keys k f) (turn d s) x)
  image-turn x =
      Supported-mul keys (λ y. turn d s y ≡ turn d s x) (Along d) (λ y. turn d s y ≡ turn d s x) (mono keys x) (list_int_power keys f (inverse keys k f) (turn d s x))
      (λ y u a b. turn-add d s y u ∙ rw (a, turn-along d s u b) (ring ints_ring (turn d s x ∷ []) (X :+ nought) X refl))
      (by_every (λ y. turn d s y ≡ turn d s x) (mono keys x) (refl, tt)) (powers_along (turn d s x))

  turn-origin : (y : Key) → y.exp ≡ origin → turn d s y ≡ pos 0
  turn-origin y o = ap (λ (e : Exp). s *ℤ det d e) o ∙ ring ints_ring (s ∷ d.a ∷ d.b ∷ []) (X :* (Y :* nought :- Z :* nought)) nought refl

  image-center : (φ : Key → ℤ) → Vanishes k φ → Central φ → (x : Key) → pair φ (image keys k f (inverse keys k f) (turn d s) x) ≡ φ x
  image-center φ v c x = go (int_eq (turn d s x) (pos 0)) refl
    where
      apart : int_eq (turn d s x) (pos 0) ≡ false → (y : Key) → turn d s y ≡ turn d s x → y.exp ≢ origin
      apart e y q o = let t : int_eq (turn d s x) (pos 0) ≡ true = subst (λ n. int_eq n (pos 0) ≡ true) q (subst (λ n. int_eq n (pos 0) ≡ true) (sym (turn-origin y o)) (int_eq-refl (pos 0))) in absurd (cc)

      go : (b : Bool) → int_eq (turn d s x) (pos 0) ≡ b → pair φ (image keys k f (inverse keys k f) (turn d s) x) ≡ φ x
      go true e =
          (image-fixed keys k f (inverse keys k f) (turn d s) x (int_eq-same (turn d s x) (pos 0) e)).at φ v
          ∙ ring ints_ring (φ x ∷ []) (E.unit :* X :+ nought) X refl
      go false e =
          (image-turn x).at φ (λ _. pos 0) (λ y q. c y (apart e y q)) ∙ pair-zero (image keys k f (inverse keys k f) (turn d s) x) ∙ sym (c x (apart e x refl))

  pub crossing-center : (φ : Key → ℤ) → Vanishes k φ → Central φ → (g : Sum) → pair φ (crossing k d s f g) ≡ pair φ g
  crossing-center φ v c g = pair-bind φ g (image keys k f (inverse keys k f) (turn d s)) ∙ pair-ext _ _ g (image-center φ v c)

-- a test that sees only keys which the crossing doesn't turn
module _ (k : ℕ) (d : Exp) (s : ℤ) (f : Sum) (w : C.Wall d f) (φ : Key → ℤ) (v : Vanishes k φ) (still : (x : Key) → turn d s x ≢ pos 0 → φ x ≡ pos 0) where
  not_zero : (y : ℤ) → int_eq y (pos 0) ≡ false → y ≢ pos 0
  not_zero y e q = let t : int_eq y (pos 0) ≡ true = subst (λ n. int_eq n (pos 0) ≡ true) (sym q) (int_eq-refl (pos 0)) in absurd (cc)

  image-still : (x : Key) → pair φ (image keys k f (inverse keys k f) (turn d s) x) ≡ φ x
  image-still x = go (int_eq (turn d s x) (pos 0)) refl
    where
      go : (b : Bool) → int_eq (turn d s x) (pos 0) ≡ b → pair φ (image keys k f (inverse keys k f) (turn d s) x) ≡ φ x
      go true e =
          (image-fixed keys k f (inverse keys k f) (turn d s) x (int_eq-same (turn d s x) (pos 0) e)).at φ v
          ∙ ring ints_ring (φ x ∷ []) (E.unit :* X :+ nought) X refl
      go false e =
          (image-turn k d s f w x).at φ (λ _. pos 0) (λ y q. still y (λ z. not_zero (turn d s x) e (sym q ∙ z))) ∙ pair-zero (image keys k f (inverse keys k f) (turn d s) x) ∙ sym (still x (not_zero (turn d s x) e))

  pub crossing-still : (g : Sum) → pair φ (crossing k d s f g) ≡ pair φ g
  crossing-still g = pair-bind φ g (image keys k f (inverse keys k f) (turn d s)) ∙ pair-ext _ _ g image-still

pub half-automorphism : (k : ℕ) (h : Half) → Proper h.wall → IsAutomorphism k (cross_half k h)
half-automorphism k h p = record {
  respects = half-respects k h p;
  products = λ f g.
      Eq-trans k _ _ _ (as_crossing k h p (mul f g))
      (Eq-trans k _ _ _ (crossing-mul h.wall.dir (sign h) k h.wall.function p.along f g)
      (Eq-sym k _ _ (Eq-mul k _ _ _ _ (as_crossing k h p f) (as_crossing k h p g))));
  brackets = λ f g.
      Eq-trans k _ _ _ (as_crossing k h p (brace f g))
      (Eq-trans k _ _ _ (crossing-bracket h.wall.dir (sign h) k h.wall.function p.along f g)
      (Eq-sym k _ _ (Eq-brace k _ _ _ _ (as_crossing k h p f) (as_crossing k h p g))));
  center = λ φ v c f. (as_crossing k h p f).at φ v ∙ crossing-center k h.wall.dir (sign h) h.wall.function p.along φ v c f;
  onto = λ f. (
    crossing k h.wall.dir (neg_ℤ (sign h)) h.wall.function f,
    Eq-trans k _ _ _ (as_crossing k h p (crossing k h.wall.dir (neg_ℤ (sign h)) h.wall.function f))
        (subst (λ s. Eq k (crossing k h.wall.dir s h.wall.function (crossing k h.wall.dir (neg_ℤ (sign h)) h.wall.function f)) f) (ring ints_ring (sign h ∷ []) (minus (minus X)) X refl)
        (crossing-back h.wall.dir (neg_ℤ (sign h)) k h.wall.function p.along f)),
  );
}

pub carry-automorphism : (k : ℕ) (hs : List Half) → Every ProperHalf hs → IsAutomorphism k (carry k hs)
carry-automorphism k [] h = identity k
carry-automorphism k (g ∷ hs) h = after k (cross_half k g) (carry k hs) (half-automorphism k g h.0) (carry-automorphism k hs h.1)

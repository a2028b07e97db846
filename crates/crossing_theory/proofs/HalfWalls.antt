-- Walls and half-walls as the algebra sees them, and the laws of crossing them.
use Rattle.std.specs.Prelude.{◌≡◌, refl, ℕ, [], ◌∷◌, ◌+◌, ◌<◌, ◌≤◌, false, nat_le}
use Rattle.std.specs.List.{list_any}
use Rattle.std.proofs.Common.{sym, ◌∙◌, ap, arith}
use lib.IntN.{ℤ, pos, negsuc, neg_ℤ}
use Rattle.sum_algebra.proofs.Ring.{nought, ring}
use Rattle.sum_algebra.proofs.IntegerRing.{ints_ring, ◌:+◌, ◌:*◌, X}
use Rattle.sum_algebra.proofs.Sums.{pair, pair-bind}
use Rattle.sum_algebra.proofs.Crossing.{image}
use Rattle.sum_algebra.proofs.CrossingLaws.{anywhere}
use Rattle.sum_algebra.proofs.SmallCrossings.{unseen, Same-lower}
use Rattle.sum_algebra.proofs.Support.{Supported, Every, by_every, inverse, weaken}
use Rattle.scattering.specs.Series.{Key, Sum, Exp, key_eq, key_mul, degree, coef, cut, rest, det, int_eq, IsWallFunction}
use Rattle.scattering.specs.Series as D
use Rattle.scattering.specs.Collections as V
use Rattle.scattering.specs.Wall.{Wall, IsWall, has_term_to}
use Rattle.scattering.specs.LocalProduct.{Half, cross_half}
use Rattle.scattering.proofs.Lists.{or-left, or-right, Every-implies}
use Rattle.crossing_theory.proofs.Keys.{keys, Along, turn, crossing, crossing-same, crossing-back, wall-inverse}
use Rattle.crossing_theory.proofs.Keys as C
use Rattle.crossing_theory.proofs.TwoWalls.{crossing-parallel, crossing-high}
use Rattle.crossing_theory.proofs.Translation.{Eq, Eq-refl, Eq-trans, Eq-sym, to_Eq, from_Eq, rest-split, one_minus-rest, cut-same}
use Rattle.crossing_theory.proofs.Translation as B

-- the function is 1 and terms along the direction
pub record Proper (w : Wall) : Type 0 where
  pub constant : coef w.function D.unit ≡ pos 1
  pub others : V.Every (λ t. (1 ≤ degree t.0) × D.IsMultiple w.dir t.0.exp) (rest w.function)
  pub along : C.Wall w.dir w.function

pub every-keys : (P : Key → Type 0) (f : Sum) → V.Every (λ t. P t.0) f → Every P f
every-keys P [] h = tt
every-keys P (t ∷ f) h = (h.0, every-keys P f h.1)

along-multiple : (d : Exp) (t : D.Term) → (1 ≤ degree t.0) × D.IsMultiple d t.0.exp → (1 ≤ degree t.0) × Along d t.0
along-multiple d t h = (h.0, (h.1.0, ap (λ (m : Exp). m.a) h.1.2, ap (λ (m : Exp). m.b) h.1.2))

-- by the terms of the rest
pub proper-by : (w : Wall) → coef w.function D.unit ≡ pos 1 → V.Every (λ t. (1 ≤ degree t.0) × D.IsMultiple w.dir t.0.exp) (rest w.function) → Proper w
proper-by w c o = let h = Every-implies _ (λ t. (1 ≤ degree t.0) × Along w.dir t.0) (rest w.function) (along-multiple w.dir) o in record {
  constant = c;
  others = o;
  along = record {
    terms = record {
      at = λ φ ψ g.
          one_minus-rest w.function c φ
          ∙ ap neg_ℤ ((by_every (λ x. (1 ≤ degree x) × Along w.dir x) (rest w.function) (every-keys (λ x. (1 ≤ degree x) × Along w.dir x) (rest w.function) h)).at φ ψ g)
          ∙ sym (one_minus-rest w.function c ψ);
    };
  };
}

pub proper : (n : ℕ) (w : Wall) → IsWall n w → Proper w
proper n w h = proper-by w h.function.constant h.function.others

-- ---- functions that are 1 to a degree

high-none : (c d : ℕ) → nat_le d c ≡ false → c < d
high-none c d e = grind arith

pub pair-high : (c : ℕ) (g : Sum) → list_any (λ t. nat_le (degree t.0) c) g ≡ false → (φ : Key → ℤ) → ((x : Key) → c < degree x → φ x ≡ pos 0) → pair φ g ≡ pos 0
pair-high c [] e φ v = refl
pair-high c (t ∷ g) e φ v =
    rw (v t.0 (high-none c (degree t.0) (or-left (nat_le (degree t.0) c) _ e)), pair-high c g (or-right (nat_le (degree t.0) c) _ e) φ v)
    (ring ints_ring (t.1 ∷ []) (X :* nought :+ nought) nought refl)

pub small : (c : ℕ) (w : Wall) → Proper w → has_term_to c w ≡ false → Eq c w.function D.one
small c w p e = record {
  at = λ φ v.
      rest-split φ w.function ∙ rw (p.constant, pair-high c (rest w.function) e φ v) refl;
}

-- ---- a half-wall is crossed as in the algebra

abbrev pub sign : Half → ℤ
sign h = neg_ℤ h.side

pub as_crossing : (k : ℕ) (h : Half) → Proper h.wall → (g : Sum) → Eq k (cross_half k h g) (crossing k h.wall.dir (sign h) h.wall.function g)
as_crossing k h p g = B.cross-same k h.wall.function p.constant h.wall.dir (sign h) g

module _ (k : ℕ) (h : Half) (p : Proper h.wall) where
  pub half-respects : (f g : Sum) → Eq k f g → Eq k (cross_half k h f) (cross_half k h g)
  half-respects f g e =
      Eq-trans k _ (crossing k h.wall.dir (sign h) h.wall.function f) _ (as_crossing k h p f)
      (Eq-trans k _ (crossing k h.wall.dir (sign h) h.wall.function g) _ (crossing-same h.wall.dir (sign h) k h.wall.function p.along f g e)
      (Eq-sym k _ _ (as_crossing k h p g)))

  -- for two crossings, one after the other
  pub twice : (h' : Half) (p' : Proper h'.wall) (f : Sum) → Eq k (cross_half k h (cross_half k h' f)) (crossing k h.wall.dir (sign h) h.wall.function (crossing k h'.wall.dir (sign h') h'.wall.function f))
  twice h' p' f =
      Eq-trans k _ (crossing k h.wall.dir (sign h) h.wall.function (cross_half k h' f)) _ (as_crossing k h p (cross_half k h' f))
      (crossing-same h.wall.dir (sign h) k h.wall.function p.along _ _ (as_crossing k h' p' f))

abbrev pub Commutes : ℕ → Half → Half → Type 0
Commutes k g h = (f : Sum) → Eq k (cross_half k g (cross_half k h f)) (cross_half k h (cross_half k g f))

module _ (k : ℕ) (g h : Half) (p : Proper g.wall) (q : Proper h.wall) where
  pub half-parallel : det g.wall.dir h.wall.dir ≡ pos 0 → Commutes k g h
  half-parallel e f =
      Eq-trans k _ _ _ (twice k g p h q f)
      (Eq-trans k _ _ _ (Eq-sym k _ _ (crossing-parallel k g.wall.dir h.wall.dir (sign g) (sign h) g.wall.function h.wall.function p.along q.along e f))
      (Eq-sym k _ _ (twice k h q g p f)))

  pub half-high : (c d : ℕ) → Eq c g.wall.function D.one → Eq d h.wall.function D.one → c ≤ k → d ≤ k → k ≤ c + d + 1 → Commutes k g h
  half-high c d e e' lc ld high f =
      Eq-trans k _ _ _ (twice k g p h q f)
      (Eq-trans k _ _ _ (Eq-sym k _ _ (crossing-high k g.wall.dir h.wall.dir (sign g) (sign h) g.wall.function h.wall.function p.along q.along c d e e' lc ld k high f))
      (Eq-sym k _ _ (twice k h q g p f)))

abbrev pub half : Wall → ℤ → Half
half w s = record { wall = w; side = s }

-- a wall that goes on through a point is crossed twice, with opposite signs
abbrev pub Cancels : ℕ → Wall → Type 0
Cancels k w = (f : Sum) → Eq k (cross_half k (half w (negsuc 0)) (cross_half k (half w (pos 1)) f)) f

pub cancels : (k : ℕ) (w : Wall) → Proper w → Cancels k w
cancels k w p f =
    Eq-trans k _ _ _ (twice k (half w (negsuc 0)) p (half w (pos 1)) p f)
    (crossing-back w.dir (negsuc 0) k w.function p.along f)

-- a half-wall whose function is 1 to degree c doesn't change a sum of degrees e and more, to degree c + e
pub unseen-cross : (k j c e : ℕ) (h : Half) → Proper h.wall → Eq c h.wall.function D.one → c ≤ k → j ≤ k → j ≤ c + e → (s : Sum) → Supported (λ x. e ≤ degree x) s → Eq j (cross_half k h s) s
unseen-cross k j c e h p small lc lj le s su = record {
  at = λ φ v.
      (as_crossing k h p s).at φ (λ x d. v x (omega (arith, d, lj)))
      ∙ pair-bind φ s (image keys k h.wall.function (inverse keys k h.wall.function) (turn h.wall.dir (sign h)))
      ∙ su.at _ φ (λ x d. unseen keys c h.wall.function (inverse keys k h.wall.function) (turn h.wall.dir (sign h)) (Same-lower keys c k _ _ lc (wall-inverse h.wall.dir (sign h) k h.wall.function p.along)) small j φ v x (omega (arith, d, le)));
}

-- one that is 1 isn't seen
pub dead : (k : ℕ) (h : Half) → Proper h.wall → Eq k h.wall.function D.one → (f : Sum) → Eq k (cross_half k h f) f
dead k h p e f = unseen-cross k k k 0 h p e (omega arith) (omega arith) (omega arith) f (weaken _ _ f (λ x u. omega arith) (anywhere f))

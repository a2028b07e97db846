-- Parts of one degree, and sums that are equal at every key, by what they pair to.
use Rattle.std.proofs.Common.{◌≡◌, ℕ, refl, sym, ◌∙◌, ◌<◌, ◌≤◌, Bool, true, false, cond, [], ◌∷◌, ◌++◌, length, arith}
use Rattle.std.specs.Prelude.{ℤ, pos, ◌*ℤ◌, ◌==◌}
use Rattle.std.proofs.lemmas.Int.{ints}
use Rattle.sum_algebra.proofs.Ring.{nought, ring}
use Rattle.sum_algebra.proofs.IntegerRing.{ints_ring, ◌:+◌, ◌:*◌, ◌:-◌, X, Y}
use Rattle.sum_algebra.proofs.Sums.{pair}
use Rattle.sum_algebra.proofs.Coefficients.{indicator}
use Rattle.scattering.specs.Series.{Key, Sum, degree, coef, minus, Same}
use Rattle.scattering.specs.ThetaProduct.{of_degree}
use Rattle.scattering.specs.Wall.{Wall}
use Rattle.scattering.proofs.Pairing.{pairing-zero, pairing-append, pairing-minus, coef-append, coef-minus, pairing-is_pair}
use Rattle.crossing_theory.proofs.HalfWalls.{Proper, proper-by}
use Rattle.crossing_theory.proofs.Translation.{key_test, coef-is}
use Rattle.weight_theory.specs.Laws.{HasFunction}

abbrev pub All : Sum → Sum → Type 0
All f g = (φ : Key → ℤ) → pair φ f ≡ pair φ g

pub to_All : (f g : Sum) → Same f g → All f g
to_All f g h φ =
    let z = pairing-zero φ (length (f ++ minus g)) (f ++ minus g) (omega arith) each in
    let a = pairing-append φ f (minus g) in
    let m = pairing-minus φ g in
    let p = pairing-is_pair φ f in
    let q = pairing-is_pair φ g in
    omega (arith, ints, z, a, m, p, q)
  where
    each : (x : Key) → coef (f ++ minus g) x *ℤ φ x ≡ pos 0
    each x = rw (coef-append f (minus g) x, coef-minus g x, h x) (ring ints_ring (coef g x ∷ φ x ∷ []) ((X :- X) :* Y) nought refl)

pub from_All : (f g : Sum) → All f g → Same f g
from_All f g h x = coef-is f x ∙ h (indicator key_test x) ∙ sym (coef-is g x)

-- a test, at keys of degree e
abbrev pub seen : ℕ → (Key → ℤ) → Key → ℤ
seen e φ x = cond (degree x == e) (φ x) (pos 0)

pub pair-part : (e : ℕ) (φ : Key → ℤ) (f : Sum) → pair φ (of_degree e f) ≡ pair (seen e φ) f
pair-part e φ [] = refl
pair-part e φ (t ∷ f) = go (degree t.0 == e) refl (pair-part e φ f)
  where
    go : (b : Bool) → (degree t.0 == e) ≡ b → pair φ (of_degree e f) ≡ pair (seen e φ) f → pair φ (of_degree e (t ∷ f)) ≡ pair (seen e φ) (t ∷ f)
    go true q h = rw (q, h) refl
    go false q h = rw (q, h) (ring ints_ring (t.1 ∷ pair (seen e φ) f ∷ []) Y (X :* nought :+ Y) refl)

other : (d e k : ℕ) → e ≤ k → k < d → (d == e) ≡ true → ⊥
other d e k le l q = grind arith

pub seen-high : (k e : ℕ) (φ : Key → ℤ) → e ≤ k → (x : Key) → k < degree x → seen e φ x ≡ pos 0
seen-high k e φ le x l = go (degree x == e) refl
  where
    go : (b : Bool) → (degree x == e) ≡ b → cond (degree x == e) (φ x) (pos 0) ≡ pos 0
    go true q = absurd (other (degree x) e k le l q)
    go false q = rw q refl

pub proper-wall : (w : Wall) → HasFunction w → Proper w
proper-wall w h = proper-by w h.1.constant h.1.others

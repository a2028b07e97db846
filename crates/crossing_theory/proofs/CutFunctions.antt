-- Functions cut to a degree, and the terms above it.
use Rattle.std.proofs.Common.{◌≡◌, ℕ, suc, refl, sym, ◌∙◌, List, [], ◌∷◌, ◌++◌, Bool, true, false, cond, not, ◌≤◌, arith}
use Rattle.std.specs.Prelude.{ℤ, filter, nat_le, ◌*ℤ◌, ◌+ℤ◌}
use Rattle.sum_algebra.proofs.Ring.{nought, ring}
use Rattle.sum_algebra.proofs.IntegerRing.{ints_ring, ◌:+◌, X, Y, Z}
use Rattle.sum_algebra.proofs.Sums.{pair, pair-append}
use Rattle.sum_algebra.proofs.Support.{Supported, by_every}
use Rattle.scattering.specs.Collections.{Every}
use Rattle.scattering.specs.Series.{Key, Sum, Exp, Term, degree, rest, cut, coef, key_eq, IsSeries, IsWallFunction}
use Rattle.scattering.specs.Series as D
use Rattle.scattering.specs.Plane.{Point}
use Rattle.scattering.specs.Wall.{Wall, cut_wall}
use Rattle.scattering.specs.ActivePoint.{is_incoming}
use Rattle.scattering.proofs.Lists.{filters-every}
use Rattle.scattering.proofs.Coefficients.{coef-cut}
use Rattle.crossing_theory.proofs.HalfWalls.{Proper, proper-by, every-keys}
use Rattle.crossing_theory.proofs.OtherFunctions.{refit}
use Rattle.crossing_theory.proofs.AddedTerms.{Grows, gains}

abbrev pub above : ℕ → Sum → Sum
above n f = filter (λ t. not (nat_le (degree t.0) n)) f

pub split-above : (φ : Key → ℤ) (n : ℕ) (f : Sum) → pair φ f ≡ pair φ (cut n f) +ℤ pair φ (above n f)
split-above φ n [] = refl
split-above φ n (t ∷ f) = go (nat_le (degree t.0) n) refl (split-above φ n f)
  where
    go : (b : Bool) → nat_le (degree t.0) n ≡ b → pair φ f ≡ pair φ (cut n f) +ℤ pair φ (above n f) → pair φ (t ∷ f) ≡ pair φ (cut n (t ∷ f)) +ℤ pair φ (above n (t ∷ f))
    go true e h = rw (e, h) (ring ints_ring ((t.1 *ℤ φ t.0) ∷ pair φ (cut n f) ∷ pair φ (above n f) ∷ []) (X :+ (Y :+ Z)) (X :+ Y :+ Z) refl)
    go false e h = rw (e, h) (ring ints_ring ((t.1 *ℤ φ t.0) ∷ pair φ (cut n f) ∷ pair φ (above n f) ∷ []) (X :+ (Y :+ Z)) (Y :+ (X :+ Z)) refl)

not_le : (d n : ℕ) → nat_le d n ≡ false → suc n ≤ d
not_le d n e = grind arith

pub above-high : (n : ℕ) (f : Sum) → Every (λ t. suc n ≤ degree t.0) (above n f)
above-high n [] = tt
above-high n (t ∷ f) = go (nat_le (degree t.0) n) refl (above-high n f)
  where
    go : (b : Bool) → nat_le (degree t.0) n ≡ b → Every (λ t. suc n ≤ degree t.0) (above n f) → Every (λ t. suc n ≤ degree t.0) (above n (t ∷ f))
    go true e h = rw e h
    go false e h = rw e (not_le (degree t.0) n e, h)

pub proper-cut : (n : ℕ) (w : Wall) → Proper w → Proper (cut_wall n w)
proper-cut n w p = proper-by (cut_wall n w) (coef-cut n w.function D.unit (omega arith) ∙ p.constant) (filters-every _ _ _ w.function p.others)

-- functions cut to degree n, but those of incoming rays
abbrev pub base : ℕ → Wall → Sum
base n w = cond (is_incoming w.kind) w.function (cut n w.function)

abbrev pub tops : ℕ → Wall → Sum
tops n w = cond (is_incoming w.kind) [] (above n w.function)

pub proper-base : (n : ℕ) (w : Wall) → Proper w → Proper (refit (base n) w)
proper-base n w p = go (is_incoming w.kind) refl
  where
    go : (b : Bool) → is_incoming w.kind ≡ b → Proper (refit (base n) w)
    go true e = rw e p
    go false e = rw e (proper-cut n w p)

pub one_le : (n : ℕ) → 1 ≤ suc n
one_le n = omega arith

pub grows : (n : ℕ) (w : Wall) → Proper w → Grows (suc n) (one_le n) (base n) (tops n) w
grows n w p = record { proper = p; proper' = proper-base n w p; same = record { at = λ φ v. go φ (is_incoming w.kind) refl }; high = high (is_incoming w.kind) refl }
  where
    go : (φ : Key → ℤ) (b : Bool) → is_incoming w.kind ≡ b → pair φ w.function ≡ pair φ (base n w ++ tops n w)
    go φ true e = rw e (ring ints_ring (pair φ w.function ∷ []) X (X :+ nought) refl ∙ sym (pair-append φ w.function []))
    go φ false e = rw e (split-above φ n w.function ∙ sym (pair-append φ (cut n w.function) (above n w.function)))

    high : (b : Bool) → is_incoming w.kind ≡ b → Supported (λ x. suc n ≤ degree x) (tops n w)
    high true e = rw e (by_every (λ x. suc n ≤ degree x) [] tt)
    high false e = rw e (by_every (λ x. suc n ≤ degree x) (above n w.function) (every-keys (λ x. suc n ≤ degree x) (above n w.function) (above-high n w.function)))

-- what the terms above n add to z^m at p
abbrev pub added : ℕ → Exp → Point → List Wall → Sum
added n m p ws = gains (suc n) (one_le n) (base n) (tops n) m p ws

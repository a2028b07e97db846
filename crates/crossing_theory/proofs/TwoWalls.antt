-- Two walls: parallel ones commute, and any two modulo high degree.
use Rattle.std.specs.Prelude.{◌≡◌, refl, ℕ, [], ◌∷◌, ◌+◌, ◌≤◌}
use Rattle.std.proofs.Common.{◌∙◌}
use lib.IntN.{ℤ, pos, ◌*ℤ◌}
use Rattle.sum_algebra.proofs.Ring.{var, minus, nought, ring}
use Rattle.sum_algebra.proofs.IntegerRing.{ints_ring, ◌:*◌, ◌:-◌, X, Y, Z, W}
use Rattle.sum_algebra.proofs.Sums as S
use Rattle.sum_algebra.proofs.Sums.{Keys, Same, pair, pair-append, pair-multiple, bind, multiple}
use Rattle.sum_algebra.proofs.Support.{inverse, weaken}
use Rattle.sum_algebra.proofs.Crossing.{list_int_power}
use Rattle.sum_algebra.proofs.CrossingLaws.{on_int_power, crosses-commute, fixes}
use Rattle.sum_algebra.proofs.SmallCrossings.{commute-high, Same-lower}
use Rattle.scattering.specs.Series.{Exp, Key, det}
use Rattle.crossing_theory.proofs.Keys.{Series, keys, Along, turn, Wall, crossing, along-one, along-mul, turn-add, wall-inverse, wall-along, inverse-along}

module _ (k : ℕ) (m0 m1 : Exp) (s0 s1 : ℤ) (f0 f1 : Series) (w0 : Wall m0 f0) (w1 : Wall m1 f1) where
  module _ (parallel : det m0 m1 ≡ pos 0) where
    -- keys along one wall's direction are not turned by the other
    still : (x : Key) → Along m0 x → turn m1 s1 x ≡ pos 0
    still x h =
        rw (h.1, h.2)
        (ring ints_ring (s1 ∷ m1.a ∷ m1.b ∷ m0.a ∷ m0.b ∷ h.0 ∷ []) (X :* (Y :* (var 5 :* var 4) :- Z :* (var 5 :* W))) ((minus (X :* var 5)) :* (W :* Z :- var 4 :* Y)) refl
        ∙ rw parallel (ring ints_ring ((s1 *ℤ h.0) ∷ []) (minus X :* nought) nought refl))

    still' : (x : Key) → Along m1 x → turn m0 s0 x ≡ pos 0
    still' x h =
        rw (h.1, h.2)
        (ring ints_ring (s0 ∷ m0.a ∷ m0.b ∷ m1.a ∷ m1.b ∷ h.0 ∷ []) (X :* (Y :* (var 5 :* var 4) :- Z :* (var 5 :* W))) ((X :* var 5) :* (Y :* var 4 :- Z :* W)) refl
        ∙ rw parallel (ring ints_ring ((s0 *ℤ h.0) ∷ []) (X :* nought) nought refl))

    pub crossing-parallel : (g : Series) → Same keys k (crossing k m1 s1 f1 (crossing k m0 s0 f0 g)) (crossing k m0 s0 f0 (crossing k m1 s1 f1 g))
    crossing-parallel g =
        crosses-commute keys k f0 (inverse keys k f0) f1 (inverse keys k f1) (turn m0 s0) (turn m1 s1)
        (wall-inverse m0 s0 k f0 w0) (turn-add m0 s0) (wall-inverse m1 s1 k f1 w1) (turn-add m1 s1)
        (λ a. fixes keys k f0 (inverse keys k f0) (turn m0 s0) (list_int_power keys f1 (inverse keys k f1) a)
        (weaken (Along m1) (λ x. turn m0 s0 x ≡ pos 0) _ still' (on_int_power keys (Along m1) (along-one m1 s1) (along-mul m1 s1) f1 (inverse keys k f1) (wall-along m1 s1 k f1 w1) (inverse-along m1 s1 k f1 w1) a)))
        (λ a. fixes keys k f1 (inverse keys k f1) (turn m1 s1) (list_int_power keys f0 (inverse keys k f0) a)
        (weaken (Along m0) (λ x. turn m1 s1 x ≡ pos 0) _ still (on_int_power keys (Along m0) (along-one m0 s0) (along-mul m0 s0) f0 (inverse keys k f0) (wall-along m0 s0 k f0 w0) (inverse-along m0 s0 k f0 w0) a))) g

  -- f0 is 1 up to degree c0 and f1 up to degree c1
  module _ (c0 c1 : ℕ) (small0 : Same keys c0 f0 (S.one keys)) (small1 : Same keys c1 f1 (S.one keys)) (low0 : c0 ≤ k) (low1 : c1 ≤ k) where
    pub crossing-high : (j : ℕ) → j ≤ c0 + c1 + 1 → (g : Series) → Same keys j (crossing k m1 s1 f1 (crossing k m0 s0 f0 g)) (crossing k m0 s0 f0 (crossing k m1 s1 f1 g))
    crossing-high j high g =
        commute-high keys j c0 c1 f0 (inverse keys k f0) f1 (inverse keys k f1) (turn m0 s0) (turn m1 s1)
        (Same-lower keys c0 k _ _ low0 (wall-inverse m0 s0 k f0 w0)) small0 (Same-lower keys c1 k _ _ low1 (wall-inverse m1 s1 k f1 w1)) small1 high g

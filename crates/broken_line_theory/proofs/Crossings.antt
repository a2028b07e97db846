-- Where a stretch crosses walls: at one point each, at most.
use Rattle.std.proofs.Common.{◌≡◌, ◌≢◌, ℕ, refl, ap, ◌∙◌, arith, true, List, [], ◌∷◌}
use Rattle.std.specs.Prelude.{ℤ, pos, ◌≤ℤ◌, int_le, ◌&&◌}
use Rattle.std.proofs.lemmas.Int.{ints}
use Rattle.scattering.specs.Collections.{In, Every}
use Rattle.scattering.specs.Series.{Exp, origin, det, dot, int_eq}
use Rattle.scattering.specs.Plane.{Point, IsPoint, Beyond, difference}
use Rattle.scattering.specs.Wall.{Wall, IsWall, cut_walls, allows, is_on, is_live}
use Rattle.scattering.specs.BrokenLine.{live_on}
use Rattle.scattering.proofs.Lists.{Every-at, filter-keeps, filter-from, and-left, and-right}
use Rattle.scattering.proofs.Keys.{int_eq-same}
use Rattle.plane_theory.proofs.Points.{beyond-test, test-beyond}
use Rattle.plane_theory.proofs.CommonPoints.{IsCommon, common, common-unique}
use Rattle.broken_line_theory.proofs.LinesAndTails.{det-origin}
use Rattle.broken_line_theory.proofs.Listings.{Listing, both, decided-as, is-or-not, elements, none, only, listed-as, choose, joins}

-- ---- decisions

pub is-zero-or-not : (a : ℤ) → Dec (a ≡ pos 0)
is-zero-or-not a = decided-as (int_eq a (pos 0) ≡ true) (a ≡ pos 0) (int_eq-same a (pos 0)) (λ e. rw e refl) (is-or-not (int_eq a (pos 0)))

is-positive-or-not : (a : ℤ) → Dec (pos 1 ≤ℤ a)
is-positive-or-not a = decided-as (int_le (pos 1) a ≡ true) (pos 1 ≤ℤ a) (λ e. omega (arith, ints, e)) (λ l. grind (arith, ints, l)) (is-or-not (int_le (pos 1) a))

pub ahead-or-not : (p : Point) (x : Exp) (r : Point) → IsPoint p → IsPoint r → x ≢ origin → Dec (Beyond p x r)
ahead-or-not p x r i j n =
    decided-as ((det x (difference p r) ≡ pos 0) × (pos 1 ≤ℤ dot x (difference p r))) (Beyond p x r)
    (λ h. test-beyond p x r i.below j.below n h.0 h.1)
    (λ h. beyond-test p x r i.below j.below n h)
    (both (is-zero-or-not (det x (difference p r))) (is-positive-or-not (dot x (difference p r))))

pub on-live-or-not : (ws : List Wall) (w : Wall) (r : Point) → In w ws → Dec (In w (live_on ws r))
on-live-or-not ws w r i =
    decided-as ((is_live w && is_on w r) ≡ true) (In w (live_on ws r)) (filter-keeps (λ w. is_live w && is_on w r) ws w i)
    (λ j. (filter-from (λ w. is_live w && is_on w r) ws w j).1) (is-or-not (is_live w && is_on w r))

-- what a wall that isn't parallel to it shows of an exponent
pub crossed-moves : (d x : Exp) → det d x ≢ pos 0 → x ≢ origin
crossed-moves d x n e = n (ap (det d) e ∙ det-origin d)

-- ---- crossings

-- the stretch from p along x meets the live wall w at r, and isn't parallel to it
abbrev pub IsCrossing : List Wall → Point → Exp → Wall → Point → Type 0
IsCrossing ws p x w r = IsPoint r × Beyond p x r × In w (live_on ws r) × (det w.dir x ≢ pos 0)

-- it is the one common point of the wall's line and the stretch's
pub crossing-is-common : (ws : List Wall) (p : Point) (x : Exp) (w : Wall) (r : Point) → IsPoint p → IsCrossing ws p x w r → IsCommon w.at w.dir p x r
crossing-is-common ws p x w r i h = record {
  point = h.0;
  first = (
      let o = (filter-from (λ w. is_live w && is_on w r) ws w h.2).1 in
      int_eq-same (det w.dir (difference w.at r)) (pos 0) (and-left (int_eq (det w.dir (difference w.at r)) (pos 0)) (allows w.kind (dot w.dir (difference w.at r))) (and-right (is_live w) (is_on w r) o)));
  second = (beyond-test p x r i.below h.0.below (crossed-moves w.dir x h.3) h.1).0;
}

pub wall-points : (n k : ℕ) (ws : List Wall) → Every (IsWall k) ws → Every (λ w. IsPoint w.at) (cut_walls n ws)
wall-points n k [] h = tt
wall-points n k (w ∷ ws) h = (h.0.point, wall-points n k ws h.1)

module _ (ws : List Wall) (points : Every (λ w. IsPoint w.at) ws) (p : Point) (point : IsPoint p) (x : Exp) where
  crossing-of : (w : Wall) → In w ws → Listing (IsCrossing ws p x w)
  crossing-of w i = go (is-zero-or-not (det w.dir x))
    where
      at : IsPoint w.at
      at = Every-at (λ w. IsPoint w.at) ws w points i

      go : Dec (det w.dir x ≡ pos 0) → Listing (IsCrossing ws p x w)
      go (yes z) = none (IsCrossing ws p x w) (λ r h. h.3 z)
      go (no n) =
          let c = common w.at w.dir p x at point n in
          listed-as (λ r. IsCommon w.at w.dir p x r × (Beyond p x r × In w (live_on ws r))) (IsCrossing ws p x w)
          (λ r h. (h.0.point, h.1.0, h.1.1, n))
          (λ r h. (crossing-is-common ws p x w r point h, (h.1, h.2)))
          (choose (IsCommon w.at w.dir p x) (λ r. Beyond p x r × In w (live_on ws r))
          (λ r h. both (ahead-or-not p x r point h.point (crossed-moves w.dir x n)) (on-live-or-not ws w r i))
          (only (IsCommon w.at w.dir p x) c.0 c.1 (λ s h. common-unique w.at w.dir p x s c.0 at point n h c.1)))

  -- all of them
  pub crossings : Listing (λ r. (w : Wall) × In w ws × IsCrossing ws p x w r)
  crossings = joins (λ w. In w ws) (IsCrossing ws p x) crossing-of (elements ws)

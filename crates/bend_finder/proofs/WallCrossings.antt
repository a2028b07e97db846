-- Where a stretch crosses walls, wall by wall, and which of their points it has.
use Rattle.std.proofs.Common.{◌≡◌, ◌≢◌, zero, suc, refl, sym, subst, ◌∙◌, List, [], ◌∷◌, ◌⊎◌, inl, inr, arith}
use Rattle.std.specs.Prelude.{ℤ, pos, negsuc, ◌+ℤ◌, ◌*ℤ◌, ◌≤ℤ◌, ◌↔◌, IsTrue}
use Rattle.std.proofs.lemmas.Int.{ints}
use Rattle.sum_algebra.proofs.Ring.{var, nought, ring}
use Rattle.sum_algebra.proofs.IntegerRing.{ints_ring, ◌:+◌, ◌:*◌, ◌:-◌, X, Y, Z}
use Rattle.sum_algebra.proofs.Integers.{zero-or-not}
use Rattle.scattering.specs.Series.{Exp, origin, det, dot}
use Rattle.scattering.specs.Plane.{Point, IsPoint, IsAt, FromOn, Beyond, difference}
use Rattle.scattering.specs.Wall.{On, is_on}
use Rattle.plane_theory.proofs.Points.{beyond-test}
use Rattle.plane_theory.proofs.Directions.{cancel, positive-not}
use Rattle.plane_theory.proofs.LowestTerms.{same-point}
use Rattle.plane_theory.proofs.PlacesOnWalls.{on-is-decided}
use Rattle.plane_geom.specs.declared.Point.{Point as CodePoint}
use Rattle.plane_geom.specs.declared.Direction.{Direction}
use Rattle.plane_geom.specs.declared.Support.{Support}
use Rattle.plane_geom.specs.Shown.{point_of, vector_of, support_dir, OnSupport}
use Rattle.plane_geom.proofs.Meets.{det-back}
use Rattle.scatter_diagram.specs.Shown.{wall_of, IsSupportOf}
use Rattle.scatter_diagram.specs.declared.wall.Wall.{Wall as CodeWall}
use Rattle.scatter_diagram.proofs.Walls.{is-wall}
use Rattle.joint_finder.specs.Crossings.{Adds}
use Rattle.joint_finder.proofs.LiveWalls.{support-dir, zero-first, back}
use Rattle.bend_finder.specs.Crossings.{IsStartOf, IsStartOfSome}

-- ---- on the stretch, and beyond its first point

at-start : (a c v w d f : ℤ) → pos 1 ≤ℤ d → a *ℤ (v *ℤ d) ≡ w *ℤ (c *ℤ d +ℤ pos 0 *ℤ f *ℤ v) → c *ℤ w ≡ a *ℤ v
at-start a c v w d f l h =
    cancel d (c *ℤ w) (a *ℤ v) (positive-not d l)
    (ring ints_ring (c ∷ w ∷ d ∷ f ∷ v ∷ []) (Z :* (X :* Y)) (Y :* (X :* Z :+ nought :* var 3 :* var 4)) refl ∙ sym h ∙ ring ints_ring (a ∷ v ∷ d ∷ []) (X :* (Y :* Z)) (Z :* (X :* Y)) refl)

pub from-beyond : (p : Point) (e : Exp) (q : Point) → IsPoint p → IsPoint q → FromOn p e q → q ≢ p → Beyond p e q
from-beyond p e q i j h n = go (zero-or-not h.0)
  where
    more : (m : ℤ) → pos 0 ≤ℤ m → m ≢ pos 0 → pos 1 ≤ℤ m
    more (pos zero) l n = absurd (n refl)
    more (pos (suc m)) l n = omega (arith, ints)
    more (negsuc m) l n = absurd (omega (arith, ints, l))

    go : (h.0 ≡ pos 0) ⊎ (h.0 ≢ pos 0) → Beyond p e q
    go (inr m) = (h.0, h.1, more h.0 h.2 m, h.3)
    go (inl z) =
        let a : IsAt p e (pos 0) h.1 q = subst (λ (m : ℤ). IsAt p e m h.1 q) z h.3 in
        absurd (n (sym (same-point p q i j (at-start q.x p.x p.w q.w h.1 e.a a.below a.x) (at-start q.y p.y p.w q.w h.1 e.b a.below a.y))))

pub not-beyond : (p : Point) (e : Exp) → IsPoint p → e ≢ origin → Beyond p e p → ⊥
not-beyond p e i n h =
    let t = (beyond-test p e p i.below i.below n h).1 in
    let z : dot e (difference p p) ≡ pos 0 = ring ints_ring (e.a ∷ e.b ∷ p.x ∷ p.y ∷ p.w ∷ []) (X :* (Z :* var 4 :- Z :* var 4) :+ Y :* (var 3 :* var 4 :- var 3 :* var 4)) nought refl in
    absurd (omega (arith, ints, t, z))

-- ---- one wall

module _ (p : CodePoint) (d : Direction) (w : CodeWall) (s : Support) (form : IsSupportOf (wall_of w) s) (points : (q : Point) → IsPoint q → OnSupport s q ↔ On (wall_of w) q) where
  -- what is on both supports is on the wall, which isn't parallel to the first
  pub meets-on : (q : Point) → IsPoint q → det (vector_of d) (support_dir s) ≢ pos 0 → OnSupport s q → IsTrue (is_on (wall_of w) q) × (det (vector_of w.dir) (vector_of d) ≢ pos 0)
  meets-on q i n k = ((on-is-decided w.function.order (wall_of w) q (is-wall w) i).1 ((points q i).0 k), across)
    where
      across : det (vector_of w.dir) (vector_of d) ≢ pos 0
      across z =
          let a : det (support_dir s) (vector_of d) ≡ pos 0 = zero-first (vector_of w.dir) (support_dir s) (vector_of d) (back (support_dir s) (vector_of w.dir) (support-dir (wall_of w) s form)) z in
          let b = det-back (support_dir s) (vector_of d) in n (omega (arith, ints, a, b))

  -- and the other way round
  pub on-meets : (q : Point) → IsPoint q → IsTrue (is_on (wall_of w) q) → det (vector_of w.dir) (vector_of d) ≢ pos 0 → (det (vector_of d) (support_dir s) ≢ pos 0) × OnSupport s q
  on-meets q i o n = (across, (points q i).1 ((on-is-decided w.function.order (wall_of w) q (is-wall w) i).0 o))
    where
      across : det (vector_of d) (support_dir s) ≢ pos 0
      across z =
          let a : det (support_dir s) (vector_of d) ≡ pos 0 = (let b = det-back (vector_of d) (support_dir s) in omega (arith, ints, z, b)) in
          n (zero-first (support_dir s) (vector_of w.dir) (vector_of d) (support-dir (wall_of w) s form) a)

-- ---- points of walls

pub none-started : (p : Point) (e : Exp) (ps : List CodePoint) → Adds (IsStartOfSome [] p e) ps ps
none-started p e ps = record { keeps = λ q i. i; each = λ q i. inl i; all = λ q i s. absurd s.1 }

-- the point of a wall that isn't on the stretch
pub not-started : (p : Point) (e : Exp) (w : CodeWall) (ps : List CodePoint) → (Beyond p e (point_of w.at) → ⊥) → Adds (IsStartOf p e w) ps ps
not-started p e w ps n = record { keeps = λ q i. i; each = λ q i. inl i; all = λ q i s. absurd (n (subst (Beyond p e) s.0 s.1)) }

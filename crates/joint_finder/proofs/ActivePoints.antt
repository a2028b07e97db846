-- The points where live walls meet, sorted and without repetitions, are the joints.
use Rattle.std.proofs.Common.{◌≡◌, ℕ, ◌+◌, sym, subst, List, [], ◌++◌, false, arith, ◌⊎◌, inl, inr}
use Rattle.std.specs.Prelude.{IsTrue}
use Rattle.std.specs.List.{dedup}
use Rattle.std.specs.List.Sorted.{IsPermutation, IsSorted}
use Rattle.scattering.specs.Collections.{In, Every, EveryPair}
use Rattle.scattering.specs.Plane.{Point, IsPoint, IsNear, point_before}
use Rattle.scattering.specs.Wall.{Wall}
use Rattle.scattering.specs.ActivePoint.{is_active, is_incoming}
use Rattle.scattering.specs.Stops.{AllNear}
use Rattle.scattering.proofs.Lists.{In-map, In-append, In-left, In-right, map-append, Every-at, Every-from_In}
use Rattle.plane_geom.specs.declared.Point.{Point as CodePoint}
use Rattle.plane_geom.specs.Shown.{point_of, position_order}
use Rattle.joint_finder.specs.declared.live.LiveWall.{LiveWall}
use Rattle.joint_finder.specs.Live.{AreLive}
use Rattle.joint_finder.specs.Joints.{points_of, same_point, AreJoints}
use Rattle.joint_finder.specs.Crossings.{AreMeeting, Adds}
use Rattle.joint_finder.specs.Strands.{IsNewlyMet}
use Rattle.joint_finder.proofs.LiveWalls.{meeting-active, active-meeting}
use Rattle.joint_finder.proofs.NewMeetings.{meets-above, new-meeting, meeting-parts}
use Rattle.joint_finder.proofs.Sorted.{sorted-points, distinct-points, kept-points, points-from}

module _ (n : ℕ) (ws : List Wall) (ls : List LiveWall) (live : AreLive ls ws) (none : Every (λ w. is_incoming w.kind ≡ false) ws) where
  pub are-joints : (ps qs rs : List CodePoint) → Adds (AreMeeting n ls) [] ps → IsPermutation ps qs → IsPermutation qs ps → IsSorted position_order qs → rs ≡ dedup same_point qs → AreJoints n ws (points_of rs)
  are-joints ps qs rs h p q s e = record { each = Every-from_In (λ x. IsPoint x × IsTrue (is_active n ws x)) (points_of rs) (λ x i. each x i); all = all; once = distinct-points (points_of rs) sorted; sorted = sorted }
    where
      sorted : EveryPair (λ (x y : Point). IsTrue (point_before x y)) (points_of rs)
      sorted = subst (λ (t : List CodePoint). EveryPair (λ (x y : Point). IsTrue (point_before x y)) (points_of t)) (sym e) (sorted-points qs s)

      is-point : (x : Point) → In x (points_of rs) → IsPoint x
      is-point x i = let r = In-map point_of rs x i in subst IsPoint (sym r.2) r.0.reduced

      meeting : (x : Point) → In x (points_of []) ⊎ AreMeeting n ls x → AreMeeting n ls x
      meeting x (inl f) = absurd f
      meeting x (inr m) = m

      each : (x : Point) → In x (points_of rs) → IsPoint x × IsTrue (is_active n ws x)
      each x i =
          let r = is-point x i in
          let j = points-from ps qs x q (subst (λ (t : List CodePoint). In x (points_of t)) e i) in
          (r, meeting-active n ls ws x live r (meeting x (h.each x j)))

      all : (x : Point) → IsPoint x → IsTrue (is_active n ws x) → In x (points_of rs)
      all x r a = subst (λ (t : List CodePoint). In x (points_of t)) (sym e) (kept-points ps qs x p (h.all x r (active-meeting n ls ws x live none r a)))

  -- the points that were active before, and the new meetings, are the meetings
  pub known-meetings : (k : ℕ) (known ps : List CodePoint) → n + 1 ≡ k → AreJoints n ws (points_of known) → Adds (IsNewlyMet k ls) [] ps → Adds (AreMeeting k ls) [] (ps ++ known)
  known-meetings k known ps e h g = record { keeps = λ p i. absurd i; each = λ p i. inr (each p (In-append (points_of ps) (points_of known) p (subst (In p) whole i))); all = all }
    where
      whole : points_of (ps ++ known) ≡ points_of ps ++ points_of known
      whole = map-append point_of ps known

      raised : (p : Point) → AreMeeting n ls p → AreMeeting k ls p
      raised p x = (x.0, x.1, (x.2.0, x.2.1, meets-above n k x.0 x.2.0 p (omega (arith, e)) x.2.2))

      newly : (p : Point) → In p (points_of []) ⊎ IsNewlyMet k ls p → AreMeeting k ls p
      newly p (inl f) = absurd f
      newly p (inr x) = new-meeting k ls p x

      each : (p : Point) → In p (points_of ps) ⊎ In p (points_of known) → AreMeeting k ls p
      each p (inl i) = newly p (g.each p i)
      each p (inr i) = let a = Every-at (λ x. IsPoint x × IsTrue (is_active n ws x)) (points_of known) p h.each i in raised p (active-meeting n ls ws p live none a.0 a.1)

      all : (p : Point) → IsPoint p → AreMeeting k ls p → In p (points_of (ps ++ known))
      all p i x = subst (In p) (sym whole) (go (meeting-parts n k ls p e x))
        where
          go : AreMeeting n ls p ⊎ IsNewlyMet k ls p → In p (points_of ps ++ points_of known)
          go (inl m) = In-right (points_of ps) (points_of known) p (h.all p i (meeting-active n ls ws p live i m))
          go (inr m) = In-left (points_of ps) (points_of known) p (g.all p i m)

pub all-near : (n : ℕ) (ws : List Wall) (rs : List CodePoint) → AreJoints n ws (points_of rs) → AllNear n ws
all-near n ws rs h p i a = let r = In-map point_of rs p (h.all p i a) in subst IsNear (sym r.2) r.0.near

-- Where strands meet: at most at the common point of their hulls.
use Rattle.std.proofs.Common.{◌≡◌, ◌≢◌, ℕ, ◌+◌, ◌<◌, subst, List, length, get_or, arith, ◌⊎◌, inl, inr}
use Rattle.std.specs.Prelude.{pos}
use Rattle.std.proofs.lemmas.List.{get_or_default}
use Rattle.std.specs.List.Sorted.{IsNonDecreasingBy}
use Rattle.scattering.specs.Collections.{In, Every}
use Rattle.scattering.specs.Series.{det}
use Rattle.scattering.specs.Plane.{Point, IsPoint}
use Rattle.scattering.proofs.Lists.{Every-from_In, Every-at}
use Rattle.plane_geom.specs.declared.Point.{Point as CodePoint}
use Rattle.plane_geom.specs.declared.Meeting.{Meeting}
use Rattle.plane_geom.specs.declared.Meeting.TheVariants.{Parallel, Outside}
use Rattle.plane_geom.specs.Shown.{support_dir, OnSupport, IsMeeting}
use Rattle.joint_finder.specs.declared.live.LiveWall.{LiveWall}
use Rattle.joint_finder.specs.declared.strands.Strand.{Strand}
use Rattle.joint_finder.specs.Crossings.{Adds}
use Rattle.joint_finder.specs.Strands.{IsHeld, AreStrands, AreFacing, IsFacing, MeetsAny, MeetsRow, MeetsPairs}
use Rattle.joint_finder.proofs.LiveWalls.{zero-both, back}
use Rattle.joint_finder.proofs.Lists.{In-get}
use Rattle.joint_finder.proofs.Meetings.{one-point, meets-back}

pub adds-none : (P : Point → Type 0) (old : List CodePoint) → ((p : Point) → IsPoint p → P p → ⊥) → Adds P old old
adds-none P old f = record { keeps = λ p i. i; each = λ p i. inl i; all = λ p i h. absurd (f p i h) }

-- ---- two strands

module _ (n : ℕ) (s t : Strand) (f : IsFacing n s t) where
  pub hulls-hold : (p : Point) → IsPoint p → MeetsAny n s.walls.now t.walls.now p → OnSupport s.hull p × OnSupport t.hull p
  hulls-hold p i x = ((f.first x.0 x.1).points p i x.2.2.first, (f.second x.2.0 x.2.1).points p i x.2.2.second)

  pub hulls-cross : (p : Point) → MeetsAny n s.walls.now t.walls.now p → det (support_dir s.hull) (support_dir t.hull) ≢ pos 0
  hulls-cross p x e =
      let a = (f.first x.0 x.1).along in
      let b = (f.second x.2.0 x.2.1).along in
      x.2.2.crossing (zero-both (support_dir s.hull) (support_dir x.0.support) (support_dir t.hull) (support_dir x.2.0.support) (back _ _ a) (back _ _ b) e)

  -- walls that hold a point of both hulls meet there
  pub meet-there : (p : Point) → det (support_dir s.hull) (support_dir t.hull) ≢ pos 0 → IsHeld p s.walls.now → IsHeld p t.walls.now → MeetsAny n s.walls.now t.walls.now p
  meet-there p c x y = (
    x.0,
    x.1,
    (
      y.0,
      y.1,
      record {
        fits = let d = f.degrees x.0 y.0 x.1 y.1 in omega (arith, d);
        crossing = λ e. c (zero-both (support_dir x.0.support) (support_dir s.hull) (support_dir y.0.support) (support_dir t.hull) (f.first x.0 x.1).along (f.second y.0 y.1).along e);
        first = x.2;
        second = y.2;
      },
    ),
  )

  -- they meet where the hulls do
  pub meet-where : (p q : Point) → IsPoint p → IsPoint q → OnSupport s.hull p → OnSupport t.hull p → MeetsAny n s.walls.now t.walls.now q → q ≡ p
  meet-where p q i j a b x = let h = hulls-hold q j x in one-point s.hull t.hull q p j i (hulls-cross q x) h.0 h.1 a b

  pub held-both : (p : Point) → MeetsAny n s.walls.now t.walls.now p → IsHeld p s.walls.now × IsHeld p t.walls.now
  held-both p x = ((x.0, x.1, x.2.2.first), (x.2.0, x.2.1, x.2.2.second))

  -- hulls that are parallel, or have no common point
  pub no-meeting : (m : Meeting) → IsMeeting s.hull t.hull m → (m ≡ Parallel) ⊎ (m ≡ Outside) → (p : Point) → IsPoint p → MeetsAny n s.walls.now t.walls.now p → ⊥
  no-meeting m h (inl e) p i x = hulls-cross p x (subst (IsMeeting s.hull t.hull) e h)
  no-meeting m h (inr e) p i x = let b = hulls-hold p i x in let o = subst (IsMeeting s.hull t.hull) e h in o.1 p i b.0 b.1

-- ---- walls of one least degree are sorted by it

pub level-sorted : (n : ℕ) (ls ms : List LiveWall) (l : LiveWall) → AreFacing n ls ms → In l ls → IsNonDecreasingBy (λ m. m.degree) ms
level-sorted n ls ms l f i = λ j k d h lt.
    let a : l.degree + (get_or ms j d).degree ≡ n = f l (get_or ms j d) i (In-get ms j (get_or ms j d) (omega (arith, h, lt)) (same ms j d (omega (arith, h, lt)))) in
    let b : l.degree + (get_or ms k d).degree ≡ n = f l (get_or ms k d) i (In-get ms k (get_or ms k d) lt (same ms k d lt)) in
    omega (arith, a, b)
  where
    same : (ms : List LiveWall) (j : ℕ) (d : LiveWall) → j < length ms → get_or ms j d ≡ get_or ms j (get_or ms j d)
    same ms j d lt = get_or_default ms j d (get_or ms j d) lt

-- ---- lists of strands

pub all-facing : (n : ℕ) (ls ms : List LiveWall) (ss ts : List Strand) → AreFacing n ls ms → AreStrands ls ss → AreStrands ms ts → Every (λ s. Every (IsFacing n s) ts) ss
all-facing n ls ms ss ts f a b =
    Every-from_In (λ s. Every (IsFacing n s) ts) ss (λ s i. Every-from_In (IsFacing n s) ts (λ t j. record { degrees = λ l m k q. f l m (a.each s l i k) (b.each t m j q); first = a.inside s i; second = b.inside t j }))

pub pairs-in : (n : ℕ) (ls ms : List LiveWall) (ss ts : List Strand) (p : Point) → AreStrands ls ss → AreStrands ms ts → MeetsPairs n ss ts p → MeetsAny n ls ms p
pairs-in n ls ms ss ts p a b x =
    let y : MeetsRow n x.0 ts p = x.2 in
    let z : MeetsAny n x.0.walls.now y.0.walls.now p = y.2 in
    (z.0, a.each x.0 z.0 x.1 z.1, (z.2.0, b.each y.0 z.2.0 y.1 z.2.1, z.2.2))

pub pairs-out : (n : ℕ) (ls ms : List LiveWall) (ss ts : List Strand) (p : Point) → AreStrands ls ss → AreStrands ms ts → MeetsAny n ls ms p → MeetsPairs n ss ts p
pairs-out n ls ms ss ts p a b x =
    let s = a.all x.0 x.1 in
    let t = b.all x.2.0 x.2.1 in
    (s.0, s.1, (t.0, t.1, (x.0, s.2, (x.2.0, t.2, x.2.2))))

pub pairs-turned : (n : ℕ) (ss ts : List Strand) (p : Point) → MeetsPairs n ss ts p → MeetsPairs n ts ss p
pairs-turned n ss ts p x =
    let y : MeetsRow n x.0 ts p = x.2 in
    let z : MeetsAny n x.0.walls.now y.0.walls.now p = y.2 in
    (y.0, y.1, (x.0, x.1, (z.2.0, z.2.1, (z.0, z.1, meets-back n z.0 z.2.0 p z.2.2))))

facing-back : (n : ℕ) (s t : Strand) → IsFacing n s t → IsFacing n t s
facing-back n s t f = record { degrees = λ l m i j. (let d = f.degrees m l j i in omega (arith, d)); first = f.second; second = f.first }

pub facing-turned : (n : ℕ) (ss ts : List Strand) → Every (λ s. Every (IsFacing n s) ts) ss → Every (λ t. Every (IsFacing n t) ss) ts
facing-turned n ss ts f =
    Every-from_In (λ t. Every (IsFacing n t) ss) ts (λ t j. Every-from_In (IsFacing n t) ss (λ s i. facing-back n s t (Every-at (IsFacing n s) ts t (Every-at (λ s. Every (IsFacing n s) ts) ss s f i) j)))

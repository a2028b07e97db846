-- Strands: the walls along a line lie on it, and the strands that a walk over walls makes are theirs.
use Rattle.std.proofs.Common.{◌≡◌, ℕ, suc, ◌+◌, ◌-◌, ◌<◌, refl, sym, ap, subst, ◌∙◌, List, [], ◌∷◌, ◌++◌, length, get_or, take, drop, arith, ◌⊎◌, inl, inr}
use Rattle.std.specs.Prelude.{pos, ◌*ℤ◌, ◌+ℤ◌, ◌≤ℤ◌}
use Rattle.std.proofs.Math.Seq.{take-length}
use Rattle.sum_algebra.proofs.Ring.{nought, ring}
use Rattle.sum_algebra.proofs.Ring as E
use Rattle.sum_algebra.proofs.IntegerRing.{ints_ring, ◌:*◌, ◌:-◌, ◌:+◌, X, Y, Z}
use Rattle.scattering.specs.Collections.{In}
use Rattle.scattering.specs.Series.{Exp, det}
use Rattle.scattering.specs.Plane.{Point, IsPoint, difference}
use Rattle.scattering.proofs.Lists.{In-append, In-left, In-right}
use Rattle.plane_theory.proofs.Directions.{positive-not, zero-factor}
use Rattle.plane_theory.proofs.Points.{line-test}
use Rattle.plane_geom.specs.declared.Support.{Support}
use Rattle.plane_geom.specs.declared.Support.TheVariants.{Line, Half}
use Rattle.plane_geom.specs.Shown.{point_of, vector_of, support_at, support_dir, OnSupport}
use Rattle.plane_geom.proofs.Meets.{flat, moves, weight}
use Rattle.joint_finder.specs.declared.live.LiveWall.{LiveWall}
use Rattle.joint_finder.specs.declared.strands.Strand.{Strand}
use Rattle.joint_finder.specs.Strands.{IsSameUpToSign, IsInside, IsWholeLine, AreInside, IsStrand, AreStrands}
use Rattle.joint_finder.proofs.LiveWalls.{zero-first}

-- ---- supports and lines

pub inside-itself : (s : Support) → IsInside s s
inside-itself s = record { along = inl refl; points = λ p i h. h }

-- two steps along one direction are one
along-both : (d : Exp) (p q r : Point) → pos 1 ≤ℤ q.w → det d (difference p q) ≡ pos 0 → det d (difference q r) ≡ pos 0 → det d (difference p r) ≡ pos 0
along-both d p q r l e f =
    zero-factor q.w (det d (difference p r)) (positive-not q.w l)
    (ring ints_ring (d.a ∷ d.b ∷ p.x ∷ p.y ∷ p.w ∷ q.x ∷ q.y ∷ q.w ∷ r.x ∷ r.y ∷ r.w ∷ [])
    (E.var 7 :* (X :* (E.var 9 :* E.var 4 :- E.var 3 :* E.var 10) :- Y :* (E.var 8 :* E.var 4 :- Z :* E.var 10)))
    (E.var 10 :* (X :* (E.var 6 :* E.var 4 :- E.var 3 :* E.var 7) :- Y :* (E.var 5 :* E.var 4 :- Z :* E.var 7)) :+ E.var 4 :* (X :* (E.var 9 :* E.var 7 :- E.var 6 :* E.var 10) :- Y :* (E.var 8 :* E.var 7 :- E.var 5 :* E.var 10))) refl
    ∙ ap (λ t. r.w *ℤ t +ℤ p.w *ℤ det d (difference q r)) e ∙ ap (λ t. r.w *ℤ pos 0 +ℤ p.w *ℤ t) f ∙ ring ints_ring (r.w ∷ p.w ∷ []) (X :* nought :+ Y :* nought) nought refl)

-- what begins on a line, and goes along it, lies on it
pub on-line : (l s : Support) → IsWholeLine l → OnSupport l (support_at s) → IsSameUpToSign (support_dir s) (support_dir l) → IsInside s l
on-line (Half a d) s w o g = absurd w
on-line (Line a d) s w o g = record { along = g; points = points }
  where
    points : (p : Point) → IsPoint p → OnSupport s p → OnSupport (Line a d) p
    points p i h =
        let u = zero-first (support_dir s) (vector_of d) (difference (support_at s) p) g (flat s p i.below h) in
        let v = flat (Line a d) (support_at s) (weight s) o in
        (line-test (point_of a) (vector_of d) p a.reduced.below i.below (moves (Line a d))).0 (along-both (vector_of d) (point_of a) (support_at s) p (weight s) v u)

-- ---- the walls of one strand

only : (ls : List LiveWall) (x l : LiveWall) → length ls ≡ 1 → x ≡ get_or ls 0 x → In l ls → l ≡ x
only [] x l n e i = absurd i
only (y ∷ []) x l n e (inl q) = q ∙ sym e
only (y ∷ []) x l n e (inr i) = absurd i
only (y ∷ z ∷ ls) x l n e i = absurd (omega (arith, n))

pub one-inside : (ls : List LiveWall) (x : LiveWall) → length ls ≡ 1 → x ≡ get_or ls 0 x → AreInside x.support ls
one-inside ls x n e l i = subst (λ (k : LiveWall). IsInside k.support x.support) (sym (only ls x l n e i)) (inside-itself x.support)

-- the first wall, and those after it
pub first-inside : (s : Support) (ls : List LiveWall) (x : LiveWall) (k : ℕ) → 0 < length ls → x ≡ get_or ls 0 x → IsInside x.support s
    → AreInside s (take k (take (length ls - 1) (drop 1 ls))) → AreInside s (take (1 + k) ls)
first-inside s [] x k lt e h a = λ l i. absurd (omega (arith, lt))
first-inside s (y ∷ ls) x k lt e h a = subst (λ (j : ℕ). AreInside s (take j (y ∷ ls))) more each
  where
    more : suc k ≡ 1 + k
    more = omega arith

    all : (length (y ∷ ls) - 1) ≡ length ls
    all = omega arith

    later : AreInside s (take k ls)
    later = subst (λ (xs : List LiveWall). AreInside s (take k xs)) (ap (λ j. take j ls) all ∙ take-length ls) a

    each : (l : LiveWall) → In l (y ∷ take k ls) → IsInside l.support s
    each l (inl q) = subst (λ (m : LiveWall). IsInside m.support s) (sym (q ∙ sym e)) h
    each l (inr i) = later l i

-- ---- one strand after another

pub no-strands : AreStrands [] []
no-strands = record { inside = λ s i. absurd i; each = λ s l i. absurd i; all = λ l i. absurd i }

pub strands-more : (seen ls : List LiveWall) (ss : List Strand) (s : Strand) → AreStrands seen ss → s.walls.now ≡ ls → IsStrand s → AreStrands (seen ++ ls) (ss ++ s ∷ [])
strands-more seen ls ss s h e k = record { inside = inside; each = each; all = all }
  where
    inside : (t : Strand) → In t (ss ++ s ∷ []) → IsStrand t
    inside t i = go (In-append ss (s ∷ []) t i)
      where
        go : In t ss ⊎ In t (s ∷ []) → IsStrand t
        go (inl j) = h.inside t j
        go (inr (inl q)) = subst IsStrand (sym q) k
        go (inr (inr f)) = absurd f

    each : (t : Strand) (l : LiveWall) → In t (ss ++ s ∷ []) → In l t.walls.now → In l (seen ++ ls)
    each t l i j = go (In-append ss (s ∷ []) t i)
      where
        go : In t ss ⊎ In t (s ∷ []) → In l (seen ++ ls)
        go (inl a) = In-left seen ls l (h.each t l a j)
        go (inr (inl q)) = In-right seen ls l (subst (In l) (ap (λ (u : Strand). u.walls.now) q ∙ e) j)
        go (inr (inr f)) = absurd f

    all : (l : LiveWall) → In l (seen ++ ls) → (t : Strand) × In t (ss ++ s ∷ []) × In l t.walls.now
    all l i = go (In-append seen ls l i)
      where
        go : In l seen ⊎ In l ls → (t : Strand) × In t (ss ++ s ∷ []) × In l t.walls.now
        go (inl j) = let r = h.all l j in (r.0, In-left ss (s ∷ []) r.0 r.1, r.2)
        go (inr j) = (s, In-right ss (s ∷ []) s (inl refl), subst (In l) (sym e) j)

-- The active points of a completion at its own order: at order 0 there are none, and what an order adds makes no further
-- point active at it, so those of the next order are the points of the corrections that lead to it.
use Rattle.std.proofs.Common.{◌≡◌, ◌⊎◌, inl, inr, ℕ, ◌+◌, ◌<◌, ◌≤◌, refl, sym, ap, subst, ◌∙◌, List, [], ◌∷◌, map, true, arith}
use Rattle.std.specs.Prelude.{IsTrue}
use Rattle.limits.specs.Limits.{highest_order}
use Rattle.scattering.specs.Collections.{In, Every, EveryPair}
use Rattle.scattering.specs.Series.{Term, degree, rest}
use Rattle.scattering.specs.Plane.{Point, IsPoint, point_before}
use Rattle.scattering.specs.Wall.{Wall, Diagram, IsWall, walls}
use Rattle.scattering.specs.ActivePoint.{is_active}
use Rattle.scattering.specs.Completion.{IsCompletion}
use Rattle.scattering.specs.Correction.{Lie, Corrections, AreCorrections, raised}
use Rattle.scattering.proofs.Lists.{Every-at, Every-implies, Every-images, pairs-images}
use Rattle.completion_theory.proofs.ActivePoints.{CrossesAt, EntersAt, active-out, added_terms_activate_nothing}
use Rattle.plane_geom.specs.Shown.{point_of}
use Rattle.plane_geom.specs.declared.Point.{Point as CodePoint}
use Rattle.joint_finder.specs.Joints.{AreJoints, points_of}
use Rattle.joint_finder.proofs.Sorted.{distinct-points}
use Rattle.ray_merge.specs.Additions.{corrections_of}
use Rattle.scatter_step.specs.Completed.{SeenCompleted, IsCompleted, AreOwnJoints, KeepsItsPoints}
use Rattle.scatter_step.proofs.Lines.{lines-initial, raised-lines}
use Rattle.scatter_step.proofs.NextOrder.{unraised, walls-proper}

pub points-of-corrections : (cs : List (CodePoint × Lie)) → points_of (map (λ c. c.0) cs) ≡ map (λ c. c.0) (corrections_of cs)
points-of-corrections [] = refl
points-of-corrections (c ∷ cs) = let e = points-of-corrections cs in λ i. point_of c.0 ∷ e i

module _ (c : SeenCompleted) (h : IsCompleted c) where
  -- ---- order 0

  positive : (w : Wall) (t : Term) → In w (walls c.diagram) → In t (rest w.function) → 1 ≤ degree t.0
  positive w t i j = (Every-at _ (rest w.function) t (Every-at (IsWall c.order) (walls c.diagram) w (walls-proper c h) i).function.others j).0

  none-active : (p : Point) → is_active 0 (walls c.diagram) p ≡ true → ⊥
  none-active p a = go (active-out 0 (walls c.diagram) p a)
    where
      go : CrossesAt 0 (walls c.diagram) p ⊎ EntersAt 0 (walls c.diagram) p → ⊥
      go (inl x) = let l = x.low in let s = positive x.u x.s x.u_in x.s_in in omega (arith, l, s)
      go (inr x) = let l = x.low in let s = positive x.w x.t x.w_in x.t_in in omega (arith, l, s)

  no-joints : (ps : List CodePoint) → c.order ≡ 0 → ps ≡ [] → AreOwnJoints c ps
  no-joints ps e q =
      subst (λ (n : ℕ). AreJoints n (walls c.diagram) (points_of ps)) (sym e) (subst (λ (qs : List CodePoint). AreJoints 0 (walls c.diagram) (points_of qs)) (sym q)
      (record { each = tt; all = λ p ip a. absurd (none-active p a); once = tt; sorted = tt }))

  pub kept-first : (ps : List CodePoint) → c.order ≡ 0 → ps ≡ [] → KeepsItsPoints c ps
  kept-first ps e q = record { completed = h; points = no-joints ps e q }

  -- ---- the order before the next one

  pub joints-before : (ps : List CodePoint) → AreOwnJoints c ps → (n : ℕ) → n + 1 ≡ c.order + 1 → AreJoints n (walls c.diagram) (points_of ps)
  joints-before ps j n s = let t : n ≡ c.order = omega (arith, s) in subst (λ (m : ℕ). AreJoints m (walls c.diagram) (points_of ps)) (sym t) j

  -- ---- the next order

  module _ (low : c.order < highest_order) (cs : Corrections) (a : AreCorrections (walls c.diagram) (c.order + 1) cs) (e' : Diagram) (k : IsCompletion c.initial.lines (c.order + 1) e') where
    same-active : (p : Point) → is_active (c.order + 1) (walls e') p ≡ is_active (c.order + 1) (walls c.diagram) p
    same-active p =
        subst (λ (d : Diagram). is_active (c.order + 1) (walls d) p ≡ is_active (c.order + 1) (walls c.diagram) p) (raised-lines c.initial.lines (c.order + 1) e' h.lines k.initial)
        (subst (λ (d : Diagram). is_active (c.order + 1) (walls (raised c.initial.lines (c.order + 1) e')) p ≡ is_active (c.order + 1) (walls d) p) (unraised c h)
        (added_terms_activate_nothing c.initial.lines c.order highest_order c.diagram e' (omega (arith, low)) h.given (lines-initial c.initial.lines h.lines) h.completes k p))

    abbrev points : List Point
    points = map (λ x. x.0) cs

    each : Every (λ p. IsPoint p × IsTrue (is_active (c.order + 1) (walls e') p)) points
    each =
        Every-images (λ (p : Point). IsPoint p × IsTrue (is_active (c.order + 1) (walls e') p)) (λ x. x.0) cs
        (Every-implies _ (λ (x : Point × Lie). IsPoint x.0 × IsTrue (is_active (c.order + 1) (walls e') x.0)) cs (λ x i. (i.0, same-active x.0 ∙ i.1)) a.each)

    sorted : EveryPair (λ p q. IsTrue (point_before p q)) points
    sorted = pairs-images (λ p q. IsTrue (point_before p q)) (λ x. x.0) cs a.sorted

    joints-after : AreJoints (c.order + 1) (walls e') points
    joints-after = record {
      each = each;
      all = λ p ip t. a.all p ip (sym (same-active p) ∙ t);
      once = distinct-points points sorted;
      sorted = sorted;
    }

-- as the program has the corrections, and the points that it takes of them
pub corrected-joints : (c : SeenCompleted) (h : IsCompleted c) → c.order < highest_order → (cs : List (CodePoint × Lie)) (ps : List CodePoint) (n : ℕ) (e' : Diagram) → AreCorrections (walls c.diagram) (c.order + 1) (corrections_of cs) → ps ≡ map (λ c. c.0) cs → n ≡ c.order + 1
    → IsCompletion c.initial.lines n e' → AreJoints n (walls e') (points_of ps)
corrected-joints c h low cs ps n e' a q s k =
    subst (λ (m : ℕ). AreJoints m (walls e') (points_of ps)) (sym s)
    (subst (AreJoints (c.order + 1) (walls e')) (sym (ap points_of q ∙ points-of-corrections cs)) (joints-after c h low (corrections_of cs) a e' (subst (λ (m : ℕ). IsCompletion c.initial.lines m e') s k)))

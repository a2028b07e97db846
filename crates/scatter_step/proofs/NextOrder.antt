-- What a completion of lines says of corrections of the next order: they can be merged, and this gives its completion.
use Rattle.std.proofs.Common.{◌≡◌, ℕ, ◌+◌, ◌<◌, ◌≤◌, refl, sym, subst, true, not, arith, le_trans}
use Rattle.std.specs.Prelude.{◌&&◌, IsTrue}
use Rattle.scattering.specs.Collections.{In, Every}
use Rattle.limits.specs.Limits.{highest_order, largest_weight}
use Rattle.scattering.specs.Series.{mass_to}
use Rattle.scattering.specs.Plane.{Point, IsPoint}
use Rattle.scattering.specs.Wall.{Outgoing, WallKind, Wall, Diagram, IsWall, is_line, walls, starts_at}
use Rattle.scattering.specs.LocalProduct.{weight}
use Rattle.scattering.specs.Completion.{IsCompletion, IsConsistent}
use Rattle.scattering.specs.Correction.{Lie, Corrections, IsCorrection, IsWhole, IsMerged, AreCorrections, AreMergeable, raised}
use Rattle.scattering.proofs.Lists.{Every-at, Every-from_In, Every-append, Every-implies, In-right}
use Rattle.plane_theory.proofs.Directions.{direction-not_origin}
use Rattle.completion_theory.proofs.CorrectionExists.{correction_is_whole}
use Rattle.completion_theory.proofs.NextOrder.{step_completes}
use Rattle.completion_theory.proofs.LowerOrders.{every-wall-cut}
use Rattle.weight_theory.specs.Laws.{HasFunction, HaveFunctions}
use Rattle.weight_theory.proofs.StartingRays.{starting-ray-is-light}
use Rattle.weight_theory.proofs.CorrectionMasses.{correction-is-light, correction-term-is-light}
use Rattle.scattering.proofs.Keys.{point_eq-refl}
use Rattle.ray_merge.specs.Answer.{AreLight, StayWithin}
use Rattle.ray_merge.proofs.NextOrder.{stays-within}
use Rattle.scatter_step.specs.Completed.{SeenCompleted, IsCompleted}
use Rattle.scatter_step.proofs.Lines.{lines-initial, raised-lines}

module _ (c : SeenCompleted) (h : IsCompleted c) where
  pub unraised : raised c.initial.lines c.order c.diagram ≡ c.diagram
  unraised = raised-lines c.initial.lines c.order c.diagram h.lines h.completes.initial

  -- each wall has a wall function of the order
  pub walls-proper : Every (IsWall c.order) (walls c.diagram)
  walls-proper =
      Every-append (IsWall c.order) c.diagram.initial c.diagram.rays
      (subst (Every (IsWall c.order)) (sym h.completes.initial) (every-wall-cut c.order highest_order c.initial.lines h.given)) h.completes.proper

  have-functions : HaveFunctions (walls c.diagram)
  have-functions = Every-implies (IsWall c.order) HasFunction (walls c.diagram) (λ w g. (c.order, g.function)) walls-proper

  -- each point is consistent at the order before
  pub consistent-before : (n : ℕ) → n + 1 ≡ c.order + 1 → IsConsistent n (walls c.diagram)
  consistent-before n s = let t : n ≡ c.order = omega (arith, s) in subst (λ (m : ℕ). IsConsistent m (walls c.diagram)) (sym t) h.completes.consistent

  module _ (low : c.order < highest_order) where
    pub correction-whole : (p : Point) (l : Lie) → IsPoint p → IsCorrection (walls c.diagram) p (c.order + 1) l → Every IsWhole l
    correction-whole p l ip r =
        correction_is_whole c.initial.lines c.order highest_order c.diagram p l (omega (arith, low)) h.given (lines-initial c.initial.lines h.lines) h.completes ip
        (subst (λ (e : Diagram). IsCorrection (walls e) p (c.order + 1) l) (sym unraised) r)

    module _ (cs : Corrections) (a : AreCorrections (walls c.diagram) (c.order + 1) cs) where
      correction-of : (x : Point × Lie) → In x cs → IsCorrection (walls c.diagram) x.0 (c.order + 1) x.1
      correction-of x i = (Every-at _ cs x a.each i).2

      point-of : (x : Point × Lie) → In x cs → IsPoint x.0
      point-of x i = (Every-at _ cs x a.each i).0

      pub completes-next : (e' : Diagram) → IsMerged c.initial.lines c.diagram cs (c.order + 1) e' → IsCompletion c.initial.lines (c.order + 1) e'
      completes-next e' m =
          step_completes c.initial.lines c.order highest_order c.diagram e' cs (omega (arith, low)) h.given (lines-initial c.initial.lines h.lines) h.completes
          (subst (λ (e : Diagram). AreCorrections (walls e) (c.order + 1) cs) (sym unraised) a) m

      pub mergeable : AreMergeable (c.order + 1) cs
      mergeable = record {
        points = Every-from_In _ cs point-of;
        sorted = a.sorted;
        distinct = Every-from_In _ cs (λ x i. (correction-of x i).distinct);
        degrees = Every-from_In _ cs (λ x i. (correction-of x i).degrees);
        whole = Every-from_In _ cs (λ x i. correction-whole x.0 x.1 (point-of x i) (correction-of x i));
      }

      module _ (w : Every (λ x. weight (walls c.diagram) x.0 (c.order + 1) ≤ largest_weight) cs) where
        pub light : AreLight cs
        light = Every-from_In _ cs (λ x i. Every-from_In _ x.1 (λ t j v q. le_trans (correction-term-is-light (walls c.diagram) x.0 (c.order + 1) x.1 t v have-functions (correction-of x i) j q) (Every-at _ cs x w i)))

        pub stay-within : StayWithin (c.order + 1) cs c.diagram.rays
        stay-within = Every-from_In _ cs (λ x i. stays-within (c.order + 1) x.0 x.1 c.diagram.rays (correction-of x i).degrees
            (λ vs v. le_trans (correction-is-light (walls c.diagram) x.0 (c.order + 1) x.1 vs have-functions (correction-of x i) v) (Every-at _ cs x w i))
            (λ r j at. le_trans (ray x.0 r j at) (Every-at _ cs x w i)))
          where
            starts : (r : Wall) (p : Point) → r.kind ≡ Outgoing → r.at ≡ p → IsTrue (starts_at r p)
            starts r p k e = subst (λ (q : Point). IsTrue (starts_at r q)) e (rw (point_eq-refl r.at) (subst (λ (x : WallKind). (not (is_line x) && true) ≡ true) (sym k) refl))

            ray : (p : Point) (r : Wall) → In r c.diagram.rays → r.at ≡ p → mass_to (c.order + 1) r.function ≤ weight (walls c.diagram) p (c.order + 1)
            ray p r j at =
                starting-ray-is-light (walls c.diagram) p (c.order + 1) r have-functions (In-right c.diagram.initial c.diagram.rays r j) (starts r p (Every-at (λ (r : Wall). r.kind ≡ Outgoing) c.diagram.rays r h.completes.outgoing j) at)
                (direction-not_origin r.dir (Every-at (IsWall c.order) c.diagram.rays r h.completes.proper j).direction)

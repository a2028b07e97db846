-- An ask has a first fault, or none.
use Rattle.std.proofs.Common.{◌≡◌, ℕ, refl, ◌<◌, ◌≤◌, ◌⊎◌, inl, inr, arith, Bool, true, false, List}
use Rattle.std.specs.Prelude.{Option, Some, None}
use Rattle.std.specs.Bool.{MatchBool}
use native.Mathlib.Decide.{dec_le}
use Rattle.limits.specs.Limits.{largest_weight, most_reached, most_tails}
use Rattle.scattering.specs.Collections.{Every, IsLeast}
use Rattle.scattering.specs.Series.{Exp, origin, exp_eq}
use Rattle.scattering.specs.Plane.{Point, IsPoint, IsNear, point_before}
use Rattle.scattering.specs.Wall.{Wall, cut_walls}
use Rattle.scattering.specs.Tail.{ReachTo, IsTail}
use Rattle.scattering.specs.Theta.{AskFault, NotGeneric, TooManyReach, TooManyTails, PointTooLarge, WeightTooLarge, IsHit, IsMet, IsWeight, weights, Check, MeetsNone, TailsFault, is_on_live}
use Rattle.plane_theory.proofs.PointOrder.{before-total, before-trans}
use Rattle.broken_line_theory.proofs.Bends.{IsTame, cut-walls-tame}
use Rattle.broken_line_theory.proofs.Crossings.{wall-points}
use Rattle.broken_line_theory.proofs.ListedReach.{reach-listed}
use Rattle.broken_line_theory.proofs.ListedTails.{tails-listed}
use Rattle.broken_line_theory.proofs.Listings.{all-or-not, more-or-most, least-or-none}
use Rattle.broken_line_theory.proofs.MetPoints.{hits, met-points}
use Rattle.broken_line_theory.proofs.NextBends.{is-near-or-not}
use Rattle.broken_line_theory.specs.Laws.{AskFaultExists}

-- the check fails, or it passes and what is later has a fault or none
check-found : (F P : Type 0) (c : AskFault) (later : Option AskFault → Type 0) → F ⊎ P → ((f : Option AskFault) × later f) → (f : Option AskFault) × Check F c P later f
check-found F P c later (inl h) l = (Some c, inl (h, refl))
check-found F P c later (inr h) l = (l.0, inr (h, l.1))

pub above-or-not : (a b : ℕ) → (a < b) ⊎ (b ≤ a)
above-or-not a b = go (dec_le b a)
  where
    go : Dec (b ≤ a) → (a < b) ⊎ (b ≤ a)
    go (yes l) = inr l
    go (no n) = inl (omega (arith, n))

module _ (ws : List Wall) (n : ℕ) (m : Exp) (tame : Every IsTame (cut_walls n ws)) (points : Every (λ w. IsPoint w.at) (cut_walls n ws)) (q : Point) (point : IsPoint q) where
  meets-found : (f : Option AskFault) × MeetsNone ws n m q f
  meets-found =
      go (least-or-none point_before (IsMet ws n m q) (λ x y h k. before-total x y h.0.0 k.0.0) (λ x y z h k l a b. before-trans x y z h.0.0.below k.0.0.below l.0.0.below a b)
      (met-points ws n m tame points q point))
    where
      go : ((p : Point) × IsLeast point_before (IsMet ws n m q) p) ⊎ ((p : Point) → IsMet ws n m q p → ⊥) → (f : Option AskFault) × MeetsNone ws n m q f
      go (inl h) = (Some (NotGeneric h.0), inl (h.0, h.1, refl))
      go (inr h) = (None, inr (h, refl))

  weighed : ((w : ℕ) × IsWeight ws n m q w × (largest_weight < w)) ⊎ ((w : ℕ) × IsWeight ws n m q w × (w ≤ largest_weight))
  weighed = (let ts = tails-listed ws n m tame points q point in go (weights ws n ts.0) (ts.0, ts.1, refl) (above-or-not largest_weight (weights ws n ts.0)))
    where
      go : (w : ℕ) → IsWeight ws n m q w → (largest_weight < w) ⊎ (w ≤ largest_weight) → ((w : ℕ) × IsWeight ws n m q w × (largest_weight < w)) ⊎ ((w : ℕ) × IsWeight ws n m q w × (w ≤ largest_weight))
      go w h (inl l) = inl (w, h, l)
      go w h (inr l) = inr (w, h, l)

  tails-fault-found : (f : Option AskFault) × TailsFault ws n m q f
  tails-fault-found =
      let ds = reach-listed ws n tame in
      let ts = tails-listed ws n m tame points q point in
      check-found _ _ TooManyReach _ (more-or-most most_reached (λ d. ReachTo ws n d n) ds.0 ds.1)
      (check-found _ _ TooManyTails _ (more-or-most most_tails (IsTail ws n m q) ts.0 ts.1)
      (check-found _ _ PointTooLarge _ (all-or-not (IsHit ws n m q) IsNear (λ p h. is-near-or-not p) (hits ws n m tame points q point))
      (check-found _ _ WeightTooLarge (MeetsNone ws n m q) weighed meets-found)))

pub ask-fault-exists : AskFaultExists
ask-fault-exists ws n k m q walls point = go (is_on_live (cut_walls n ws) q) (exp_eq m origin)
  where
    go : (a b : Bool) → (f : Option AskFault) × MatchBool a (f ≡ Some (NotGeneric q)) (MatchBool b (f ≡ None) (TailsFault ws n m q f))
    go true b = (Some (NotGeneric q), refl)
    go false true = (None, refl)
    go false false = tails-fault-found ws n m (cut-walls-tame n k ws walls) (wall-points n k ws walls) q point

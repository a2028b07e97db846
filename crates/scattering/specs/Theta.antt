-- Theta functions, and the faults of asking for one.
--     IsTheta ws n m q s            s is the theta of m at q: the sum of the values of all broken lines, each once
--     IsAskFault ws n m q fault     the first check that fails, or none
-- For m = (0, 0) the theta is 1 and only the first check is made: no tails are traced, and its weight is 1.
use Rattle.std.specs.Prelude.{◌≡◌, ◌≢◌, ℕ, ◌+◌, ◌<◌, ◌≤◌, ◌⊎◌, Bool, true, IsTrue, List, [], ◌∷◌, map, pos, Option, Some, None}
use Rattle.std.specs.Bool.{MatchBool}
use Rattle.std.specs.List.{list_any}
use Rattle.limits.specs.Limits.{largest_weight, most_reached, most_tails}
use Rattle.scattering.specs.Collections.{In, Lists, MoreThan, AtMost, IsLeast}
use Rattle.scattering.specs.Series.{Exp, Sum, det, origin, exp_eq, one, Same}
use Rattle.scattering.specs.Plane.{Point, IsPoint, IsNear, Beyond, point_before}
use Rattle.scattering.specs.Wall.{Wall, cut_walls}
use Rattle.scattering.specs.ActivePoint.{is_special}
use Rattle.scattering.specs.BrokenLine.{Bend, IsBrokenLine, value, live_on}
use Rattle.scattering.specs.Tail.{ReachTo, Tail, IsTail, last, last_point, tail_weight}

-- s is the theta of m at q, with all functions cut to degree n
abbrev pub IsTheta : List Wall → ℕ → Exp → Point → Sum → Type 0
IsTheta ws n m q s = MatchBool (exp_eq m origin) (Same s one)
    ((lines : List (List Bend)) × Lists (IsBrokenLine ws n m q) lines × Same s (map (value ws n m) lines))

-- ---- faults

pub data AskFault : Type 0 where
  NotGeneric : Point → AskFault
  TooManyReach : AskFault
  TooManyTails : AskFault
  PointTooLarge : AskFault
  WeightTooLarge : AskFault

-- p lies on the stretch from which some tail goes on
abbrev pub IsPassed : List Wall → ℕ → Exp → Point → Point → Type 0
IsPassed ws n m q p = IsPoint p × ((t : Tail) × IsTail ws n m q t × Beyond (last_point q t.bends) (last t.root t.bends) p)

-- it has exactly this point with a live wall: the wall isn't parallel to it
abbrev pub IsHit : List Wall → ℕ → Exp → Point → Point → Type 0
IsHit ws n m q p = IsPoint p × ((t : Tail) × (w : Wall) × IsTail ws n m q t × Beyond (last_point q t.bends) (last t.root t.bends) p
    × In w (live_on (cut_walls n ws) p) × (det w.dir (last t.root t.bends) ≢ pos 0))

abbrev pub IsMet : List Wall → ℕ → Exp → Point → Point → Type 0
IsMet ws n m q p = IsPassed ws n m q p × IsTrue (is_special (cut_walls n ws) p)

abbrev pub weights : List Wall → ℕ → List Tail → ℕ
weights ws n [] = 0
weights ws n (t ∷ ts) = tail_weight ws n t.root t.bends + weights ws n ts

-- the sum of the weights of all tails
abbrev pub IsWeight : List Wall → ℕ → Exp → Point → ℕ → Type 0
IsWeight ws n m q total = (ts : List Tail) × Lists (IsTail ws n m q) ts × (weights ws n ts ≡ total)

-- the fault is c where F holds, and where P holds it is found further on
abbrev pub Check : Type 0 → AskFault → Type 0 → (Option AskFault → Type 0) → Option AskFault → Type 0
Check F c P later fault = (F × (fault ≡ Some c)) ⊎ (P × later fault)

abbrev pub MeetsNone : List Wall → ℕ → Exp → Point → Option AskFault → Type 0
MeetsNone ws n m q fault = ((p : Point) × IsLeast point_before (IsMet ws n m q) p × (fault ≡ Some (NotGeneric p)))
    ⊎ (((p : Point) → IsMet ws n m q p → ⊥) × (fault ≡ None))

abbrev pub TailsFault : List Wall → ℕ → Exp → Point → Option AskFault → Type 0
TailsFault ws n m q =
    Check (MoreThan most_reached (λ d. ReachTo ws n d n)) TooManyReach (AtMost most_reached (λ d. ReachTo ws n d n))
    (Check (MoreThan most_tails (IsTail ws n m q)) TooManyTails (AtMost most_tails (IsTail ws n m q))
    (Check ((p : Point) × IsHit ws n m q p × (IsNear p → ⊥)) PointTooLarge ((p : Point) → IsHit ws n m q p → IsNear p)
    (Check ((w : ℕ) × IsWeight ws n m q w × (largest_weight < w)) WeightTooLarge ((w : ℕ) × IsWeight ws n m q w × (w ≤ largest_weight))
    (MeetsNone ws n m q))))

abbrev pub is_on_live : List Wall → Point → Bool
is_on_live ws q = list_any (λ w. true) (live_on ws q)

-- the first fault, or none
abbrev pub IsAskFault : List Wall → ℕ → Exp → Point → Option AskFault → Type 0
IsAskFault ws n m q fault = MatchBool (is_on_live (cut_walls n ws) q) (fault ≡ Some (NotGeneric q))
    (MatchBool (exp_eq m origin) (fault ≡ None) (TailsFault ws n m q fault))

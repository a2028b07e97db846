-- What is proved here of corrections and completions.
-- The walls are given as wall functions of some order m; a completion of order n reads them to degree n.
use Rattle.std.specs.Prelude.{◌≡◌, ◌||◌, ℕ, ◌+◌, ◌≤◌, IsTrue, IsFalse, List, [], Option}
use Rattle.scattering.specs.Collections.{In, Every}
use Rattle.scattering.specs.Series.{Key}
use Rattle.scattering.specs.Plane.{Point, IsPoint}
use Rattle.scattering.specs.Wall.{Wall, IsWall, IsInitial, Diagram, walls, cut_walls, is_live, starts_at}
use Rattle.scattering.specs.LocalProduct.{IsConsistentAt}
use Rattle.scattering.specs.Completion.{IsCompletion, lowered}
use Rattle.scattering.specs.ActivePoint.{is_active, is_newly_active}
use Rattle.scattering.specs.Stops.{StopCause, IsStopAt, IsFirstStop}
use Rattle.scattering.specs.Correction.{Lie, ratio_at, IsCorrection, IsWhole, Corrections, AreCorrections, IsMerged, raised}

-- ---- corrections

-- at each point there is a correction, and it is whole
abbrev pub CorrectionExists : Type 0
CorrectionExists = (given : List Wall) (n m : ℕ) (e : Diagram) (p : Point) → n + 1 ≤ m → Every (IsWall m) given → Every IsInitial given → IsCompletion given n e → IsPoint p
    → (h : Lie) × IsCorrection (walls (raised given n e)) p (n + 1) h × Every IsWhole h

-- and there is only one
abbrev pub CorrectionIsUnique : Type 0
CorrectionIsUnique = (ws : List Wall) (p : Point) (n : ℕ) (h h' : Lie) → IsCorrection ws p n h → IsCorrection ws p n h' → (k : Key) → ratio_at h k ≡ ratio_at h' k

-- so each correction is whole
abbrev pub CorrectionIsWhole : Type 0
CorrectionIsWhole = (given : List Wall) (n m : ℕ) (e : Diagram) (p : Point) (h : Lie) → n + 1 ≤ m → Every (IsWall m) given → Every IsInitial given → IsCompletion given n e → IsPoint p
    → IsCorrection (walls (raised given n e)) p (n + 1) h → Every IsWhole h

-- the corrections at all active points, in order
abbrev pub CorrectionsExist : Type 0
CorrectionsExist = (given : List Wall) (n m : ℕ) (e : Diagram) → n + 1 ≤ m → Every (IsWall m) given → Every IsInitial given → IsCompletion given n e
    → (cs : Corrections) × AreCorrections (walls (raised given n e)) (n + 1) cs × Every (λ c. Every IsWhole c.1) cs

-- ---- active points

-- a ray of a completion starts at a point that is active at the next order
abbrev pub RaysStartAtActivePoints : Type 0
RaysStartAtActivePoints = (given : List Wall) (n m : ℕ) (e : Diagram) (r : Wall) → n + 1 ≤ m → Every (IsWall m) given → Every IsInitial given → IsCompletion given n e → In r e.rays
    → IsTrue (is_active (n + 1) (walls (raised given n e)) r.at)

-- so does a live wall of the walls from which the next order is made, if it is a ray, an incoming one too
abbrev pub LiveRaysStartAtActivePoints : Type 0
LiveRaysStartAtActivePoints = (given : List Wall) (n m : ℕ) (e : Diagram) (r : Wall) (p : Point) → n + 1 ≤ m → Every (IsWall m) given → Every IsInitial given → IsCompletion given n e
    → In r (walls (raised given n e)) → IsTrue (is_live r) → IsTrue (starts_at r p) → IsTrue (is_active (n + 1) (walls (raised given n e)) p)

-- among any walls, one order more makes those points active at which it is reached exactly
abbrev pub ActivePointsGrow : Type 0
ActivePointsGrow = (n : ℕ) (ws : List Wall) (p : Point) → is_active (n + 1) ws p ≡ (is_active n ws p || is_newly_active (n + 1) ws p)

-- what order n + 1 adds makes no further point active at that order
abbrev pub AddedTermsActivateNothing : Type 0
AddedTermsActivateNothing = (given : List Wall) (n m : ℕ) (e e' : Diagram) → n + 1 ≤ m → Every (IsWall m) given → Every IsInitial given → IsCompletion given n e → IsCompletion given (n + 1) e'
    → (p : Point) → is_active (n + 1) (walls (raised given (n + 1) e')) p ≡ is_active (n + 1) (walls (raised given n e)) p

-- so the active points of an order are those of the order before, and those that are new at it
abbrev pub ActivePointsOfNextOrder : Type 0
ActivePointsOfNextOrder = (given : List Wall) (n m : ℕ) (e e' : Diagram) → n + 1 ≤ m → Every (IsWall m) given → Every IsInitial given → IsCompletion given n e → IsCompletion given (n + 1) e'
    → (p : Point) → is_active (n + 1 + 1) (walls (raised given (n + 1) e')) p ≡ (is_active (n + 1) (walls (raised given n e)) p || is_newly_active (n + 1 + 1) (walls (raised given (n + 1) e')) p)

-- a point that isn't active at the next order is consistent at it
abbrev pub PassivePointsAreConsistent : Type 0
PassivePointsAreConsistent = (given : List Wall) (n m : ℕ) (e : Diagram) (p : Point) → n + 1 ≤ m → Every (IsWall m) given → Every IsInitial given → IsCompletion given n e → IsPoint p
    → IsFalse (is_active (n + 1) (walls (raised given n e)) p) → IsConsistentAt (walls (raised given n e)) (n + 1) p

-- ---- completions

-- with the corrections at all active points the completion of order n becomes that of order n + 1
abbrev pub NextOrderCompletes : Type 0
NextOrderCompletes = (given : List Wall) (n m : ℕ) (e e' : Diagram) (cs : Corrections) → n + 1 ≤ m → Every (IsWall m) given → Every IsInitial given → IsCompletion given n e
    → AreCorrections (walls (raised given n e)) (n + 1) cs → IsMerged given e cs (n + 1) e' → IsCompletion given (n + 1) e'

-- so each order has a completion
abbrev pub CompletionExists : Type 0
CompletionExists = (given : List Wall) (n m : ℕ) → n ≤ m → Every (IsWall m) given → Every IsInitial given → (e : Diagram) × IsCompletion given n e

-- there is at most one completion
abbrev pub CompletionIsUnique : Type 0
CompletionIsUnique = (given : List Wall) (n m : ℕ) (e e' : Diagram) → n ≤ m → Every (IsWall m) given → IsCompletion given n e → IsCompletion given n e' → e ≡ e'

-- a completion cut to a lower order is the completion of that order
abbrev pub LowerOrdersComplete : Type 0
LowerOrdersComplete = (given : List Wall) (n m k : ℕ) (e : Diagram) → n ≤ m → m ≤ k → Every (IsWall k) given → IsCompletion given m e → IsCompletion given n (lowered n e)

-- the initial walls alone, cut to degree 0, are the completion of order 0
abbrev pub OrderZeroCompletes : Type 0
OrderZeroCompletes = (given : List Wall) (m : ℕ) → Every (IsWall m) given → IsCompletion given 0 (record { initial = cut_walls 0 given; rays = [] })

-- ---- stops

-- what stops an order is one
abbrev pub StopIsUnique : Type 0
StopIsUnique = (given : List Wall) (n m : ℕ) (s t : Option StopCause) → n ≤ m → Every (IsWall m) given → IsStopAt given n s → IsStopAt given n t → s ≡ t

-- and so is the first stop
abbrev pub FirstStopIsUnique : Type 0
FirstStopIsUnique = (given : List Wall) (k m : ℕ) (s t : Option (ℕ × StopCause)) → k ≤ m → Every (IsWall m) given → IsFirstStop given k s → IsFirstStop given k t → s ≡ t

-- What stops an order: the first cause, and the first order with one.
--     IsStopAt given n stop         what stops order n, or nothing
--     IsFirstStop given k stop      the first order up to k that is stopped, with its cause, or none
--     last_before k stop            the last order that is completed
use Rattle.std.specs.Prelude.{◌≡◌, ℕ, zero, suc, ◌+◌, ◌<◌, ◌≤◌, IsTrue, List, length, Option, Some, None}
use Rattle.limits.specs.Limits.{largest_weight, most_walls}
use Rattle.scattering.specs.Plane.{Point, IsPoint, IsNear}
use Rattle.scattering.specs.Wall.{Wall, Diagram, walls}
use Rattle.scattering.specs.LocalProduct.{weight}
use Rattle.scattering.specs.Completion.{IsCompletion}
use Rattle.scattering.specs.ActivePoint.{is_active}
use Rattle.scattering.specs.Correction.{raised}

pub data StopCause : Type 0 where
  PointTooLarge : StopCause
  WeightTooLarge : StopCause
  TooManyWalls : StopCause

abbrev pub AllNear : ℕ → List Wall → Type 0
AllNear n ws = (p : Point) → IsPoint p → IsTrue (is_active n ws p) → IsNear p

abbrev pub SomeFar : ℕ → List Wall → Type 0
SomeFar n ws = (p : Point) × IsPoint p × IsTrue (is_active n ws p) × (IsNear p → ⊥)

abbrev pub AllLight : ℕ → List Wall → Type 0
AllLight n ws = (p : Point) → IsPoint p → IsTrue (is_active n ws p) → weight ws p n ≤ largest_weight

abbrev pub SomeHeavy : ℕ → List Wall → Type 0
SomeHeavy n ws = (p : Point) × IsPoint p × IsTrue (is_active n ws p) × (largest_weight < weight ws p n)

-- what stops order n + 1, where ws are the walls of the completion of order n, raised
abbrev pub StopsAfter : List Wall → ℕ → List Wall → Option StopCause → Type 0
StopsAfter given n ws (Some PointTooLarge) = SomeFar (n + 1) ws
StopsAfter given n ws (Some WeightTooLarge) = AllNear (n + 1) ws × SomeHeavy (n + 1) ws
StopsAfter given n ws (Some TooManyWalls) = AllNear (n + 1) ws × AllLight (n + 1) ws × ((e' : Diagram) × IsCompletion given (n + 1) e' × (most_walls < length (walls e')))
StopsAfter given n ws None = AllNear (n + 1) ws × AllLight (n + 1) ws × ((e' : Diagram) × IsCompletion given (n + 1) e' × (length (walls e') ≤ most_walls))

abbrev pub IsStopAt : List Wall → ℕ → Option StopCause → Type 0
IsStopAt given zero stop = stop ≡ None
IsStopAt given (suc n) stop = (e : Diagram) × IsCompletion given n e × StopsAfter given n (walls (raised given n e)) stop

-- the first stop up to order k, and the last order that is completed
abbrev pub IsFirstStop : List Wall → ℕ → Option (ℕ × StopCause) → Type 0
IsFirstStop given k None = (n : ℕ) → n ≤ k → IsStopAt given n None
IsFirstStop given k (Some s) = (s.0 ≤ k) × IsStopAt given s.0 (Some s.1) × ((n : ℕ) → n < s.0 → IsStopAt given n None)

abbrev pub last_before : ℕ → Option (ℕ × StopCause) → ℕ
last_before k None = k
last_before k (Some (zero, c)) = 0
last_before k (Some (suc n, c)) = n

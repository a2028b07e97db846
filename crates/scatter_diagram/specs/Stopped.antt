-- Stops as the definitions see them.
--     cause_of c        the cause
--     stop_of s         the order that is stopped and its cause, or none
--     IfStop s P        P of the order and the cause of a stop; want of memory says nothing
use Rattle.std.specs.Prelude.{ℕ, Option, option_map}
use Rattle.scattering.specs.Stops.{StopCause, PointTooLarge, WeightTooLarge, TooManyWalls}
use Rattle.scatter_diagram.specs.declared.stop.Stop.{Stop}
use Rattle.scatter_diagram.specs.declared.stop.Stop.TheVariants.{At, Memory}
use Rattle.scatter_diagram.specs.declared.stop.StopCause.{StopCause as CodeCause}
use Rattle.scatter_diagram.specs.declared.stop.StopCause.TheVariants.{PointTooLarge as FarPoint, WeightTooLarge as HeavyPoint, TooManyWalls as ManyWalls}

abbrev pub cause_of : CodeCause → StopCause
cause_of FarPoint = PointTooLarge
cause_of HeavyPoint = WeightTooLarge
cause_of ManyWalls = TooManyWalls

abbrev pub stop_of : Option (ℕ × CodeCause) → Option (ℕ × StopCause)
stop_of stop = option_map (λ s. (s.0, cause_of s.1)) stop

abbrev pub IfStop : Stop → (ℕ → StopCause → Type 0) → Type 0
IfStop (At n c) P = P n (cause_of c)
IfStop Memory P = Unit {0}

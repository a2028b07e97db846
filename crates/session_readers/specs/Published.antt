-- What the writer of a session is told of the order that it doesn't publish.
--     IsStopAfter c s     s has the order after c, and what stops it
use Rattle.std.specs.Prelude.{◌≡◌, ℕ, ◌+◌, Some}
use Rattle.scattering.specs.Stops.{IsStopAt}
use Rattle.scatter_diagram.specs.Stopped.{cause_of}
use Rattle.scatter_diagram.specs.declared.stop.StopCause.{StopCause}
use Rattle.scatter_step.specs.Completed.{SeenCompleted}

abbrev pub IsStopAfter : SeenCompleted → ℕ × StopCause → Type 0
IsStopAfter c s = (s.0 ≡ c.order + 1) × IsStopAt c.initial.lines (c.order + 1) (Some (cause_of s.1))

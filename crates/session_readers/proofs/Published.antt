-- The outcome of a writer whose next order is stopped.
use Rattle.std.proofs.Common.{◌≡◌, ℕ, ◌<◌, sym, subst, Option, Some, None}
use Rattle.std.specs.Prelude.{IsSomeAnd}
use Rattle.scatter_diagram.specs.Listed.{SeenInitial}
use Rattle.scatter_diagram.specs.declared.stop.StopCause.{StopCause}
use Rattle.scatter_step.specs.Completed.{SeenCompleted}
use Rattle.scatter_step.specs.Orders.{IsOutcome}
use Rattle.scatter_step.specs.declared.complete.Outcome.{Outcome}
use Rattle.scatter_step.proofs.Outcomes.{IsReached, outcome-stopped}
use Rattle.session_readers.specs.Published.{IsStopAfter}

pub outcome-of-stop : (i : SeenInitial) (top k : ℕ) (c : SeenCompleted) (o : Outcome) → IsReached i k c → k < top → o.last ≡ c → IsSomeAnd o.stop (IsStopAfter c) → IsOutcome i top o
outcome-of-stop i top k c o h l same stops = subst (λ (d : SeenCompleted). IsOutcome i top (record { last = d; stop = o.stop })) (sym same) (go o.stop stops)
  where
    go : (s : Option (ℕ × StopCause)) → IsSomeAnd s (IsStopAfter c) → IsOutcome i top (record { last = c; stop = s })
    go None a = absurd a
    go (Some s) a = outcome-stopped i top k c h l s.0 s.1 a.0 a.1

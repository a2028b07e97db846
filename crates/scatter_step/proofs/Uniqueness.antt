-- A completion of lines is the only one, and cut to a lower order it is that order's.
use Rattle.std.proofs.Common.{◌≡◌, ℕ, subst}
use Rattle.scattering.specs.Completion.{IsCompletion}
use Rattle.completion_theory.proofs.UniqueCompletion.{completion_is_unique}
use Rattle.completion_theory.proofs.LowerOrders.{lower_orders}
use Rattle.scatter_diagram.specs.Listed.{SeenInitial}
use Rattle.scatter_step.specs.Laws.{CompletedIsUnique, CompletionIsOne, TruncationCompletes}

pub completion-is-one : CompletionIsOne
completion-is-one c e h k = completion_is_unique c.initial.lines c.order 24 e c.diagram h.order h.given k h.completes

pub completed-is-unique : CompletedIsUnique
completed-is-unique c d h k i n =
    let q : c.diagram ≡ d.diagram = completion-is-one d c.diagram k (subst (λ (m : ℕ). IsCompletion d.initial.lines m c.diagram) n (subst (λ (x : SeenInitial). IsCompletion x.lines c.order c.diagram) i h.completes)) in
    λ j. record { initial = i j; order = n j; diagram = q j }

pub truncation-completes : TruncationCompletes
truncation-completes c n h l = lower_orders c.initial.lines n c.order 24 c.diagram l h.order h.given h.completes

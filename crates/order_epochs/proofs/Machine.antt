-- What the store gives is what the order machine says.
use Rattle.std.proofs.Common.{ℕ, ◌+◌, max, refl, ap, ◌∙◌}
use Rattle.order_machine.specs.declared.event.Event.TheVariants.{Publish, Tell, Learn}
use Rattle.order_machine.specs.declared.event.Reply.TheVariants as reply
use Rattle.order_machine.proofs.Counts.{newest_more, told_more, seen_more}
use Rattle.order_machine.proofs.Workers.{same_number}
use Rattle.order_epochs.specs.Machine.{IsPublish, IsTell, IsLearn}

pub publishes : (n : ℕ) → IsPublish n (n + 1)
publishes n h at = (ap (λ (k : ℕ). reply.Published (k + 1)) at, newest_more h Publish ∙ ap (λ (k : ℕ). k + 1) at)

pub tells : (n : ℕ) → IsTell n n
tells n r h at = told_more r h (Tell r) ∙ rw (same_number r, at) refl

pub learns : (n m : ℕ) → IsLearn n m (max n m)
learns n m r h seen told = seen_more r h (Learn r) ∙ rw (same_number r, seen, told) refl

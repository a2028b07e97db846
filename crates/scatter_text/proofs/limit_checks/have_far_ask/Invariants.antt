use Rattle.std.proofs.Common.{◌≡◌, false, take}
use Rattle.std.specs.List.{list_any}
use Rattle.scatter_text.specs.Limits.{is_far}
use Rattle.scatter_text.proofs.limit_checks.have_far_ask.Given as goal

abbrev pub invariant-loop-ask : goal.invariant-loop-ask
invariant-loop-ask l = list_any (λ a. is_far a.x a.y) (take l.ask-index l.asks) ≡ false

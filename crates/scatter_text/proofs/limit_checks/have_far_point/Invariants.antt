use Rattle.std.proofs.Common.{◌≡◌, false, take}
use Rattle.std.specs.List.{list_any}
use Rattle.scatter_text.specs.Limits.{is_far}
use Rattle.scatter_text.proofs.limit_checks.have_far_point.Given as goal

abbrev pub invariant-loop-line : goal.invariant-loop-line
invariant-loop-line l = list_any (λ l. is_far l.x l.y) (take l.line-index l.lines) ≡ false

use Rattle.std.proofs.Common.{rules, is_lt}
use Rattle.std.proofs.lemmas.List.Sorted.{ranks_by, answers_always}
use Rattle.plane_geom.proofs.Ordered.{points-ordered}
use Rattle.plane_geom.specs.Shown.{position_order}
use Rattle.joint_finder.proofs.order.sort.Goals as goal

pub returns-clause-sorted : goal.returns-clause-sorted
returns-clause-sorted c = c.sort_unstable_by.ensures.sorted (λ p q. is_lt (position_order p q)) (ranks_by points-ordered (λ p. p)) (answers_always _ _ _ (λ f a r g k. search rules))

use Rattle.std.proofs.Common.{rules, is_lt}
use Rattle.std.proofs.lemmas.List.Sorted.{ranks_by, answers_always}
use Rattle.plane_geom.proofs.Ordered.{points-ordered}
use Rattle.bend_finder.specs.declared.marks.Mark.{Mark}
use Rattle.bend_finder.specs.Marks.{mark_order}
use Rattle.bend_finder.proofs.marks.sort.Goals as goal

pub returns-clause-sorted : goal.returns-clause-sorted
returns-clause-sorted c = c.sort_unstable_by.ensures.sorted (λ m n. is_lt (mark_order m n)) (ranks_by points-ordered (λ (m : Mark). m.at)) (answers_always _ _ _ (λ f a r g k. search rules))

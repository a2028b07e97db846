use Rattle.std.proofs.Common.{rules, is_lt}
use Rattle.std.proofs.lemmas.List.Sorted.{ranks_by, answers_always}
use Rattle.scatter_text.specs.PrintedRows.{printed_order}
use Rattle.scatter_text.proofs.SortedRows.{rows-ordered}
use Rattle.scatter_text.proofs.along.sort.Goals as goal

pub returns-clause-sorted : goal.returns-clause-sorted
returns-clause-sorted c = c.sort_unstable_by.ensures.sorted (λ r s. is_lt (printed_order r s)) (ranks_by rows-ordered (λ r. r)) (answers_always _ _ _ (λ f a r g k. search rules))

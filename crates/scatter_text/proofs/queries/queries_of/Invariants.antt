-- The queries so far.
use Rattle.std.proofs.Common.{take}
use Rattle.std.specs.List.{AllZip}
use Rattle.scatter_text.specs.GivenQueries.{IsReadersQueryOf}
use Rattle.scatter_text.proofs.queries.queries_of.Given as goal

abbrev pub invariant-loop-ask : goal.invariant-loop-ask
invariant-loop-ask l = AllZip IsReadersQueryOf (take l.ask-index l.asks) l.queries.items

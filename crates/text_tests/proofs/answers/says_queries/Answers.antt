-- A file that passes no limit is within the limits on asks.
use Rattle.std.proofs.Common.{arith, sym, ◌∙◌}
use Rattle.scatter_text.proofs.AskQueries.{asks-within-first-limit}
use Rattle.text_tests.proofs.answers.says_queries.Goals as goal

pub queries_of-requires : goal.queries_of-requires
queries_of-requires c = asks-within-first-limit c.in-Some.file 24 2 (omega arith) (sym c.check_limits.ensures ∙ c.in-None-check_limits.is)

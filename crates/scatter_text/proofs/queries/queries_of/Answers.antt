-- Each ask gives one query more.
use Rattle.std.proofs.Common.{◌<◌, ◌+◌, ℕ, List, length, take, get_or, sym, subst}
use Rattle.std.specs.List.{AllZip}
use Rattle.theta_algebra.specs.declared.query.Query.{Query}
use Rattle.scatter_text.specs.declared.file.AskRow.{AskRow}
use Rattle.scatter_text.specs.GivenQueries.{IsLimitedAsk, IsReadersQueryOf}
use Rattle.scatter_text.proofs.AskQueries.{limited-ask, queries-more, all-queries, no_ask}
use Rattle.scatter_text.proofs.queries.queries_of.Goals as goal

pub readers_query-requires : goal.readers_query-requires
readers_query-requires c =
    let l = subst (λ (xs : List AskRow). c.loop-ask.ask-index < length xs) c.as_slice-asks.ensures c.loop-ask-test.true in
    subst (λ (xs : List AskRow). IsLimitedAsk (get_or xs c.loop-ask.ask-index no_ask)) (sym c.as_slice-asks.ensures) (limited-ask c.args.file.now c.requires c.loop-ask.ask-index no_ask l)

pub loop-ask-preserved : goal.loop-ask-preserved
loop-ask-preserved c =
    let a = get_or c.as_slice-asks.result.now c.loop-ask.ask-index no_ask in
    subst (λ (qs : List (ℕ × Query)). AllZip IsReadersQueryOf (take (c.loop-ask.ask-index + 1) c.as_slice-asks.result.now) qs) (sym c.in_ok-push.ensures.items)
    (queries-more c.as_slice-asks.result.now c.loop-ask.queries.items c.loop-ask.ask-index c.readers_query.result c.loop-ask-test.true c.loop-ask.invariant c.readers_query.ensures)

pub returns : goal.returns
returns c = all-queries c.args.file.now.asks c.as_slice-asks.result.now c.loop-ask.queries.items c.loop-ask.ask-index c.as_slice-asks.ensures c.loop-ask-test.false c.loop-ask.invariant

use Rattle.std.proofs.Common.{List, ℕ, sym, subst}
use Rattle.scattering.specs.Wall.{walls}
use Rattle.trunc_series.specs.declared.key.Exp.{Exp as CodeExp}
use Rattle.broken_lines.specs.Reached.{AreAllReached, reached_of}
use Rattle.broken_lines.proofs.ReachList.{reach-list}
use Rattle.broken_lines.proofs.reaching.reach.Goals as goal

pub returns-clause-reach : goal.returns-clause-reach
returns-clause-reach c =
    let vs = walls c.args.e.now.diagram in
    subst (λ (es : List (CodeExp × ℕ)). AreAllReached c.args.limit vs (reached_of es)) (sym c.in_ok-entries.ensures.items)
    (reach-list c.args.limit vs c.in_ok-reach_map.field-0 c.in_ok-reach_map.ensures.reach c.in_ok-entries.ensures.ordered)
